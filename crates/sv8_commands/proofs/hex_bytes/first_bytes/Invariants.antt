use Rattle.std.proofs.Common.{◌≡◌, ◌+◌, ◌*◌, ◌≤◌, ◌++◌, true, length}
use Rattle.sv8_commands.specs.Words.{all_hex, bytes_in}
use Rattle.sv8_commands.proofs.hex_bytes.first_bytes.Given as goal

abbrev pub invariant-loop-rest : goal.invariant-loop-rest
invariant-loop-rest l =
    (l.bytes.items ++ bytes_in l.rest ≡ bytes_in l.digits) × (length l.bytes.items ≤ 1025) × (all_hex l.rest ≡ true) × (length l.rest + 2 * length l.bytes.items ≡ length l.digits)

abbrev pub decreases-loop-rest : goal.decreases-loop-rest
decreases-loop-rest l = length l.rest
