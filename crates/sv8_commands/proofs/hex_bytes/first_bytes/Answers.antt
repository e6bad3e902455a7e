use Rattle.std.proofs.Common.{◌∙◌, sym}
use Rattle.sv8_commands.specs.Words.{bytes_in}
use Rattle.sv8_commands.proofs.WordLemmas.{bytes-many, bytes-end}
use Rattle.sv8_commands.proofs.hex_bytes.first_bytes.Goals as goal

pub returns-then-len-eq-READ-clause-bytes : goal.returns-then-len-eq-READ-clause-bytes
returns-then-len-eq-READ-clause-bytes c =
    bytes-many 1025 c.loop-rest.bytes.items (bytes_in c.loop-rest.rest.now) (bytes_in c.args.digits.now) c.loop-rest.invariant.0 (sym c.len.ensures.value ∙ c.if-len-eq-READ.true)

pub returns-clause-bytes : goal.returns-clause-bytes
returns-clause-bytes c =
    bytes-end 1025 c.loop-rest.bytes.items c.loop-rest.rest.now (bytes_in c.args.digits.now) c.in_default.len_below c.loop-rest.invariant.1 c.loop-rest.invariant.0
