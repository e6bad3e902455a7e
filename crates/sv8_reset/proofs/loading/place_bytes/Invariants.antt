use Rattle.std.proofs.Common.{◌≡◌, ◌+◌, length}
use Rattle.sv8_phys.specs.Memory.{ram_size}
use Rattle.sv8_reset.specs.Loading.{bytes_placed}
use Rattle.sv8_reset.proofs.loading.place_bytes.Given as goal

abbrev pub invariant-loop-rest : goal.invariant-loop-rest
invariant-loop-rest g l =
    (l.at + length l.rest ≡ l.fn.at + length l.fn.bytes)
    × (record l.phys { ram = bytes_placed (ram_size g.row.PAGES) l.at l.rest l.phys.ram } ≡ record l.fn.phys { ram = bytes_placed (ram_size g.row.PAGES) l.fn.at l.fn.bytes l.fn.phys.ram })

abbrev pub decreases-loop-rest : goal.decreases-loop-rest
decreases-loop-rest g l = length l.rest
