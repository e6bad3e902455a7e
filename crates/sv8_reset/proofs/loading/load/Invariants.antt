use Rattle.std.proofs.Common.{◌≡◌, drop}
use Rattle.sv8_source.specs.Listing.{listing}
use Rattle.sv8_phys.specs.Memory.{ram_size}
use Rattle.sv8_reset.specs.Loading.{lines_placed}
use Rattle.sv8_reset.proofs.loading.load.Given as goal

abbrev pub invariant-loop-index : goal.invariant-loop-index
invariant-loop-index g l =
    (lines_placed (ram_size g.row.PAGES) (drop l.index (listing l.source)) l.phys.ram ≡ lines_placed (ram_size g.row.PAGES) (listing l.source) l.fn.phys.ram)
    × (l.phys ≡ record l.fn.phys { ram = l.phys.ram })
