use Rattle.sv8_source.specs.Listing.{listing}
use Rattle.sv8_source.specs.View.{shown_of}
use Rattle.sv8_phys.specs.Memory.{ram_size}
use Rattle.sv8_reset.proofs.LoadedImage.{placed_next, placed_none}
use Rattle.sv8_reset.proofs.loading.place_line.Goals as goal

pub returns-in-None-clause-placed : goal.returns-in-None-clause-placed
returns-in-None-clause-placed g c = placed_none (ram_size g.row.PAGES) c.args.index (listing c.args.source.now) c.args.phys.now.ram c.in-None.ensures

pub returns-in_ok-place_bytes-in-Some-clause-placed : goal.returns-in_ok-place_bytes-in-Some-clause-placed
returns-in_ok-place_bytes-in-Some-clause-placed g c =
    rw c.in_ok-place_bytes-in-Some.ensures
    (placed_next (ram_size g.row.PAGES) c.args.index (listing c.args.source.now) c.args.phys.now.ram (shown_of c.in-Some.line) c.in-Some.ensures)
