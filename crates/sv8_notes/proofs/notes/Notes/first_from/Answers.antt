use Rattle.std.proofs.Common.{sym, subst}
use Rattle.sv8_notes.specs.Cells.{cell_of}
use Rattle.sv8_notes.specs.Steps.{IsFirstBelow, footprint_in}
use Rattle.sv8_notes.specs.Sought.{is_met}
use Rattle.sv8_notes.proofs.notes.Notes.first_from.Goals as goal

pub returns-in-Touch : goal.returns-in-Touch
returns-in-Touch c =
    let both = c.lesser.ensures (λ n. (footprint_in c.args.self.now n).reads (cell_of c.in-Touch.cell)) (λ n. (footprint_in c.args.self.now n).writes (cell_of c.in-Touch.cell)) c.args.from c.args.end c.first_read-in-Touch.ensures c.first_write-in-Touch.ensures in
    subst (λ s. IsFirstBelow (λ n. is_met s (footprint_in c.args.self.now n)) c.args.from c.args.end c.lesser.result) (sym c.in-Touch.is) both
