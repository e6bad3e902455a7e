use Rattle.sv8_trace.specs.declared.prepared.Staged.{Staged}
use Rattle.sv8_trace.proofs.Preparing.{staged_cut}
use Rattle.sv8_trace.proofs.trace.Trace.stage.Goals as goal

pub returns-clause-near : goal.returns-clause-near
returns-clause-near g c =
    let s : Staged = record { count = c.args.count; pages = c.in_ok-empty_places.field-0; levels = c.in_ok-empty_places-2.field-0; kept = c.in_ok-empty_places-3.field-0 } in
    staged_cut g.row.NW g.row.PAGES g.row.K c.args.self.now s c.self.invariant.3 c.in_ok-empty_places.ensures c.in_ok-empty_places-2.ensures c.in_ok-empty_places-3.ensures
