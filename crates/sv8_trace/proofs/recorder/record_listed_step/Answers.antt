use Rattle.std.proofs.Common.{rules, ◌≡◌, ◌++◌, ap, ◌∙◌}
use Rattle.sv8_model.specs.Does.{Notes}
use Rattle.sv8_touches.specs.Told.{told}
use Rattle.sv8_notes.specs.Touched.{is_touched}
use Rattle.sv8_cpu.specs.Run.{footprint}
use Rattle.sv8_cpu.specs.Recorded.{event_at}
use Rattle.sv8_trace.proofs.Below.{nothing_below}
use Rattle.sv8_trace.proofs.recorder.record_listed_step.Goals as goal

pub returns-clause-recorded : goal.returns-clause-recorded
returns-clause-recorded g c =
    let touched = footprint g.row.NW g.row.PAGES c.args.timeline.now c.args.n c.args.machine.now in
    let quiet = c.requires.quiet in
    let seen : c.touches-touches.result.now ≡ touched = c.touches-touches.ensures ∙ ap (λ (n : Notes). n.touches) c.in_ok-watch_quiet.ensures.noted ∙ ap (λ l. l ++ touched) c.clear.ensures in
    record {
      gained = search rules;
      kept = λ j cell. nothing_below c.args.interval.now.kept (event_at c.args.timeline.now c.args.n) (is_touched (told touched) cell) j c.args.offset cell c.args.machine.now c.requires.nothing_kept quiet.0 quiet.1;
      signs = search rules;
    }
