use Rattle.std.proofs.Common.{rules, ◌≡◌, ◌++◌, ap, ◌∙◌, cond, None}
use Rattle.sv8_model.specs.Does.{Notes}
use Rattle.sv8_touches.specs.Told.{told}
use Rattle.sv8_notes.specs.Kept.{kept_in}
use Rattle.sv8_notes.specs.Touched.{is_touched}
use Rattle.sv8_cpu.specs.Run.{footprint}
use Rattle.sv8_trace.proofs.recorder.record_eventful_step.Goals as goal

pub returns-clause-recorded : goal.returns-clause-recorded
returns-clause-recorded g c =
    let touched = footprint g.row.NW g.row.PAGES c.args.timeline.now c.args.n c.args.machine.now in
    let seen : c.touches-touches.result.now ≡ touched = c.touches-touches.ensures ∙ ap (λ (n : Notes). n.touches) c.in_ok-watch.ensures.noted ∙ ap (λ l. l ++ touched) c.clear.ensures in
    record {
      gained = search rules;
      kept = λ j cell.
          c.in_ok-record_touches.ensures.kept j cell
          ∙ ap (λ ts. cond (is_touched (told ts) cell) None (kept_in j cell c.keep_below.new.kept)) seen
          ∙ ap (λ o. cond (is_touched (told touched) cell) None o) (c.in_ok-keep_below.ensures j cell);
      signs = search rules;
    }
