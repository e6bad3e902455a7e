use Rattle.std.proofs.Common.{rules, ap, ◌∙◌, ◌≡◌, true, false}
use Rattle.sv8_touches.specs.Told.{told}
use Rattle.sv8_notes.specs.Recording.{with_touches}
use Rattle.sv8_notes.specs.Touched.{is_touched}
use Rattle.sv8_notes.proofs.Common.{ended_gains}
use Rattle.sv8_mmu.specs.Registers.{translates}
use Rattle.sv8_cpu.specs.Run.{footprint}
use Rattle.sv8_cpu.specs.Recorded.{event_at}
use Rattle.sv8_trace.proofs.Below.{nothing_below}
use Rattle.sv8_trace.proofs.Recorded.{ends_untranslated}
use Rattle.sv8_trace.proofs.recorder.record_quiet_step.Goals as goal

pub returns-clause-recorded : goal.returns-clause-recorded
returns-clause-recorded g c =
    let touched = footprint g.row.NW g.row.PAGES c.args.timeline.now c.args.n c.args.machine.now in
    let quiet = c.requires.quiet in
    let ran : c.args.machine.now.processor.running ≡ true = search rules in
    let off : translates c.args.machine.now.mmu ≡ false = search rules in
    record {
      gained =
          ended_gains c.args.interval.now.recorder.notes c.end.new.self.notes c.args.offset touched c.watch_quiet.new.notes
          (c.in_ok-watch_quiet.ensures.noted ∙ ap (λ r. with_touches r touched) c.begin.ensures) c.in_ok-end.ensures;
      kept = λ j cell. nothing_below c.args.interval.now.kept (event_at c.args.timeline.now c.args.n) (is_touched (told touched) cell) j c.args.offset cell c.args.machine.now c.requires.nothing_kept quiet.0 quiet.1;
      signs = c.in_ok-note_after.ensures ∙ ends_untranslated c.args.interval.now.signs c.args.offset c.args.machine.now c.watch_quiet.new.self ran off;
    }
