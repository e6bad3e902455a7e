use Rattle.std.proofs.Common.{◌++◌, ap, ◌∙◌}
use Rattle.sv8_notes.specs.Kept.{kept_in}
use Rattle.sv8_cpu.specs.Recorded.{event_at}
use Rattle.sv8_trace.specs.Recorder.{below_requests}
use Rattle.sv8_trace.proofs.Below.{below_is}
use Rattle.sv8_trace.proofs.recorder.keep_events.Goals as goal

pub returns : goal.returns
returns g c = λ j cell.
    ap (kept_in j cell) (c.in_ok-keep_levels.ensures ∙ ap (λ l. l ++ below_requests c.args.offset c.args.machine.now c.events-events.result.requests.now) c.in_ok-keep_words.ensures)
    ∙ below_is c.args.offset c.args.machine.now c.args.timeline.now.limit c.args.kept.now (event_at c.args.timeline.now c.args.n) c.events-events.result.pokes.now c.events-events.result.requests.now c.events-events.ensures.inside c.events-events.ensures.pokes c.events-events.ensures.requests c.requires.free j cell
