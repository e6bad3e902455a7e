use Rattle.std.proofs.Common.{◌++◌}
use Rattle.sv8_commands.proofs.PutLemmas.{gains-failed, Gains-after, gains-cut}
use Rattle.sv8_monitor.specs.Events.{words_text, input_text, requests_text}
use Rattle.sv8_monitor.proofs.Poked.{step_events_are}
use Rattle.sv8_monitor.proofs.event_lines.put_step.Goals as goal

pub returns : goal.returns
returns g c =
    let events = c.events-events.result in
    let known = c.events-events.ensures in
    rw (step_events_are c.args.timeline.now c.args.step events.pokes.now events.bytes.now events.requests.now known.pokes known.addresses_rise known.inside known.bytes known.requests)
    (Gains-after c.put_later.result _ _ _ _ _ _ _ _ c.in_ok-put_pieces.ensures c.put_later.ensures)

pub returns-in_err-put_pieces : goal.returns-in_err-put_pieces
returns-in_err-put_pieces g c =
    let events = c.events-events.result in
    let known = c.events-events.ensures in
    gains-failed c.from_residual.result _ _ _ _ _ c.from_residual.ensures.0 (rw (step_events_are c.args.timeline.now c.args.step events.pokes.now events.bytes.now events.requests.now known.pokes known.addresses_rise known.inside known.bytes known.requests)
    (gains-cut _ _ c.args.text.now (words_text events.pokes.now) (input_text c.args.step events.bytes.now ++ requests_text events.requests.now) c.in_err-put_pieces.ensures))
