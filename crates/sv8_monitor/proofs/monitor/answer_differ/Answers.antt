use Rattle.std.proofs.Common.{subst}
use Rattle.sv8_session.specs.Put.{Replies}
use Rattle.sv8_monitor.specs.declared.question.Question.TheVariants.{Differ}
use Rattle.sv8_monitor.specs.Pair.{Pair}
use Rattle.sv8_monitor.specs.Session.{Both, ask, kept_of, language}
use Rattle.sv8_monitor.proofs.MonitorLemmas.{reply-differ}
use Rattle.sv8_monitor.proofs.monitor.answer_differ.Goals as goal

pub returns : goal.returns
returns g c =
    let call = c.compare_memories in
    let old : Both = record { now = c.monitor.inside.current.kept; before = c.monitor.inside.before.kept } in
    let next : Both = record { now = call.new.now.kept; before = call.new.before.kept } in
    subst (λ (p : Pair). Replies language call.result (g.W.Write.contents c.args.writer.now) (g.W.Write.contents call.new.writer) (kept_of p) (ask (Differ c.args.at_now c.args.at_before c.args.count)) next) c.monitor.view_is
    (reply-differ call.result (g.W.Write.contents c.args.writer.now) (g.W.Write.contents call.new.writer) old next c.args.at_now c.args.at_before c.args.count call.ensures.before call.ensures.replies)
