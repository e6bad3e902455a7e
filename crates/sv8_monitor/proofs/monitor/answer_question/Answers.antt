use Rattle.std.proofs.Common.{sym, subst}
use Rattle.sv8_bench.specs.Alike.{AreAlikeUpTo}
use Rattle.sv8_workbench.specs.Kept.{Kept}
use Rattle.sv8_monitor.proofs.KeepLemmas.{query-keeps}
use Rattle.sv8_monitor.proofs.monitor.answer_question.Goals as goal

pub invariant_of-monitor : goal.invariant_of-monitor
invariant_of-monitor g c =
    let same = query-keeps c.answer_query.result _ _ c.in-Now.query _ _ c.answer_query.ensures in
    subst (λ (kept : Kept). AreAlikeUpTo c.monitor.inside.common c.monitor.inside.before.kept kept) (sym same) c.monitor.invariant

pub invariant_of-monitor-in-Before : goal.invariant_of-monitor-in-Before
invariant_of-monitor-in-Before g c =
    let same = query-keeps c.answer_query-in-Before.result _ _ c.in-Before.query _ _ c.answer_query-in-Before.ensures in
    subst (λ (kept : Kept). AreAlikeUpTo c.monitor-in-Before.inside.common kept c.monitor-in-Before.inside.current.kept) (sym same) c.monitor-in-Before.invariant
