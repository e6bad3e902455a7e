use Rattle.std.proofs.Common.{◌∙◌, ap, sym, subst}
use Rattle.sv8_time.specs.Schedule.{Schedule}
use Rattle.sv8_watch.specs.declared.condition.Condition.{Condition}
use Rattle.sv8_watch.specs.Happening.{stands_at}
use Rattle.sv8_search.specs.Search.{MeetsNone}
use Rattle.sv8_search.proofs.Shown.{none_stands, none_traps, none_traps_of, not_true}
use Rattle.sv8_search.proofs.evidence.shows_none.Goals as goal

pub returns-in-Trap : goal.returns-in-Trap
returns-in-Trap g c = λ e.
    let a = c.args in
    subst (λ (x : Condition). MeetsNone a.bench.now.kept x a.from a.to) (sym c.in-Trap.is) (none_traps g.row.K a.bench.now a.from a.to c.shows_none.result _ c.shows_none.ensures e)

pub returns-in-TrapType : goal.returns-in-TrapType
returns-in-TrapType g c = λ e.
    let a = c.args in
    subst (λ (x : Condition). MeetsNone a.bench.now.kept x a.from a.to) (sym c.in-TrapType.is)
    (none_traps_of g.row.K a.bench.now c.in-TrapType.trap_type a.from a.to c.shows_none-in-TrapType.result _ c.shows_none-in-TrapType.ensures e)

pub returns-in-Event : goal.returns-in-Event
returns-in-Event g c = λ e.
    let a = c.args in
    subst (λ (x : Condition). MeetsNone a.bench.now.kept x a.from a.to) (sym c.in-Event.is)
    (none_stands a.bench.now.kept a.from a.to
    (λ n low below. ap (λ (t : Schedule). stands_at t n) (sym c.timeline.ensures) ∙ c.stands_between.ensures (not_true c.stands_between.result e) n low below))
