use Rattle.std.proofs.Common.{◌≡◌, ◌∙◌, ◌+◌, inl, inr, false, ap, sym, subst, arith}
use Rattle.sv8_time.specs.Schedule.{Schedule}
use Rattle.sv8_evidence.specs.Showing.{NoneShows}
use Rattle.sv8_evidence.specs.declared.signs.Sign.TheVariants as sign
use Rattle.sv8_watch.specs.declared.condition.Condition.{Condition}
use Rattle.sv8_watch.specs.declared.condition.Condition.TheVariants as condition
use Rattle.sv8_watch.specs.Happening.{stands_at}
use Rattle.sv8_search.specs.Search.{meets_at}
use Rattle.sv8_search.specs.Plans.{HasFlagsOf}
use Rattle.sv8_search.proofs.Planning.{flags_left, flags_of_test}
use Rattle.sv8_search.proofs.Shown.{none_stands, takes_no_trap, takes_no_type}
use Rattle.sv8_search.proofs.plan.flag_condition.Goals as goal

pub returns-in-Trap : goal.returns-in-Trap
returns-in-Trap g c =
    let a = c.args in
    let w = a.bench.now in
    let h = c.flag_shown.ensures in
    flags_left w.kept a.condition a.from a.flags.now c.flag_shown.new.flags (λ i. NoneShows sign.Trap g.row.K w.recording (a.from + i) (a.from + i + 1)) h.flagged (λ i inside unset.
    let it = takes_no_trap g.row.K w (a.from + i) (a.from + i + 1) (a.from + i) (omega arith) (omega arith) (h.spared i inside unset) in
    elim c.in-Trap.is [
      | inl e ↦ subst (λ (x : Condition). meets_at w.kept x (a.from + i) ≡ false) (sym e) it.none
      | inr e ↦ subst (λ (x : Condition). meets_at w.kept x (a.from + i) ≡ false) (sym e) it.no_error
    ])

pub returns-in-TrapType : goal.returns-in-TrapType
returns-in-TrapType g c =
    let a = c.args in
    let w = a.bench.now in
    let h = c.flag_shown-in-TrapType.ensures in
    let type = c.in-TrapType.trap_type in
    flags_left w.kept a.condition a.from a.flags.now c.flag_shown-in-TrapType.new.flags (λ i. NoneShows (sign.TrapType type) g.row.K w.recording (a.from + i) (a.from + i + 1)) h.flagged
    (λ i inside unset. subst (λ (x : Condition). meets_at w.kept x (a.from + i) ≡ false) (sym c.in-TrapType.is)
    (takes_no_type g.row.K w (a.from + i) (a.from + i + 1) (a.from + i) (omega arith) (omega arith) type (h.spared i inside unset)))

pub returns-in-Event : goal.returns-in-Event
returns-in-Event g c =
    let a = c.args in
    let kept = a.bench.now.kept in
    subst (λ (x : Condition). HasFlagsOf kept x a.from a.flags.now c.flag_events.new.flags) (sym c.in-Event.is)
    (flags_of_test kept condition.Event a.from a.flags.now c.flag_events.new.flags (λ i. stands_at c.timeline.result.now (a.from + i)) c.flag_events.ensures
    (λ i inside none. none_stands kept (a.from + i) (a.from + i + 1) (λ n low high.
    let at : n ≡ a.from + i = omega (arith, low, high) in
    ap (stands_at kept.timeline) at ∙ ap (λ (t : Schedule). stands_at t (a.from + i)) (sym c.timeline.ensures) ∙ none) (a.from + i) (omega arith) (omega arith)))
