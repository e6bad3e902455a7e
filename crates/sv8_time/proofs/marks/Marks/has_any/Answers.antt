use Rattle.std.proofs.Common.{◌∙◌, ◌≤◌, length, false, inl, inr, ap, sym, arith}
use Rattle.std.proofs.lemmas.Bool.{cases_lt}
use Rattle.std.proofs.lemmas.List.{get_or_past}
use Rattle.sv8_time.specs.Marks.{is_marked}
use Rattle.sv8_time.proofs.marks.Marks.has_any.Goals as goal

pub returns : goal.returns
returns c = λ e step low below. elim (cases_lt step c.loop-step.step) [
  | inl before ↦ c.loop-step.invariant step low before
  | inr past ↦
      let beyond : length c.self.inside.flags.items ≤ step = omega (arith, c.len.ensures, c.min-end.ensures, c.loop-step-test.false, past, below) in
      ap (λ flags. is_marked flags step) (sym c.self.view_is) ∙ get_or_past c.self.inside.flags.items step false beyond
]
