use Rattle.std.proofs.Common.{◌∙◌, sym, arith, refl}
use Rattle.sv8_difference.proofs.Lines.{differs, same_line, same_texts, same_text, other_texts, equal_texts, ended}
use Rattle.sv8_difference.proofs.first_difference.Goals as goal

pub returns-then-ne-clause-first : goal.returns-then-ne-clause-first
returns-then-ne-clause-first c =
    sym c.loop-due_rest.invariant.0 ∙ differs _ _ _ _ _ _ _ c.split_line.ensures c.split_line-in-loop-due_rest.ensures (other_texts _ _ _ c.ne.ensures c.if-ne.true)

pub returns-then-ne-clause-same : goal.returns-then-ne-clause-same
returns-then-ne-clause-same c =
    let found = returns-then-ne-clause-first c in
    (λ e. absurd (cc), λ e. let none = same_text c.args.came.now in absurd (cc))

pub loop-due_rest-preserved : goal.loop-due_rest-preserved
loop-due_rest-preserved c =
    let h = same_line c.loop-due_rest.line _ _ _ _ _ _ c.split_line.ensures c.split_line-in-loop-due_rest.ensures (equal_texts _ _ _ c.ne.ensures c.if-ne.false) (c.have_ended.ensures.some c.loop-due_rest-test.true) in
    let shorter = h.1 in
    let room = c.loop-due_rest.invariant.1 in
    (h.0 ∙ c.loop-due_rest.invariant.0, omega (arith, shorter, room))

pub returns-clause-first : goal.returns-clause-first
returns-clause-first c = let both = c.have_ended.ensures.ended c.loop-due_rest-test.false in sym c.loop-due_rest.invariant.0 ∙ ended _ _ _ both.0 both.1

pub returns-clause-same : goal.returns-clause-same
returns-clause-same c = (λ e. same_texts _ _ (returns-clause-first c), λ e. refl)
