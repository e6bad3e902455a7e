use Rattle.std.proofs.Common.{sym, ◌∙◌, refl, arith}
use Rattle.sv8_phys.proofs.Difference.{next_same, next_other, next_none}
use Rattle.sv8_phys.proofs.block.Block.next_difference.Goals as goal

pub returns-then-word-clause-value : goal.returns-then-word-clause-value
returns-then-word-clause-value c =
    sym (next_other c.args.self.now.bytes c.args.other.now.bytes 128 c.loop-at.at refl c.loop-at.invariant.aligned c.loop-at-test.true
    (λ e. c.if-word.true (c.word.ensures ∙ e ∙ sym c.word-in-loop-at.ensures)))
    ∙ c.loop-at.invariant.same

pub loop-at-preserved : goal.loop-at-preserved
loop-at-preserved c =
    let aligned = c.loop-at.invariant.aligned in
    record {
      aligned = omega (arith, aligned);
      within = omega (arith, aligned, c.loop-at-test.true);
      same = next_same c.args.self.now.bytes c.args.other.now.bytes 128 c.loop-at.at refl aligned c.loop-at-test.true
          (sym c.word.ensures ∙ c.if-word.false ∙ c.word-in-loop-at.ensures)
          ∙ c.loop-at.invariant.same;
    }

pub returns-clause-value : goal.returns-clause-value
returns-clause-value c =
    let past = c.loop-at-test.false in
    sym (next_none c.args.self.now.bytes c.args.other.now.bytes 128 c.loop-at.at refl c.loop-at.invariant.aligned (omega (arith, past))) ∙ c.loop-at.invariant.same
