use Rattle.std.proofs.Common.{◌≤◌, Some, sym, ◌∙◌, arith}
use Rattle.sv8_phys.specs.Memory.{ram_size}
use Rattle.sv8_phys.proofs.Difference.{next_none, is_word}
use Rattle.sv8_phys.proofs.ram.Ram.next_difference.Goals as goal

pub loop-at-preserved : goal.loop-at-preserved
loop-at-preserved g c = record {
  aligned = omega arith;
  same = sym c.in-None.ensures ∙ c.loop-at.invariant.same;
}

pub returns-clause-value : goal.returns-clause-value
returns-clause-value g c =
    let past : ram_size g.row.PAGES ≤ c.loop-at.at = omega (arith, c.len.ensures.value, c.loop-at-test.false) in
    sym (next_none c.args.self.now c.args.other.now (ram_size g.row.PAGES) c.loop-at.at (omega arith) c.loop-at.invariant.aligned past) ∙ c.loop-at.invariant.same

pub returns-in-Some-clause-word : goal.returns-in-Some-clause-word
returns-in-Some-clause-word g c =
    is_word c.args.self.now c.args.other.now (ram_size g.row.PAGES) c.args.from (omega arith) c.requires (Some c.in-Some.found)
    (sym c.in-Some.ensures ∙ c.loop-at.invariant.same)
