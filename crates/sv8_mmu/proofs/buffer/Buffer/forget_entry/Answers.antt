use Rattle.std.proofs.Common.{◌∙◌, ap, sym, subst}
use Rattle.sv8_mmu.specs.Kept.{AreAmong, NoneReads, walks_of}
use Rattle.sv8_mmu.proofs.Keeping.{among_box, among_same, none_reads-nil}
use Rattle.sv8_mmu.proofs.buffer.Buffer.forget_entry.Goals as goal
use Rattle.sv8_mmu.proofs.buffer.Buffer.forget_entry.Goals.{in-Some, in_default}

pub returns-clause-among : goal.returns-clause-among
returns-clause-among c = elim c.match-self.branch [
  | in-Some w ↦
      subst (λ i. AreAmong (walks_of i.walks) c.args.self.now) (sym w.self-inside-is)
      (among_box c.self.inside.walks w.in-Some.walks _ w.forget_entry.new.self c.args.self.now c.self.view_is w.in-Some.is w.deref_mut.ensures.value w.forget_entry.ensures.among)
  | in_default w ↦ subst (λ i. AreAmong (walks_of i.walks) c.args.self.now) (sym w.self-inside-is) (among_same c.self.inside.walks c.args.self.now c.self.view_is)
]

pub returns-clause-none : goal.returns-clause-none
returns-clause-none c = elim c.match-self.branch [
  | in-Some w ↦ subst (λ i. NoneReads c.args.at (walks_of i.walks)) (sym w.self-inside-is) w.forget_entry.ensures.none
  | in_default w ↦ subst (λ o. NoneReads c.args.at (walks_of o)) (sym (ap (λ i. i.walks) w.self-inside-is ∙ w.in_default.is)) (none_reads-nil c.args.at)
]
