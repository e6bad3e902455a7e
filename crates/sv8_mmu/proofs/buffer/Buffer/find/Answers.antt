use Rattle.std.proofs.Common.{sym, subst}
use Rattle.sv8_mmu.specs.Kept.{AreAmong, walks_of}
use Rattle.sv8_mmu.proofs.Keeping.{among_box, among_same}
use Rattle.sv8_mmu.proofs.buffer.Buffer.find.Goals as goal
use Rattle.sv8_mmu.proofs.buffer.Buffer.find.Goals.{in-Some, in-None}

pub returns-clause-among : goal.returns-clause-among
returns-clause-among c = elim c.match-self.branch [
  | in-Some w ↦
      subst (λ i. AreAmong (walks_of i.walks) c.args.self.now) (sym w.self-inside-is)
      (among_box c.self.inside.walks w.in-Some.walks _ w.find.new.self c.args.self.now c.self.view_is w.in-Some.is w.deref_mut.ensures.value w.find.ensures.among)
  | in-None w ↦ subst (λ i. AreAmong (walks_of i.walks) c.args.self.now) (sym w.self-inside-is) (among_same c.self.inside.walks c.args.self.now c.self.view_is)
]
