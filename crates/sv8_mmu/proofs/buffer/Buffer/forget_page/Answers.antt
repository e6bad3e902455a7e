use Rattle.std.proofs.Common.{◌∙◌, ap, sym, subst}
use Rattle.sv8_mmu.specs.Kept.{AreAmong, NoneReadsPage, walks_of}
use Rattle.sv8_mmu.proofs.Keeping.{among_box, among_same, none_reads_page-nil}
use Rattle.sv8_mmu.proofs.Walks.{stand_but_page}
use Rattle.sv8_mmu.proofs.buffer.Buffer.forget_page.Goals as goal
use Rattle.sv8_mmu.proofs.buffer.Buffer.forget_page.Goals.{in-Some, in_default}

pub returns-clause-among : goal.returns-clause-among
returns-clause-among c = elim c.match-self.branch [
  | in-Some w ↦
      subst (λ i. AreAmong (walks_of i.walks) c.args.self.now) (sym w.self-inside-is)
      (among_box c.self.inside.walks w.in-Some.walks _ w.forget_page.new.self c.args.self.now c.self.view_is w.in-Some.is w.deref_mut.ensures.value w.forget_page.ensures.among)
  | in_default w ↦ subst (λ i. AreAmong (walks_of i.walks) c.args.self.now) (sym w.self-inside-is) (among_same c.self.inside.walks c.args.self.now c.self.view_is)
]

pub returns-clause-none : goal.returns-clause-none
returns-clause-none c = elim c.match-self.branch [
  | in-Some w ↦ subst (λ i. NoneReadsPage c.args.page (walks_of i.walks)) (sym w.self-inside-is) w.forget_page.ensures.none
  | in_default w ↦ subst (λ o. NoneReadsPage c.args.page (walks_of o)) (sym (ap (λ i. i.walks) w.self-inside-is ∙ w.in_default.is)) (none_reads_page-nil c.args.page)
]

pub returns-clause-stand : goal.returns-clause-stand
returns-clause-stand c = λ limit ram now table_pointer differs stand.
    stand_but_page limit ram now table_pointer c.args.page c.args.self.now _ differs stand (returns-clause-among c) (returns-clause-none c)
