use Rattle.std.proofs.Common.{◌∙◌, ◌*◌, sym, subst, refl}
use Rattle.sv8_mmu.specs.Kept.{IsWalk}
use Rattle.sv8_mmu.proofs.Translating.{marks_stored}
use Rattle.sv8_mmu.proofs.translation.settle.Goals as goal

pub returns-in_err-store_marks-in-Page-clause-stand : goal.returns-in_err-store_marks-in-Page-clause-stand
returns-in_err-store_marks-in-Page-clause-stand g c = λ table_pointer walk stand.
    c.store_marks.ensures.stand table_pointer
    (subst (λ e. IsWalk g.R.TableMemory.SIZE (g.R.TableMemory.ram c.args.phys.now) table_pointer c.args.key.context (c.args.key.page * 4096) (record { trail = c.args.walk.trail; end = e })) c.in-Page.is walk) stand

pub returns-in_ok-store_marks-in-Page-clause-ok : goal.returns-in_ok-store_marks-in-Page-clause-ok
returns-in_ok-store_marks-in-Page-clause-ok g c = λ bytes.
    marks_stored _ _ c.args.access.address c.args.access.access_type c.args.access.reach c.args.walk.end c.in-Page.entry c.in-Page.level c.in-Page.at c.marked-now.result c.physical_address-pa.result _ _ _ _ _ c.in-Page.is
    (sym c.fault_type.ensures ∙ c.in-None.is) c.physical_address-pa.ensures.value (sym c.is_served.ensures ∙ c.if-not-is_served.false) c.marked-now.ensures.value c.if-now-entry.true refl (λ z. c.in_ok-store_marks-in-Page.ensures.ok z bytes)

pub returns-in_ok-store_marks-in-Page-clause-stand : goal.returns-in_ok-store_marks-in-Page-clause-stand
returns-in_ok-store_marks-in-Page-clause-stand g c = λ table_pointer walk stand.
    c.store_marks.ensures.stand table_pointer
    (subst (λ e. IsWalk g.R.TableMemory.SIZE (g.R.TableMemory.ram c.args.phys.now) table_pointer c.args.key.context (c.args.key.page * 4096) (record { trail = c.args.walk.trail; end = e })) c.in-Page.is walk) stand
