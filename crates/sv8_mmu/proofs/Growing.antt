-- Where a translation may want memory.
use Rattle.std.proofs.Common.{◌≡◌, ℕ, ◌*◌, ◌/◌, Bool, true, List, ◌∙◌, ap, subst}
use Rattle.std.proofs.Math.Bool.{or-true}
use Rattle.sv8_model.specs.Outside.{Outside}
use Rattle.sv8_model.specs.Action.{result_of}
use Rattle.sv8_mmu.specs.declared.access_type.AccessType.{AccessType}
use Rattle.sv8_mmu.specs.declared.registers.Mmu.{Mmu}
use Rattle.sv8_mmu.specs.declared.walk.Walk.{Walk}
use Rattle.sv8_mmu.specs.declared.walk.Walked.{Walked}
use Rattle.sv8_mmu.specs.declared.translation.Reach.{Reach}
use Rattle.sv8_mmu.specs.Registers.{translates}
use Rattle.sv8_mmu.specs.Walk.{walk}
use Rattle.sv8_mmu.specs.Kept.{IsWalk}
use Rattle.sv8_mmu.specs.Answers.{changes_marks, translation_grows}
use Rattle.sv8_mmu.proofs.Translating.{walk_of_page}

-- a walk for the page of an address ends in an entry that the access marks
pub marking_grows : (keeps : Bool) (limit : ℕ) (ram : List ℕ) (r : Mmu) (va : ℕ) (access_type : AccessType) (reach : Reach) (o : Outside) (w : Walk) → translates r ≡ true
    → IsWalk limit ram r.table_pointer r.context (va / 4096 * 4096) w → changes_marks limit va access_type reach w.end ≡ true
    → translation_grows keeps limit r va access_type reach (record o { ram = ram }) ≡ true
marking_grows keeps limit ram r va access_type reach o w on s marks =
    let there : w.end ≡ result_of (walk limit r.table_pointer r.context va) (record o { ram = ram }) =
    (s.does o).result ∙ ap (λ a. result_of a (record o { ram = ram })) (walk_of_page limit r.table_pointer r.context va) in
    let marked : changes_marks limit va access_type reach (result_of (walk limit r.table_pointer r.context va) (record o { ram = ram })) ≡ true =
    subst (λ (x : Walked). changes_marks limit va access_type reach x ≡ true) there marks in
    rw (on, marked) (or-true keeps)
