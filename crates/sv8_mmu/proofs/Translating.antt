-- A translation: the walk, and what its end leads to.
use Rattle.std.proofs.Common.{◌≡◌, ◌≢◌, ℕ, ◌*◌, ◌/◌, ◌%◌, ◌^◌, true, false, ◌==◌, List, [], None, refl, sym, ◌∙◌, ap, subst, arith}
use Rattle.std.proofs.lemmas.Bool.Decides.{nat_tests}
use Rattle.sv8_model.specs.Words.{field}
use Rattle.sv8_model.specs.Outside.{Outside}
use Rattle.sv8_model.specs.Action.{done, store_word, ◌>>=◌}
use Rattle.sv8_model.specs.Does.{Does, Noting, noting, keeping, touching, no_notes}
use Rattle.sv8_model.proofs.Common.{does_done, does_then, does_if_true, does_if_false}
use Rattle.sv8_mmu.specs.declared.access_type.AccessType.{AccessType}
use Rattle.sv8_mmu.specs.declared.registers.Mmu.{Mmu}
use Rattle.sv8_mmu.specs.declared.walk.Walk.{Walk}
use Rattle.sv8_mmu.specs.declared.table_level.TableLevel.{TableLevel}
use Rattle.sv8_mmu.specs.declared.walk.Walked.{Walked}
use Rattle.sv8_mmu.specs.declared.walk.Walked.TheVariants.{Page}
use Rattle.sv8_mmu.specs.declared.translation.Reach.{Reach}
use Rattle.sv8_mmu.specs.declared.translation.Translated.{Translated}
use Rattle.sv8_mmu.specs.declared.translation.Translated.TheVariants.{At}
use Rattle.sv8_mmu.specs.Registers.{translates}
use Rattle.sv8_mmu.specs.Walk.{indices_of, walk}
use Rattle.sv8_mmu.specs.Kept.{places_of, reads_of, IsWalk}
use Rattle.sv8_mmu.proofs.Noting.{noted_behind}
use Rattle.sv8_mmu.specs.Translation.{fault_type, marked, physical_address, is_served, with_marks, reached, unless_refused, settled, translate}

-- ---- the page of an address

page_indices : (va : ℕ) → indices_of (va / 4096 * 4096) ≡ indices_of va
unfolding field
page_indices va =
    let a : va / 4096 * 4096 / 2 ^ 24 % 2 ^ 8 ≡ va / 2 ^ 24 % 2 ^ 8 = omega arith in
    let b : va / 4096 * 4096 / 2 ^ 18 % 2 ^ 6 ≡ va / 2 ^ 18 % 2 ^ 6 = omega arith in
    let c : va / 4096 * 4096 / 2 ^ 12 % 2 ^ 6 ≡ va / 2 ^ 12 % 2 ^ 6 = omega arith in
    rw (a, b, c) refl

-- all addresses of a page have one walk
pub walk_of_page : (limit table_pointer context va : ℕ) → walk limit table_pointer context (va / 4096 * 4096) ≡ walk limit table_pointer context va
unfolding walk
walk_of_page limit table_pointer context va = rw (page_indices va) refl

-- ---- a walk, and its notes behind others

pub walk_noted : (way : Noting) (limit : ℕ) (ram : List ℕ) (table_pointer context va : ℕ) (w : Walk) (o : Outside) (ns ns1 : way.Taken) → IsWalk limit ram table_pointer context va w
    → ns1 ≡ noting way ns (reads_of (places_of w.trail)) [] → Does way (walk limit table_pointer context va) (record o { ram = ram }) (record o { ram = ram }) w.end ns ns1
walk_noted way limit ram table_pointer context va w o ns ns1 s e = noted_behind way _ _ _ _ ns ns1 (s.does o) e

-- ---- what the end of a walk leads to

-- the entry gets marks
pub marks_stored : (way : Noting) (limit va : ℕ) (access_type : AccessType) (reach : Reach) (w : Walked) (e : ℕ) (level : TableLevel) (at now pa : ℕ) (o o1 : Outside) (ns ns1 : way.Taken) (y : Translated) → w ≡ Page e level at
    → fault_type access_type e ≡ None → pa ≡ physical_address e level va → is_served limit reach pa ≡ true → now ≡ marked access_type e → now ≢ e → y ≡ At pa
    → ((z : Translated) → Does way (store_word (at / 4) now (done z)) o o1 z ns ns1) → Does way (settled limit va access_type reach w) o o1 y ns ns1
unfolding settled
marks_stored way limit va access_type reach w e level at now pa o o1 ns ns1 y is allowed place served marks changed answer d =
    rw is
    (subst (λ c. Does way (unless_refused c level (reached limit access_type reach (physical_address e level va) e at)) o o1 y ns ns1) (sym allowed)
    (does_if_true way (is_served limit reach (physical_address e level va)) (with_marks access_type e at (At (physical_address e level va))) _ o o1 y ns ns1 (subst (λ p. is_served limit reach p ≡ true) place served)
    (does_if_false way (marked access_type e == e) _ (store_word (at / 4) (marked access_type e) (done (At (physical_address e level va)))) o o1 y ns ns1
    (apart (marked access_type e) e (subst (λ m. m ≢ e) marks changed)) (rw (answer ∙ ap At place) (subst (λ m. Does way (store_word (at / 4) m (done (At (physical_address e level va)))) o o1 (At (physical_address e level va)) ns ns1) marks (d (At (physical_address e level va))))))))
  where
    apart : (x y : ℕ) → x ≢ y → (x == y) ≡ false
    apart x y h = grind (arith, nat_tests)

-- a walk for the page of an address, and what its end leads to
pub walked_and_settled : (way : Noting) (limit : ℕ) (ram : List ℕ) (r : Mmu) (va : ℕ) (access_type : AccessType) (reach : Reach) (o o1 : Outside) (w : Walk) (y : Translated) (ns ns1 ns2 : way.Taken)
    → translates r ≡ true → IsWalk limit ram r.table_pointer r.context (va / 4096 * 4096) w → ns1 ≡ noting way ns (reads_of (places_of w.trail)) []
    → Does way (settled limit va access_type reach w.end) (record o { ram = ram }) o1 y ns1 ns2 → Does way (translate limit r va access_type reach) (record o { ram = ram }) o1 y ns ns2
unfolding translate
walked_and_settled way limit ram r va access_type reach o o1 w y ns ns1 ns2 on s e d =
    does_if_true way (translates r) (walk limit r.table_pointer r.context va >>= settled limit va access_type reach) _ _ o1 y ns ns2 on
    (does_then way (walk limit r.table_pointer r.context va) (settled limit va access_type reach) _ _ o1 w.end y ns ns1 ns2
    (subst (λ a. Does way a (record o { ram = ram }) (record o { ram = ram }) w.end ns ns1) (walk_of_page limit r.table_pointer r.context va)
    (walk_noted way limit ram r.table_pointer r.context (va / 4096 * 4096) w o ns ns1 s e)) d)

-- a walk for the page of an address, whose end leads to an address at once
pub walked_plainly : (limit : ℕ) (ram : List ℕ) (r : Mmu) (va : ℕ) (access_type : AccessType) (reach : Reach) (w : Walk) (pa : ℕ) → translates r ≡ true
    → IsWalk limit ram r.table_pointer r.context (va / 4096 * 4096) w → settled limit va access_type reach w.end ≡ done (At pa)
    → (o : Outside) → Does (keeping true true) (translate limit r va access_type reach) (record o { ram = ram }) (record o { ram = ram }) (At pa) no_notes (touching (reads_of (places_of w.trail)))
walked_plainly limit ram r va access_type reach w pa on s e o =
    let reads = touching (reads_of (places_of w.trail)) in
    walked_and_settled (keeping true true) limit ram r va access_type reach o (record o { ram = ram }) w (At pa) no_notes reads reads on s refl
    (subst (λ a. Does (keeping true true) a (record o { ram = ram }) (record o { ram = ram }) (At pa) reads reads) (sym e)
    (does_done (keeping true true) (At pa) (At pa) _ _ refl))
