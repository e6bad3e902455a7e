-- A walk whose last entry gets other marks ends at the entry as it is then.
use Rattle.std.proofs.Common.{◌≡◌, ◌≢◌, ℕ, ◌+◌, ◌*◌, ◌/◌, ◌%◌, ◌^◌, ◌<◌, ◌≤◌, Bool, true, false, cond, ltb, ◌⊎◌, inl, inr, List, [], ◌∷◌, length, get_or, set, Contains, refl, sym, ◌∙◌, ap, subst, arith}
use Rattle.std.proofs.lemmas.List.{length-set, get_or-set_same, get_or-set_other}
use Rattle.std.proofs.lemmas.Bool.{cases_eq}
use Rattle.sv8_model.specs.declared.touch.Touch.TheVariants.{Read}
use Rattle.sv8_model.specs.Outside.{Outside, word_of, with_word}
use Rattle.sv8_model.specs.Action.{Action, done, load_word, result_of, touches}
use Rattle.sv8_mmu.specs.declared.buffer.Key.{Key}
use Rattle.sv8_mmu.specs.declared.table_level.TableLevel.{TableLevel}
use Rattle.sv8_mmu.specs.declared.table_level.TableLevel.TheVariants.{Context}
use Rattle.sv8_mmu.specs.declared.walk.TableIndex.{TableIndex}
use Rattle.sv8_mmu.specs.declared.walk.Trail.{Trail}
use Rattle.sv8_mmu.specs.declared.fault_type.FaultType.{FaultType}
use Rattle.sv8_mmu.specs.declared.fault_type.FaultType.TheVariants as of
use Rattle.sv8_mmu.specs.declared.walk.Walked.{Walked}
use Rattle.sv8_mmu.specs.declared.walk.Walked.TheVariants.{Page, Fault}
use Rattle.sv8_mmu.specs.Walk.{met, looked_up, below_pointer, indices_of, walk}
use Rattle.sv8_mmu.specs.Kept.{IsWalk, Kept, Stands, AllStand, AreAmong, NoneReads}
use Rattle.sv8_mmu.proofs.Walks.{after_loads, walk_loads, other_word, stand_but_entry, same_noted}

-- a word is an entry e in the one RAM and v in the other, and no other word differs
pub record Differs (ram now : List ℕ) (k e v : ℕ) : Type 0 where
  pub new : word_of now k ≡ v
  pub others : (j : ℕ) → j ≢ k → word_of now j ≡ word_of ram j
  pub kind : e % 4 ≡ 2 → v % 4 ≡ 2

-- where the one leads to the entry, the other leads to it as it is now
abbrev pub Marks : Action Walked → Outside → Outside → ℕ → ℕ → TableLevel → ℕ → Type 0
Marks a o o' e v l at = result_of a o ≡ Page e l at → (word_of o.ram (at / 4) ≡ e) × (e % 4 ≡ 2) × (result_of a o' ≡ Page v l at) × (touches a o' ≡ touches a o)

fault_page : (kind : FaultType) (level : TableLevel) (e : ℕ) (l : TableLevel) (at : ℕ) → Fault kind level ≡ Page e l at → ⊥
fault_page kind level e l at q = cc

four : (x : ℕ) → x < 4 → (x ≡ 0) ⊎ ((x ≡ 1) ⊎ ((x ≡ 2) ⊎ (x ≡ 3)))
four x h = elim (cases_eq x 0) [ inl p ↦ inl p | inr a ↦ inr (elim (cases_eq x 1) [ inl p ↦ inl p | inr b ↦ inr (elim (cases_eq x 2) [ inl p ↦ inl p | inr c ↦ inr (omega arith) ]) ]) ]

pointer_page : (w : ℕ) {e : ℕ} → w % 4 ≡ 1 → w ≡ e → e % 4 ≡ 2 → ⊥
pointer_page w p q r = omega arith

marks_if : (b : Bool) (x y : Action Walked) (o o' : Outside) (e v : ℕ) (l : TableLevel) (at : ℕ) → Marks x o o' e v l at → Marks y o o' e v l at → Marks (cond b x y) o o' e v l at
marks_if true x y o o' e v l at p q = p
marks_if false x y o o' e v l at p q = q

marks_fault : (kind : FaultType) (level : TableLevel) (o o' : Outside) (e v : ℕ) (l : TableLevel) (at : ℕ) → Marks (done (Fault kind level)) o o' e v l at
marks_fault kind level o o' e v l at h = absurd (fault_page kind level e l at h)

met_invalid : (level : TableLevel) (at : ℕ) (g : ℕ → Action Walked) (w : ℕ) → w % 4 ≡ 0 → met level at g w ≡ done (Fault of.InvalidAddress level)
met_invalid level at g w h = rw h refl

met_pointer : (level : TableLevel) (at : ℕ) (g : ℕ → Action Walked) (w : ℕ) → w % 4 ≡ 1 → met level at g w ≡ g w
met_pointer level at g w h = rw h refl

met_page : (level : TableLevel) (at : ℕ) (g : ℕ → Action Walked) (w : ℕ) → w % 4 ≡ 2 → met level at g w ≡ done (Page w level at)
met_page level at g w h = rw h refl

met_reserved : (level : TableLevel) (at : ℕ) (g : ℕ → Action Walked) (w : ℕ) → w % 4 ≡ 3 → met level at g w ≡ done (Fault of.Translation level)
met_reserved level at g w h = rw h refl

page_parts : (w : ℕ) (m : TableLevel) (j e : ℕ) (l : TableLevel) (k : ℕ) → Page w m j ≡ Page e l k → (w ≡ e) × (m ≡ l) × (j ≡ k)
page_parts w m j e l k h = (cc, cc, cc)

-- one level of the walk, where the next one marks
marks_load : (level : TableLevel) (here : ℕ) (g : ℕ → Action Walked) (o o' : Outside) (e v : ℕ) (l : TableLevel) (at : ℕ) → Differs o.ram o'.ram (at / 4) e v → ((w : ℕ) → Marks (g w) o o' e v l at)
    → Marks (load_word (here / 4) (met level here g)) o o' e v l at
marks_load level here g o o' e v l at d deeper h =
    let w = word_of o.ram (here / 4) in
    let read = Read (4 * (here / 4)) in
    elim (four (w % 4) (omega arith)) [
      | inl p ↦ absurd (fault_page of.InvalidAddress level e l at (ap (λ a. result_of a o) (sym (met_invalid level here g w p)) ∙ h))
      | inr r ↦ elim r [
        | inl p ↦
            let s = deeper w (ap (λ a. result_of a o) (sym (met_pointer level here g w p)) ∙ h) in
            let apart : here / 4 ≢ at / 4 = λ q. pointer_page w p (ap (λ j. word_of o.ram j) q ∙ s.0) s.1 in
            let same = d.others (here / 4) apart in (
              s.0,
              s.1,
              ap (λ x. result_of (met level here g x) o') same ∙ ap (λ a. result_of a o') (met_pointer level here g w p) ∙ s.2,
              ap (λ x. read ∷ touches (met level here g x) o') same ∙ ap (λ a. read ∷ touches a o') (met_pointer level here g w p) ∙ ap (λ t. read ∷ t) s.3
                  ∙ ap (λ a. read ∷ touches a o) (sym (met_pointer level here g w p)),
            )
        | inr r2 ↦ elim r2 [
          | inl p ↦
              let s = page_parts w level here e l at (ap (λ a. result_of a o) (sym (met_page level here g w p)) ∙ h) in
              let kind = d.kind (ap (λ x. x % 4) (sym s.0) ∙ p) in
              let now : word_of o'.ram (here / 4) ≡ v = ap (λ j. word_of o'.ram (j / 4)) s.2 ∙ d.new in (
                ap (λ j. word_of o.ram (j / 4)) (sym s.2) ∙ s.0,
                ap (λ x. x % 4) (sym s.0) ∙ p,
                ap (λ x. result_of (met level here g x) o') now ∙ ap (λ a. result_of a o') (met_page level here g v kind) ∙ ap (λ x. Page v x here) s.1 ∙ ap (λ x. Page v l x) s.2,
                ap (λ x. read ∷ touches (met level here g x) o') now ∙ ap (λ a. read ∷ touches a o') (met_page level here g v kind) ∙ ap (λ a. read ∷ touches a o) (sym (met_page level here g w p)),
              )
          | inr p ↦ absurd (fault_page of.Translation level e l at (ap (λ a. result_of a o) (sym (met_reserved level here g w p)) ∙ h))
        ]
      ]
    ]

module _ (limit : ℕ) (o o' : Outside) (e v : ℕ) (l : TableLevel) (at : ℕ) (d : Differs o.ram o'.ram (at / 4) e v) where
  marks_looked_up : (level : TableLevel) (here : ℕ) (g : ℕ → Action Walked) → ((w : ℕ) → Marks (g w) o o' e v l at) → Marks (looked_up limit level here g) o o' e v l at
  marks_looked_up level here g deeper =
      marks_if (ltb here limit) (load_word (here / 4) (met level here g)) (done (Fault of.Translation level)) o o' e v l at (marks_load level here g o o' e v l at d deeper) (marks_fault of.Translation level o o' e v l at)

  marks_below : (level : TableLevel) (below : List TableIndex) (w : ℕ) → Marks (below_pointer limit level below w) o o' e v l at
  unfolding below_pointer
  marks_below level [] w = marks_fault of.Translation level o o' e v l at
  marks_below level (to ∷ below) w = marks_looked_up to.level _ _ (marks_below to.level below)

  pub walk_marks : (table_pointer context va : ℕ) → Marks (walk limit table_pointer context va) o o' e v l at
  unfolding walk
  walk_marks table_pointer context va = marks_looked_up Context _ _ (marks_below Context (indices_of va))

-- a word that was stored
pub stored_word : (ram : List ℕ) (k v : ℕ) → 4 * k + 4 ≤ length ram → v < 2 ^ 32 → word_of (with_word ram k v) k ≡ v
unfolding word_of with_word
stored_word r k v h f =
    let w0 = set r (4 * k) (v / 2 ^ 24 % 2 ^ 8) in
    let w1 = set w0 (4 * k + 1) (v / 2 ^ 16 % 2 ^ 8) in
    let w2 = set w1 (4 * k + 2) (v / 2 ^ 8 % 2 ^ 8) in
    let w3 = set w2 (4 * k + 3) (v % 2 ^ 8) in
    let l0 : length w0 ≡ length r = length-set r (4 * k) _ in
    let l1 : length w1 ≡ length r = length-set w0 (4 * k + 1) _ ∙ l0 in
    let l2 : length w2 ≡ length r = length-set w1 (4 * k + 2) _ ∙ l1 in
    let b3 : get_or w3 (4 * k + 3) 0 ≡ v % 2 ^ 8 = get_or-set_same w2 (4 * k + 3) _ 0 (omega arith) in
    let b2 : get_or w3 (4 * k + 2) 0 ≡ v / 2 ^ 8 % 2 ^ 8 = get_or-set_other w2 (4 * k + 3) (4 * k + 2) _ 0 (λ p. omega arith) ∙ get_or-set_same w1 (4 * k + 2) _ 0 (omega arith) in
    let b1 : get_or w3 (4 * k + 1) 0 ≡ v / 2 ^ 16 % 2 ^ 8 =
    get_or-set_other w2 (4 * k + 3) (4 * k + 1) _ 0 (λ p. omega arith) ∙ get_or-set_other w1 (4 * k + 2) (4 * k + 1) _ 0 (λ p. omega arith) ∙ get_or-set_same w0 (4 * k + 1) _ 0 (omega arith) in
    let b0 : get_or w3 (4 * k) 0 ≡ v / 2 ^ 24 % 2 ^ 8 =
    get_or-set_other w2 (4 * k + 3) (4 * k) _ 0 (λ p. omega arith) ∙ get_or-set_other w1 (4 * k + 2) (4 * k) _ 0 (λ p. omega arith)
    ∙ get_or-set_other w0 (4 * k + 1) (4 * k) _ 0 (λ p. omega arith) ∙ get_or-set_same r (4 * k) _ 0 (omega arith) in
    rw (b3, b2, b1, b0) (omega arith)

-- the walk with its last entry as it is once v is stored there
corrected : (limit : ℕ) (ram : List ℕ) (table_pointer context va : ℕ) (trail : Trail) (e : ℕ) (l : TableLevel) (at v : ℕ) → limit ≤ length ram → (e % 4 ≡ 2 → v % 4 ≡ 2) → v < 2 ^ 32
    → IsWalk limit ram table_pointer context va (record { trail = trail; end = Page e l at }) → IsWalk limit (with_word ram (at / 4) v) table_pointer context va (record { trail = trail; end = Page v l at })
corrected limit ram table_pointer context va trail e l at v large kind fits s =
    let now = with_word ram (at / 4) v in
    let a = walk limit table_pointer context va in
    let bound = s.end.0 in
    let aligned = s.end.1 in
    let d : Differs ram now (at / 4) e v = record { new = stored_word ram (at / 4) v (omega arith) fits; others = other_word ram (at / 4) v; kind = kind } in
    record {
      end = s.end;
      does = λ o.
          let g = s.does o in
          let m = walk_marks limit (record o { ram = ram }) (record o { ram = now }) e v l at d table_pointer context va (sym g.result) in
          let loads = walk_loads limit table_pointer context va in
          record { result = sym m.2; outside = sym (after_loads a (record o { ram = now }) loads); noted = g.noted ∙ same_noted a (record o { ram = ram }) (record o { ram = now }) loads m.3 };
    }

-- the corrected walk stands with the rest
pub stand_corrected : (limit : ℕ) (ram now : List ℕ) (table_pointer : ℕ) (key : Key) (trail : Trail) (e : ℕ) (l : TableLevel) (at v : ℕ) (old some new : List Kept) → limit ≤ length ram → (e % 4 ≡ 2 → v % 4 ≡ 2) → v < 2 ^ 32
    → now ≡ with_word ram (at / 4) v → IsWalk limit ram table_pointer key.context (key.page * 4096) (record { trail = trail; end = Page e l at }) → AllStand limit ram table_pointer old → AreAmong some old → NoneReads at some
    → ((x : Kept) → Contains new x → Contains some x ⊎ (x ≡ (key, record { trail = trail; end = Page v l at }))) → AllStand limit now table_pointer new
stand_corrected limit ram now table_pointer key trail e l at v old some new large kind fits is s stand among none kept x m =
    subst (λ r. Stands limit r table_pointer x) (sym is) (elim (kept x m) [
      | inl was ↦ stand_but_entry limit ram table_pointer at v old some stand among none s.end.1 x was
      | inr p ↦ subst (Stands limit (with_word ram (at / 4) v) table_pointer) (sym p) (corrected limit ram table_pointer key.context (key.page * 4096) trail e l at v large kind fits s)
    ])
