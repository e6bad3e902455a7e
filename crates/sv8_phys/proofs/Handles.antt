-- What handles in a list hold: bytes of parts, also when one of them is replaced.
use Rattle.std.proofs.Common.{Bool, true, false, MatchBool, ◌≡◌, refl, ℕ, zero, suc, ◌*◌, ◌/◌, ◌%◌, ◌<◌, List, [], ◌∷◌, length, map, replicate, get_or, set, sym, ap, ap₂, subst, ◌∙◌, arith}
use Rattle.std.proofs.lemmas.List.{get_or-map, length-map, map-set}
use Rattle.std.proofs.Math.Seq.{map-set_same}
use Rattle.std.specs.List.{AllZip}
use Rattle.sv8_model.proofs.Common.{IsByte}
use Rattle.sv8_model.specs.declared.size.Size.{Size}
use Rattle.sv8_model.specs.Size.{bytes_in}
use Rattle.sv8_phys.specs.Memory.{with_value}
use Rattle.sv8_phys.specs.Parts.{part_at, part_of, all_bytes}
use Rattle.sv8_phys.proofs.AllBytes.{part_of-all, written}
use Rattle.sv8_phys.proofs.Sizes.{IsSize}

module _ {A B : Type 0} (f : A → B) (xs : List A) (i : ℕ) where
  -- it holds y afterwards, which is what g makes of what it held
  pub changed : (d new : A) (e : B) (g : B → B) → i < length xs → f new ≡ g (f (get_or xs i d)) → map f (set xs i new) ≡ set (map f xs) i (g (get_or (map f xs) i e))
  changed d new e g below h = map-set f xs i new ∙ ap (set (map f xs) i) (h ∙ ap g (sym (get_or-map f xs i d e below)))

  -- it holds the same afterwards
  pub kept : (d new : A) → f new ≡ f (get_or xs i d) → map f (set xs i new) ≡ map f xs
  kept d new h = map-set_same f xs i new d h

-- what follows from each answer of a test
pub answers : {P Q R S : Type 0} (b : Bool) → (P → R) → (Q → S) → MatchBool b P Q → MatchBool b R S
answers true f g h = f h
answers false f g h = g h

-- ---- handles of parts

-- what a handle of the list holds
pub behind : {H : Type 0} (held : H → List ℕ) (handles : List H) (p : ℕ) (d : H) → p < length handles → held (get_or handles p d) ≡ part_at (map held handles) p
behind held handles p d below = sym (get_or-map held handles p d [] below)

-- handles that all hold the same
pub all_alike : {H A : Type 0} (held : H → A) (handles : List H) (n : ℕ) (x : A) (d : H) → length handles ≡ n → ((p : ℕ) → p < n → held (get_or handles p d) ≡ x) → map held handles ≡ replicate n x
all_alike held [] zero x d long each = refl
all_alike held [] (suc n) x d long each = absurd (omega (arith, long))
all_alike held (h ∷ handles) zero x d long each = absurd (omega (arith, long))
all_alike held (h ∷ handles) (suc n) x d long each =
    ap₂ ◌∷◌ (each 0 (omega arith)) (all_alike held handles n x d (omega (arith, long)) (λ p below. each (suc p) (omega (arith, below))))

-- each part has its size
pub long : {H : Type 0} (held : H → List ℕ) (size : ℕ) → ((h : H) → length (held h) ≡ size) → (handles : List H) (p : ℕ) → p < length handles
    → length (part_at (map held handles) p) ≡ size
long held size full [] p below = absurd (omega arith)
long held size full (h ∷ handles) zero below = full h
long held size full (h ∷ handles) (suc p) below = long held size full handles p (omega arith)

-- each byte of each part is one
pub fit : {H : Type 0} (held : H → List ℕ) → ((h : H) (i : ℕ) → IsByte (get_or (held h) i 0)) → (handles : List H) (p i : ℕ) → IsByte (get_or (part_at (map held handles) p) i 0)
fit held each [] p i = omega arith
fit held each (h ∷ handles) zero i = each h i
fit held each (h ∷ handles) (suc p) i = fit held each handles p i

-- shared handles hold the same
pub shared : {H : Type 0} (held : H → List ℕ) (R : H → H → Type 0) → ((g h : H) → R g h → held h ≡ held g) → (gs hs : List H) → AllZip R gs hs → map held hs ≡ map held gs
shared held R same [] [] e = refl
shared held R same [] (h ∷ hs) e = absurd e
shared held R same (g ∷ gs) [] e = absurd e
shared held R same (g ∷ gs) (h ∷ hs) e = ap₂ ◌∷◌ (same g h e.0) (shared held R same gs hs e.1)

-- ---- the handles of all parts of a whole

module _ {H : Type 0} (held : H → List ℕ) (size : ℕ) (s : IsSize size) (n : ℕ) (full : (h : H) → length (held h) ≡ size) (handles : List H) (all : length handles ≡ n) where
  inside : (p : ℕ) → p < n → p < length handles
  inside p below = subst (λ k. p < k) (sym all) below

  -- what is written in a part is written in the whole
  pub part_written : (width : Size) (at value : ℕ) (d new : H) → at < size * n → at % bytes_in width ≡ 0
      → held new ≡ with_value width (at % size) value (held (get_or handles (at / size) d))
      → all_bytes size n (map held (set handles (at / size) new)) ≡ with_value width at value (all_bytes size n (map held handles))
  part_written width at value d new below aligned e =
      let p = at / size in
      let there : p < length handles = inside p (s.below n at below) in
      let in_parts : p < length (map held handles) = simp length-map there in
      ap (all_bytes size n) (changed held handles p d new [] (with_value width (at % size) value) there e)
      ∙ written size s n (map held handles) width at value below in_parts aligned (long held size full handles p there)

  -- a part that holds what it held leaves the whole
  pub part_kept : (p : ℕ) (d new : H) → held new ≡ held (get_or handles p d) → all_bytes size n (map held (set handles p new)) ≡ all_bytes size n (map held handles)
  part_kept p d new e = ap (all_bytes size n) (kept held handles p d new e)

  -- what a handle holds is a part of the whole
  pub is_part : (p : ℕ) (d : H) → p < n → held (get_or handles p d) ≡ part_of size (all_bytes size n (map held handles)) p
  is_part p d below =
      let there = inside p below in
      behind held handles p d there ∙ sym (part_of-all size s n (map held handles) p below (long held size full handles p there))

  -- another whole has a part that is the same
  pub same_part : (others : List H) (p : ℕ) (d e : H) → length others ≡ n → p < n → held (get_or handles p d) ≡ held (get_or others p e) → part_at (map held handles) p ≡ part_at (map held others) p
  same_part others p d e other below same =
      sym (behind held handles p d (inside p below)) ∙ same ∙ behind held others p e (subst (λ k. p < k) (sym other) below)
