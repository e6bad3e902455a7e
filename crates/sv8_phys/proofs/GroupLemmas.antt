-- Groups of halves of pages of RAM behind their handles.
use Rattle.std.proofs.Common.{◌≡◌, refl, ℕ, ◌+◌, ◌*◌, ◌/◌, ◌%◌, ◌<◌, inl, inr, List, [], ◌∷◌, ◌++◌, length, get_or, set, sym, ap, ap₂, subst, ◌∙◌, arith}
use Rattle.std.proofs.lemmas.Bool.{cases_lt}
use Rattle.std.proofs.lemmas.List.{append-nil, get_or_past, length-map}
use Rattle.std.proofs.lemmas.List.Concat.{flat_map-cons}
use Rattle.std.specs.List.{AllZip}
use Rattle.std.specs.declared.rc.Rc.{Rc}
use Rattle.std.specs.declared.alloc.Global.{Global}
use Rattle.sv8_model.proofs.Common.{IsByte}
use Rattle.sv8_model.specs.declared.size.Size.{Size}
use Rattle.sv8_model.specs.Size.{bytes_in}
use Rattle.sv8_phys.specs.declared.group.Group.{Group}
use Rattle.sv8_phys.specs.declared.halves.Halves.{Halves}
use Rattle.sv8_phys.specs.Memory.{with_value}
use Rattle.sv8_phys.specs.Parts.{part_at, part_of, all_bytes, halves_of, page_bytes, groups_halves, with_value_in, IsSame, IsWritten, IsPut}
use Rattle.sv8_phys.proofs.Around as around
use Rattle.sv8_phys.proofs.BlockLemmas.{half_long, halves_fit}
use Rattle.sv8_phys.proofs.AllBytes.{written}
use Rattle.sv8_phys.proofs.PageLemmas.{page_put}
use Rattle.sv8_phys.proofs.Sizes.{of_half}

abbrev pub in_group : Rc Group Global → List (List ℕ)
in_group h = halves_of h.value.halves

-- a group has sixteen halves
pub group_full : (h : Rc Group Global) → length (in_group h) ≡ 16
group_full h = length-map h.value.halves _ ∙ h.value.all

-- one group has its halves
pub one_group : (h : Rc Group Global) → groups_halves (h ∷ []) ≡ in_group h
one_group h = flat_map-cons in_group h [] ∙ append-nil (in_group h)

-- shared groups have the same halves
pub shared_groups : (gs hs : List (Rc Group Global)) → AllZip (λ g h. h.value ≡ g.value) gs hs → groups_halves hs ≡ groups_halves gs
shared_groups [] [] e = refl
shared_groups [] (h ∷ hs) e = absurd e
shared_groups (g ∷ gs) [] e = absurd e
shared_groups (g ∷ gs) (h ∷ hs) e =
    flat_map-cons in_group h hs
    ∙ ap₂ ◌++◌ (ap (λ (g : Group). halves_of g.halves) e.0) (shared_groups gs hs e.1)
    ∙ sym (flat_map-cons in_group g gs)

pub count : (groups : List (Rc Group Global)) → length (groups_halves groups) ≡ 16 * length groups
count groups = around.length-groups in_group group_full groups

module _ (groups : List (Rc Group Global)) (p : ℕ) (d : Rc Group Global) (there : p / 16 < length groups) where
  -- the half with a number is in its group
  pub half_in_group : part_at (groups_halves groups) p ≡ part_at (in_group (get_or groups (p / 16) d)) (p % 16)
  half_in_group =
      let place : p ≡ 16 * (p / 16) + p % 16 = omega arith in
      ap (λ j. part_at (groups_halves groups) j) place ∙ around.in_group in_group group_full groups (p / 16) d there (p % 16) [] (omega arith)

  -- it has 2,048 bytes
  pub long_in_group : length (part_at (groups_halves groups) p) ≡ 2048
  long_in_group =
      let group = get_or groups (p / 16) d in
      ap length half_in_group ∙ half_long group.value.halves (p % 16) (omega (arith, group.value.all))

  fits_in_group : (i : ℕ) → IsByte (get_or (part_at (groups_halves groups) p) i 0)
  fits_in_group i = subst (λ bs. IsByte (get_or bs i 0)) (sym half_in_group) (halves_fit (get_or groups (p / 16) d).value.halves (p % 16) i)

-- every byte of groups is one
pub groups_fit : (groups : List (Rc Group Global)) (p i : ℕ) → IsByte (get_or (part_at (groups_halves groups) p) i 0)
groups_fit [] p i = omega arith
groups_fit (h ∷ groups) p i = elim (cases_lt (p / 16) (length (h ∷ groups))) [
  | inl there ↦ fits_in_group (h ∷ groups) p h there i
  | inr past ↦ subst (λ bs. IsByte (get_or bs i 0)) (sym (get_or_past (groups_halves (h ∷ groups)) p [] (omega (arith, past, count (h ∷ groups))))) (omega arith)
]

-- what is written in halves is written in RAM
half_written : (halves : List (List ℕ)) (width : Size) (at value : ℕ) → at % bytes_in width ≡ 0 → at / 2048 < length halves → length (part_at halves (at / 2048)) ≡ 2048
    → IsWritten width at value halves (with_value_in width at value halves)
half_written halves width at value aligned there long = λ n below. written 2048 of_half (2 * n) halves width at value (omega arith) there aligned long

module _ (groups : List (Rc Group Global)) (g : ℕ) (d new : Rc Group Global) (there : g < length groups) where
  -- a group that holds what it held leaves RAM
  pub group_left : in_group new ≡ in_group (get_or groups g d) → IsSame (groups_halves groups) (groups_halves (set groups g new))
  group_left e = λ n. ap (all_bytes 2048 (2 * n)) (around.group_kept in_group group_full groups g d there new e)

-- what is written in a group is written in RAM
pub group_written : (groups : List (Rc Group Global)) (width : Size) (at value : ℕ) (d new : Rc Group Global) → at / 32768 < length groups → at % bytes_in width ≡ 0
    → in_group new ≡ with_value_in width (at % 32768) value (in_group (get_or groups (at / 32768) d))
    → IsWritten width at value (groups_halves groups) (groups_halves (set groups (at / 32768) new))
group_written groups width at value d new there aligned e = λ n below.
    let old = in_group (get_or groups (at / 32768) d) in
    let halves = groups_halves groups in
    let group : at / 2048 / 16 ≡ at / 32768 = omega arith in
    let inside : at / 2048 / 16 < length groups = omega (arith, there) in
    let place : at / 2048 % 16 ≡ at % 32768 / 2048 = omega arith in
    let number : 16 * (at / 32768) + at % 32768 / 2048 ≡ at / 2048 = omega arith in
    let byte : at % 32768 % 2048 ≡ at % 2048 = omega arith in
    let half : part_at old (at % 32768 / 2048) ≡ part_at halves (at / 2048) =
    sym (half_in_group groups (at / 2048) d inside ∙ ap₂ (λ g k. part_at (in_group (get_or groups g d)) k) group place) in
    let in_halves : at / 2048 < length halves = omega (arith, there, count groups) in
    ap (all_bytes 2048 (2 * n)) (around.group_changed in_group group_full groups (at / 32768) d there new (at % 32768 / 2048) _ (omega arith) e
    ∙ ap₂ (λ p bytes. set halves p bytes) number (ap₂ (λ i bytes. with_value width i value bytes) byte half))
    ∙ half_written halves width at value aligned in_halves (long_in_group groups (at / 2048) d inside) n below

-- two halves that are put in a group are a page that is put in RAM
pub group_put : (groups : List (Rc Group Global)) (p : ℕ) (d new : Rc Group Global) (low high : List ℕ) (page : Halves) → 2 * p / 16 < length groups
    → in_group new ≡ set (set (in_group (get_or groups (2 * p / 16) d)) (2 * p % 16) low) (2 * p % 16 + 1) high
    → length low ≡ 2048 → length high ≡ 2048 → low ≡ part_of 2048 (page_bytes page) 0 → high ≡ part_of 2048 (page_bytes page) 1
    → IsPut p page (groups_halves groups) (groups_halves (set groups (2 * p / 16) new))
group_put groups p d new low high page there e low_full high_full is_low is_high = λ n below.
    let halves = groups_halves groups in
    let first : 16 * (2 * p / 16) + 2 * p % 16 ≡ 2 * p = omega arith in
    let second : 16 * (2 * p / 16) + (2 * p % 16 + 1) ≡ 2 * p + 1 = omega arith in
    let in_halves : 2 * p + 1 < length halves = omega (arith, there, count groups) in
    ap (all_bytes 2048 (2 * n)) (around.group_changed_twice in_group group_full groups (2 * p / 16) d there new (2 * p % 16) (2 * p % 16 + 1) low high (omega arith) (omega arith) e
    ∙ ap₂ (λ i j. set (set halves i low) j high) first second)
    ∙ page_put halves p low high page in_halves low_full high_full is_low is_high n below
