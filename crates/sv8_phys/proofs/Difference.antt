-- Words that two RAMs have alike are passed over.
use Rattle.std.proofs.Common.{◌≡◌, ◌≢◌, ℕ, zero, suc, ◌+◌, ◌-◌, ◌*◌, ◌/◌, ◌%◌, ◌<◌, ◌≤◌, List, Option, Some, None, MatchOption, IfSome, option_map, refl, sym, ap, ap₂, subst, ◌∙◌, inl, inr, arith}
use Rattle.std.proofs.lemmas.Bool.{cases_eq}
use Rattle.std.proofs.lemmas.Bool.Decides.{nat_tests}
use Rattle.sv8_model.specs.Outside.{word_of}
use Rattle.sv8_phys.specs.Parts.{part_of}
use Rattle.sv8_phys.specs.Differences.{differing_word, next_difference, IsNextDifference, AreSameFrom, DifferencesAreLeast}
use Rattle.sv8_phys.proofs.OnePart.{word_read}

module _ (ram other : List ℕ) where
  passed : (count k : ℕ) → word_of ram k ≡ word_of other k → differing_word ram other (suc count) k ≡ differing_word ram other count (k + 1)
  unfolding differing_word
  passed count k e = grind (arith, nat_tests)

  stopped : (count k : ℕ) → word_of ram k ≢ word_of other k → differing_word ram other (suc count) k ≡ Some k
  unfolding differing_word
  stopped count k e = grind (arith, nat_tests)

  -- more words than are left are none
  none_left : (k : ℕ) → differing_word ram other 0 k ≡ None
  unfolding differing_word
  none_left k = refl

  module _ (limit at : ℕ) (limit_aligned : limit % 4 ≡ 0) (aligned : at % 4 ≡ 0) where
    pub next_same : at < limit → word_of ram (at / 4) ≡ word_of other (at / 4) → next_difference limit ram other (at + 4) ≡ next_difference limit ram other at
    next_same below e =
        let count : limit / 4 - at / 4 ≡ suc (limit / 4 - (at + 4) / 4) = omega arith in
        let k : at / 4 + 1 ≡ (at + 4) / 4 = omega arith in
        sym (ap (option_map (λ k. 4 * k)) (ap (λ n. differing_word ram other n (at / 4)) count ∙ passed (limit / 4 - (at + 4) / 4) (at / 4) e
        ∙ ap (differing_word ram other (limit / 4 - (at + 4) / 4)) k))

    pub next_other : at < limit → word_of ram (at / 4) ≢ word_of other (at / 4) → next_difference limit ram other at ≡ Some at
    next_other below e =
        let count : limit / 4 - at / 4 ≡ suc (limit / 4 - (at + 4) / 4) = omega arith in
        let address : 4 * (at / 4) ≡ at = omega arith in
        ap (option_map (λ k. 4 * k)) (ap (λ n. differing_word ram other n (at / 4)) count ∙ stopped (limit / 4 - (at + 4) / 4) (at / 4) e) ∙ ap Some address

    pub next_none : limit ≤ at → next_difference limit ram other at ≡ None
    next_none above =
        let count : limit / 4 - at / 4 ≡ 0 = omega arith in
        ap (option_map (λ k. 4 * k)) (ap (λ n. differing_word ram other n (at / 4)) count ∙ none_left (at / 4))

-- what the words of a block say of those of RAM, of which so many more follow
abbrev Continues : List ℕ → List ℕ → ℕ → ℕ → ℕ → ℕ → Option ℕ → Type 0
Continues ram other p rest count l None = differing_word ram other (count + rest) (32 * p + l) ≡ differing_word ram other rest (32 * p + 32)
Continues ram other p rest count l (Some w) = differing_word ram other (count + rest) (32 * p + l) ≡ Some (32 * p + w)

module _ (ram other : List ℕ) (p rest count l : ℕ) where
  -- a word more that is the same
  one_more : (r : Option ℕ) → word_of ram (32 * p + l) ≡ word_of other (32 * p + l) → Continues ram other p rest count (l + 1) r → Continues ram other p rest (suc count) l r
  one_more None e h =
      let n : suc count + rest ≡ suc (count + rest) = omega arith in
      let k : 32 * p + l + 1 ≡ 32 * p + (l + 1) = omega arith in
      ap (λ n. differing_word ram other n (32 * p + l)) n ∙ passed ram other (count + rest) (32 * p + l) e ∙ ap (differing_word ram other (count + rest)) k ∙ h
  one_more (Some w) e h =
      let n : suc count + rest ≡ suc (count + rest) = omega arith in
      let k : 32 * p + l + 1 ≡ 32 * p + (l + 1) = omega arith in
      ap (λ n. differing_word ram other n (32 * p + l)) n ∙ passed ram other (count + rest) (32 * p + l) e ∙ ap (differing_word ram other (count + rest)) k ∙ h

  found_there : word_of ram (32 * p + l) ≢ word_of other (32 * p + l) → differing_word ram other (suc count + rest) (32 * p + l) ≡ Some (32 * p + l)
  found_there e =
      let n : suc count + rest ≡ suc (count + rest) = omega arith in
      ap (λ n. differing_word ram other n (32 * p + l)) n ∙ stopped ram other (count + rest) (32 * p + l) e

continues : (ram other : List ℕ) (p rest count l : ℕ) → l + count ≡ 32 → Continues ram other p rest count l (differing_word (part_of 128 ram p) (part_of 128 other p) count l)
continues ram other p rest zero l e =
    let whole : 32 * p + l ≡ 32 * p + 32 = omega arith in
    let n : 0 + rest ≡ rest = omega arith in
    subst (Continues ram other p rest 0 l) (sym (none_left (part_of 128 ram p) (part_of 128 other p) l)) (ap₂ (differing_word ram other) n whole)
continues ram other p rest (suc count) l e =
    let own = word_read 128 ram p (32 * p + l) l (omega arith) (omega arith) in
    let others = word_read 128 other p (32 * p + l) l (omega arith) (omega arith) in
    elim (cases_eq (word_of (part_of 128 ram p) l) (word_of (part_of 128 other p) l)) [
      | inl same ↦
          subst (Continues ram other p rest (suc count) l) (sym (passed (part_of 128 ram p) (part_of 128 other p) count l same))
          (one_more ram other p rest count l _ (sym own ∙ same ∙ others) (continues ram other p rest count (l + 1) (omega arith)))
      | inr differs ↦
          subst (Continues ram other p rest (suc count) l) (sym (stopped (part_of 128 ram p) (part_of 128 other p) count l differs))
          (found_there ram other p rest count l (λ h. differs (own ∙ h ∙ sym others)))
    ]

-- with the addresses of the words
joined : (ram other : List ℕ) (p rest count l from limit : ℕ) (r : Option ℕ)
    → differing_word ram other (limit / 4 - from / 4) (from / 4) ≡ differing_word ram other (count + rest) (32 * p + l)
    → Continues ram other p rest count l r
    → p ≡ from / 128 → rest ≡ limit / 4 - (from / 128 * 128 + 128) / 4
    → MatchOption (option_map (λ k. 4 * k) r) (next_difference limit ram other from ≡ next_difference limit ram other (from / 128 * 128 + 128))
    (λ at. next_difference limit ram other from ≡ Some (from / 128 * 128 + at))
joined ram other p rest count l from limit None all h block left =
    let next : 32 * p + 32 ≡ (from / 128 * 128 + 128) / 4 = omega arith in
    ap (option_map (λ k. 4 * k)) (all ∙ h ∙ ap₂ (differing_word ram other) left next)
joined ram other p rest count l from limit (Some w) all h block left =
    let address : 4 * (32 * p + w) ≡ from / 128 * 128 + 4 * w = omega arith in
    ap (option_map (λ k. 4 * k)) (all ∙ h) ∙ ap Some address

-- what is found in the block of an address, and what follows where nothing is found
pub in_block : (ram other : List ℕ) (limit from : ℕ) (r : Option ℕ) → limit % 128 ≡ 0 → from < limit → from % 4 ≡ 0
    → r ≡ next_difference 128 (part_of 128 ram (from / 128)) (part_of 128 other (from / 128)) (from % 128)
    → MatchOption r (next_difference limit ram other from ≡ next_difference limit ram other (from / 128 * 128 + 128))
    (λ at. next_difference limit ram other from ≡ Some (from / 128 * 128 + at))
in_block ram other limit from r whole below aligned e =
    let p = from / 128 in
    let l = from % 128 / 4 in
    let count = 128 / 4 - from % 128 / 4 in
    let rest = limit / 4 - (from / 128 * 128 + 128) / 4 in
    let h = continues ram other p rest count l (omega arith) in
    let n : limit / 4 - from / 4 ≡ count + rest = omega arith in
    let k : from / 4 ≡ 32 * p + l = omega arith in
    let all : differing_word ram other (limit / 4 - from / 4) (from / 4) ≡ differing_word ram other (count + rest) (32 * p + l) = ap₂ (differing_word ram other) n k in
    subst (λ r. MatchOption r (next_difference limit ram other from ≡ next_difference limit ram other (from / 128 * 128 + 128))
    (λ at. next_difference limit ram other from ≡ Some (from / 128 * 128 + at))) (sym e)
    (joined ram other p rest count l from limit (differing_word (part_of 128 ram p) (part_of 128 other p) count l) all h refl refl)

-- ---- what is found is the least

-- from word k on, so many words: what was found is the first that differs
abbrev IsLeast : List ℕ → List ℕ → ℕ → ℕ → Option ℕ → Type 0
IsLeast ram other count k None = (j : ℕ) → k ≤ j → j < k + count → word_of ram j ≡ word_of other j
IsLeast ram other count k (Some w) = (k ≤ w) × (w < k + count) × (word_of ram w ≢ word_of other w) × ((j : ℕ) → k ≤ j → j < w → word_of ram j ≡ word_of other j)

module _ (ram other : List ℕ) where
  word_more : (count k : ℕ) (r : Option ℕ) → word_of ram k ≡ word_of other k → IsLeast ram other count (k + 1) r → IsLeast ram other (suc count) k r
  word_more count k None e h = λ j low high. elim (cases_eq j k) [
    | inl here ↦ subst (λ j. word_of ram j ≡ word_of other j) (sym here) e
    | inr behind ↦ h j (omega arith) (omega arith)
  ]
  word_more count k (Some w) e h =
      let low = h.0 in
      let high = h.1 in (
        omega (arith, low),
        omega (arith, high),
        h.2,
        λ j from below. elim (cases_eq j k) [
          | inl here ↦ subst (λ j. word_of ram j ≡ word_of other j) (sym here) e
          | inr behind ↦ h.3 j (omega arith) below
        ],
      )

  least_word : (count k : ℕ) → IsLeast ram other count k (differing_word ram other count k)
  least_word zero k = subst (IsLeast ram other 0 k) (sym (none_left ram other k)) (λ j low high. absurd (omega arith))
  least_word (suc count) k = elim (cases_eq (word_of ram k) (word_of other k)) [
    | inl same ↦ subst (IsLeast ram other (suc count) k) (sym (passed ram other count k same)) (word_more count k _ same (least_word count (k + 1)))
    | inr differs ↦ subst (IsLeast ram other (suc count) k) (sym (stopped ram other count k differs))
        (omega arith, omega arith, differs, λ j from below. absurd (omega arith))
  ]

  module _ (limit from : ℕ) (limit_aligned : limit % 4 ≡ 0) (aligned : from % 4 ≡ 0) where
    at_address : (count : ℕ) (r : Option ℕ) → count ≡ limit / 4 - from / 4 → IsLeast ram other count (from / 4) r
        → MatchOption (option_map (λ k. 4 * k) r) (AreSameFrom limit ram other from) (λ at. IsNextDifference limit ram other from at)
    at_address count None e h = λ a a_aligned low high. h (a / 4) (omega arith) (omega arith)
    at_address count (Some w) e h =
        let low = h.0 in
        let high = h.1 in
        let k : 4 * w / 4 ≡ w = omega arith in
        record {
          aligned = omega arith;
          not_below = omega (arith, low);
          within = omega (arith, high);
          differs = subst (λ k. word_of ram k ≢ word_of other k) (sym k) h.2;
          least = λ a a_aligned first below. h.3 (a / 4) (omega arith) (omega arith);
        }

    pub is_least : MatchOption (next_difference limit ram other from) (AreSameFrom limit ram other from) (λ at. IsNextDifference limit ram other from at)
    is_least = at_address (limit / 4 - from / 4) _ refl (least_word (limit / 4 - from / 4) (from / 4))

    -- it is the address of a word of RAM
    pub is_word : (r : Option ℕ) → r ≡ next_difference limit ram other from → IfSome r (λ at. (at % 4 ≡ 0) × (at < limit))
    is_word None e = tt
    is_word (Some at) e =
        let h = subst (λ r. MatchOption r (AreSameFrom limit ram other from) (λ at. IsNextDifference limit ram other from at)) (sym e) is_least in
        (h.aligned, h.within)

pub differences_are_least : DifferencesAreLeast
differences_are_least limit from ram other limit_aligned aligned = is_least ram other limit from limit_aligned aligned
