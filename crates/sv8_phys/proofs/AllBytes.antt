-- The bytes of all parts, in order.
use Rattle.std.proofs.Common.{◌≡◌, ◌≢◌, refl, inl, inr, ℕ, zero, suc, ◌+◌, ◌-◌, ◌*◌, ◌/◌, ◌%◌, ◌<◌, ◌≤◌, List, [], ◌∷◌, ◌++◌, length, get_or, set, take, drop, replicate, sym, ap, subst, ◌∙◌, arith, get_or-set_same, get_or-set_other, length-append}
use Rattle.std.proofs.lemmas.Bool.{cases_eq, cases_lt}
use Rattle.std.proofs.lemmas.Grind.{same_number_lists}
use Rattle.std.proofs.lemmas.List.{length-replicate, get_or-replicate, get_or-take, get_or-drop, get_or_append_left, get_or-append_right, get_or_past, length-take-le, length-drop}
use Rattle.std.proofs.lemmas.List.FromFn.{get_or-map-range_with_len, length-map-range_with_len}
use Rattle.sv8_model.proofs.Common.{IsByte}
use Rattle.sv8_model.specs.declared.size.Size.{Size}
use Rattle.sv8_model.specs.Size.{bytes_in}
use Rattle.sv8_phys.specs.Memory.{with_value}
use Rattle.sv8_phys.specs.Parts.{part_at, part_of, with_part, all_bytes}
use Rattle.sv8_phys.proofs.OnePart.{put_in_part, length-with_value}
use Rattle.sv8_phys.proofs.Sizes.{IsSize}

module _ (size : ℕ) (s : IsSize size) (n : ℕ) (parts : List (List ℕ)) where
  abbrev byte : ℕ → ℕ
  byte a = get_or (part_at parts (a / size)) (a % size) 0

  pub length-all : length (all_bytes size n parts) ≡ size * n
  unfolding all_bytes
  length-all = length-map-range_with_len byte 0 (size * n)

  pub get_or-all : (a : ℕ) → a < size * n → get_or (all_bytes size n parts) a 0 ≡ get_or (part_at parts (a / size)) (a % size) 0
  unfolding all_bytes
  get_or-all a below = get_or-map-range_with_len byte 0 (size * n) a a 0 below (omega arith)

  -- byte i of part p
  pub get_or-all_at : (p i a : ℕ) → p < n → i < size → a ≡ size * p + i → get_or (all_bytes size n parts) a 0 ≡ get_or (part_at parts p) i 0
  get_or-all_at p i a p_in i_in e =
      let next = s.next p n p_in in
      let q : a / size ≡ p = ap (λ k. k / size) e ∙ s.part p i i_in in
      let r : a % size ≡ i = ap (λ k. k % size) e ∙ s.within p i i_in in
      get_or-all a (omega arith) ∙ ap (λ k. get_or (part_at parts k) (a % size) 0) q ∙ ap (λ k. get_or (part_at parts p) k 0) r

  pub part_of-all : (p : ℕ) → p < n → length (part_at parts p) ≡ size → part_of size (all_bytes size n parts) p ≡ part_at parts p
  part_of-all p p_in e =
      let all = all_bytes size n parts in
      let next = s.next p n p_in in
      let rest : length (drop (size * p) all) ≡ size * n - size * p = length-drop (size * p) all ∙ ap (λ k. k - size * p) length-all in
      let long : length (part_of size all p) ≡ size = length-take-le size (drop (size * p) all) (omega arith) in
      same_number_lists _ _ (long ∙ sym e) (λ i below.
      let i_in : i < size = omega arith in
      get_or-take size (drop (size * p) all) i 0 i_in
      ∙ get_or-drop (size * p) all i 0
      ∙ get_or-all_at p i (size * p + i) p_in i_in refl)

module _ (size : ℕ) (s : IsSize size) (parts : List (List ℕ)) (p : ℕ) (bytes : List ℕ) (in_parts : p < length parts) where
  abbrev with_part_at : List (List ℕ)
  with_part_at = set parts p bytes

  same_part : part_at with_part_at p ≡ bytes
  same_part = get_or-set_same parts p bytes [] in_parts

  other_part : (q : ℕ) → q ≢ p → part_at with_part_at q ≡ part_at parts q
  other_part q other = get_or-set_other parts p q bytes [] other

  module _ (n : ℕ) (p_in : p < n) (long : length bytes ≡ size) where
    head : length (take (size * p) (all_bytes size n parts)) ≡ size * p
    head =
        let next = s.next p n p_in in
        let whole = length-all size s n parts in
        length-take-le (size * p) (all_bytes size n parts) (omega arith)

    both : length (take (size * p) (all_bytes size n parts) ++ bytes) ≡ size * p + size
    both =
        let h = head in
        simp length-append (omega arith)

    before : (i : ℕ) → i < size * p → get_or (with_part size (all_bytes size n parts) p bytes) i 0 ≡ get_or (all_bytes size n parts) i 0
    before i below =
        let all = all_bytes size n parts in
        let h = head in
        let b = both in
        get_or_append_left (take (size * p) all ++ bytes) (drop (size * p + size) all) 0 i (omega arith)
        ∙ get_or_append_left (take (size * p) all) bytes 0 i (omega arith)
        ∙ get_or-take (size * p) all i 0 below

    within : (i j : ℕ) → i ≡ size * p + j → j < size → get_or (with_part size (all_bytes size n parts) p bytes) i 0 ≡ get_or bytes j 0
    within i j e j_in =
        let all = all_bytes size n parts in
        let h = head in
        let b = both in
        let k : i - size * p ≡ j = omega arith in
        get_or_append_left (take (size * p) all ++ bytes) (drop (size * p + size) all) 0 i (omega arith)
        ∙ get_or-append_right (take (size * p) all) bytes (size * p) i 0 h (omega arith)
        ∙ ap (λ k. get_or bytes k 0) k

    after : (i : ℕ) → size * p + size ≤ i → get_or (with_part size (all_bytes size n parts) p bytes) i 0 ≡ get_or (all_bytes size n parts) i 0
    after i above =
        let all = all_bytes size n parts in
        let k : size * p + size + (i - (size * p + size)) ≡ i = omega arith in
        get_or-append_right (take (size * p) all ++ bytes) (drop (size * p + size) all) (size * p + size) i 0 both above
        ∙ get_or-drop (size * p + size) all (i - (size * p + size)) 0
        ∙ ap (λ k. get_or all k 0) k

    length-with_part : length (with_part size (all_bytes size n parts) p bytes) ≡ size * n
    length-with_part =
        let all = all_bytes size n parts in
        let next = s.next p n p_in in
        let h = head in
        let whole = length-all size s n parts in
        let rest : length (drop (size * p + size) all) ≡ size * n - (size * p + size) = length-drop (size * p + size) all ∙ ap (λ k. k - (size * p + size)) whole in
        simp length-append (omega arith)

    pub with_part-all : all_bytes size n (set parts p bytes) ≡ with_part size (all_bytes size n parts) p bytes
    with_part-all =
        let new = set parts p bytes in
        same_number_lists _ _ (length-all size s n new ∙ sym length-with_part) (λ i below.
        let i_in : i < size * n = omega (arith, length-all size s n new) in
        elim (cases_eq (i / size) p) [
          | inl same ↦
              let place : i ≡ size * p + i % size = s.place i ∙ ap (λ q. size * q + i % size) same in
              get_or-all_at size s n new p (i % size) i p_in (s.rest i) place
              ∙ ap (λ bs. get_or bs (i % size) 0) same_part
              ∙ sym (within i (i % size) place (s.rest i))
          | inr other ↦
              get_or-all size s n new i i_in
              ∙ ap (λ bs. get_or bs (i % size) 0) (other_part (i / size) other)
              ∙ sym (get_or-all size s n parts i i_in)
              ∙ sym (elim (cases_lt i (size * p)) [
                | inl low ↦ before i low
                | inr high ↦ after i (behind i high other)
              ])
        ])
      where
        -- what is neither before the part nor in it
        behind : (i : ℕ) → size * p ≤ i → i / size ≢ p → size * p + size ≤ i
        behind i high other = elim (cases_lt i (size * p + size)) [
          | inl low ↦
              let e : size * p + (i - size * p) ≡ i = omega arith in
              absurd (other (ap (λ k. k / size) (sym e) ∙ s.part p (i - size * p) (omega arith)))
          | inr past ↦ past
        ]

-- parts of zeros
pub zeros-all : (size : ℕ) (s : IsSize size) (n : ℕ) (parts : List (List ℕ)) → ((p : ℕ) → p < n → part_at parts p ≡ replicate size 0) → all_bytes size n parts ≡ replicate (size * n) 0
zeros-all size s n parts zeros =
    same_number_lists _ _ (length-all size s n parts ∙ sym (length-replicate (size * n) 0)) (λ a below.
    let a_in : a < size * n = omega (arith, length-all size s n parts) in
    get_or-all size s n parts a a_in
    ∙ ap (λ bs. get_or bs (a % size) 0) (zeros (a / size) (s.below n a a_in))
    ∙ get_or-replicate size (a % size) 0 0 (s.rest a)
    ∙ sym (get_or-replicate (size * n) a 0 0 a_in))

-- every byte of parts of bytes is one
pub each-all : (size : ℕ) (s : IsSize size) (n : ℕ) (parts : List (List ℕ)) → ((p i : ℕ) → IsByte (get_or (part_at parts p) i 0)) → (a : ℕ) → IsByte (get_or (all_bytes size n parts) a 0)
each-all size s n parts fit a = elim (cases_lt a (size * n)) [
  | inl below ↦ subst IsByte (sym (get_or-all size s n parts a below)) (fit (a / size) (a % size))
  | inr above ↦ subst IsByte (sym (get_or_past (all_bytes size n parts) a 0 (omega (arith, length-all size s n parts)))) (omega arith)
]

-- ---- parts with the same bytes

-- parts that read alike make the same bytes
pub alike-all : (size : ℕ) (s : IsSize size) (n : ℕ) (parts others : List (List ℕ)) → ((p i : ℕ) → p < n → get_or (part_at parts p) i 0 ≡ get_or (part_at others p) i 0)
    → all_bytes size n parts ≡ all_bytes size n others
alike-all size s n parts others alike =
    same_number_lists _ _ (length-all size s n parts ∙ sym (length-all size s n others)) (λ a below.
    let a_in : a < size * n = omega (arith, length-all size s n parts) in
    get_or-all size s n parts a a_in
    ∙ alike (a / size) (a % size) (s.below n a a_in)
    ∙ sym (get_or-all size s n others a a_in))

pub same-all : (size : ℕ) (s : IsSize size) (n : ℕ) (parts others : List (List ℕ)) → ((p : ℕ) → p < n → part_at parts p ≡ part_at others p) → all_bytes size n parts ≡ all_bytes size n others
same-all size s n parts others same = alike-all size s n parts others (λ p i below. ap (λ bs. get_or bs i 0) (same p below))

abbrev zeros : ℕ → List ℕ
zeros n = replicate n 0

-- a byte of zeros is 0, and so is one behind them
zero_byte : (n i : ℕ) → get_or (zeros n) i 0 ≡ 0
zero_byte n i = elim (cases_lt i n) [
  | inl below ↦ get_or-replicate n i 0 0 below
  | inr past ↦ get_or_past (zeros n) i 0 (subst (λ k. k ≤ i) (sym (length-replicate n 0)) past)
]

-- a part of zeros reads as one that is not there
zeros_part : (k n p i : ℕ) → get_or (part_at (replicate k (zeros n)) p) i 0 ≡ 0
zeros_part k n p i = elim (cases_lt p k) [
  | inl below ↦ ap (λ bs. get_or bs i 0) (get_or-replicate k p (zeros n) [] below) ∙ zero_byte n i
  | inr past ↦ ap (λ bs. get_or bs i 0) (get_or_past (replicate k (zeros n)) p [] (subst (λ m. m ≤ p) (sym (length-replicate k (zeros n))) past))
]

some_more : (parts : List (List ℕ)) (k n p i : ℕ) → get_or (part_at (parts ++ replicate k (zeros n)) p) i 0 ≡ get_or (part_at parts p) i 0
some_more [] k n p i = zeros_part k n p i
some_more (part ∷ parts) k n zero i = refl
some_more (part ∷ parts) k n (suc p) i = some_more parts k n p i

-- some parts of zeros more
pub more-all : (size : ℕ) (s : IsSize size) (n : ℕ) (parts : List (List ℕ)) (k : ℕ) → all_bytes size n (parts ++ replicate k (zeros size)) ≡ all_bytes size n parts
more-all size s n parts k = alike-all size s n (parts ++ replicate k (zeros size)) parts (λ p i below. some_more parts k size p i)

-- no parts
pub none-all : (size : ℕ) (s : IsSize size) (n : ℕ) → all_bytes size n [] ≡ replicate (size * n) 0
none-all size s n =
    same_number_lists _ _ (length-all size s n [] ∙ sym (length-replicate (size * n) 0)) (λ a below.
    get_or-all size s n [] a (omega (arith, length-all size s n [])) ∙ sym (zero_byte (size * n) a))

-- a part that is not there
pub missing-all : (size : ℕ) (s : IsSize size) (n : ℕ) (parts : List (List ℕ)) (p : ℕ) → p < n → length parts ≤ p → part_of size (all_bytes size n parts) p ≡ replicate size 0
missing-all size s n parts p p_in past =
    let all = all_bytes size n parts in
    let next = s.next p n p_in in
    let rest : length (drop (size * p) all) ≡ size * n - size * p = length-drop (size * p) all ∙ ap (λ k. k - size * p) (length-all size s n parts) in
    let long : length (part_of size all p) ≡ size = length-take-le size (drop (size * p) all) (omega arith) in
    same_number_lists _ _ (long ∙ sym (length-replicate size 0)) (λ i below.
    let i_in : i < size = omega arith in
    get_or-take size (drop (size * p) all) i 0 i_in
    ∙ get_or-drop (size * p) all i 0
    ∙ get_or-all_at size s n parts p i (size * p + i) p_in i_in refl
    ∙ ap (λ bs. get_or bs i 0) (get_or_past parts p [] past)
    ∙ sym (zero_byte size i))

-- a number put at an address, written in the part that it falls in
pub written : (size : ℕ) (s : IsSize size) (n : ℕ) (parts : List (List ℕ)) (width : Size) (a v : ℕ) → a < size * n → a / size < length parts → a % bytes_in width ≡ 0
    → length (part_at parts (a / size)) ≡ size
    → all_bytes size n (set parts (a / size) (with_value width (a % size) v (part_at parts (a / size)))) ≡ with_value width a v (all_bytes size n parts)
written size s n parts width a v below there aligned long =
    let p = a / size in
    let all = all_bytes size n parts in
    let p_in : p < n = s.below n a below in
    let bytes = with_value width (a % size) v (part_at parts p) in
    with_part-all size s parts p bytes there n p_in (length-with_value width (a % size) v (part_at parts p) ∙ long)
    ∙ ap (λ part. with_part size all p (with_value width (a % size) v part)) (sym (part_of-all size s n parts p p_in long))
    ∙ put_in_part size s a v all width aligned
