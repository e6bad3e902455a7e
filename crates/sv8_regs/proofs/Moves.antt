-- The registers of a window are put into their places in the rows, and taken from there.
use Rattle.std.proofs.Common.{◌≡◌, ◌≢◌, ℕ, ◌+◌, ◌-◌, ◌*◌, ◌/◌, ◌%◌, ◌<◌, ◌≤◌, List, [], length, get_or, set, take, ap, sym, ◌∙◌, inl, inr, arith, get_or-set_other, get_or-set_same, length-set}
use Rattle.std.proofs.lemmas.Bool.{cases_lt, cases_eq}
use Rattle.std.proofs.lemmas.Grind.{same_number_lists}
use Rattle.std.proofs.lemmas.List.{get_or-take, length-take-le}
use Rattle.sv8_regs.specs.Control.{above}
use Rattle.sv8_regs.specs.Current.{register, ring_of, IsVacant}
use Rattle.sv8_regs.specs.Ring.{flat, place}
use Rattle.sv8_regs.proofs.Rows.{length-flat, get_or-flat, get_or-flat_at}
use Rattle.sv8_regs.proofs.Places.{above_apart, place_own, place_ins, register_at}
use Rattle.sv8_regs.proofs.Current.{is_ring, ring_elsewhere, ring_at_place}

module _ (n w a : ℕ) (two : 2 ≤ n) (w_in : w < n) (is_above : a ≡ above n w) (a_in : a < n) (rows : List (List ℕ)) (own ins : List ℕ) (size : length rows ≡ n) where
  abbrev new : List (List ℕ)
  new = set (set rows w own) a ins

  apart : a ≢ w
  apart e = above_apart n w two w_in (sym is_above ∙ e)

  -- the two rows that a window has words in, and the others
  row_above : get_or new a [] ≡ ins
  row_above = get_or-set_same (set rows w own) a ins [] (omega (arith, length-set rows w own))

  row_own : get_or new w [] ≡ own
  row_own = get_or-set_other (set rows w own) a w ins [] (λ e. apart (sym e)) ∙ get_or-set_same rows w own [] (omega arith)

  row_other : (k : ℕ) → k ≢ w → get_or (set rows w own) k [] ≡ get_or rows k []
  row_other k other = get_or-set_other rows w k own [] other

  module _ (words : List ℕ) (own_is : (k : ℕ) → k < 16 → get_or own (0 + k) 0 ≡ get_or words (8 + k) 0) (ins_is : (k : ℕ) → k < 8 → get_or ins (0 + k) 0 ≡ get_or words (24 + k) 0)
      (rest_is : (k : ℕ) → 0 + 8 ≤ k → get_or ins k 0 ≡ get_or (get_or (set rows w own) a []) k 0) where
    at_place : (r : ℕ) → 8 ≤ r → r < 32 → get_or (flat n new) (place n w r) 0 ≡ get_or words r 0
    at_place r low high = elim (cases_lt r 24) [
      | inl of_own ↦
          get_or-flat_at n new w (r - 8) (place n w r) w_in (omega arith) (place_own n w r w_in low of_own)
          ∙ grind (arith, row_own, own_is (r - 8))
      | inr of_ins ↦
          get_or-flat_at n new a (r - 24) (place n w r) a_in (omega arith) (place_ins n w r w_in of_ins high ∙ omega arith)
          ∙ grind (arith, row_above, ins_is (r - 24))
    ]

    elsewhere : (k : ℕ) → k < 16 * n → 32 ≤ register n w k → get_or (flat n new) k 0 ≡ get_or (flat n rows) k 0
    elsewhere k k_in other = get_or-flat n new k k_in ∙ elim (cases_eq (k / 16) w) [
      | inl of_own ↦
          let stands = place_own n w (8 + k % 16) w_in (omega arith) (omega arith) in
          let register_is = register_at n w w_in (8 + k % 16) k two (omega arith) (omega arith) (omega arith) in
          absurd (omega arith)
      | inr not_own ↦ elim (cases_eq (k / 16) a) [
        | inl of_above ↦ elim (cases_lt (k % 16) 8) [
          | inl low ↦
              let stands = place_ins n w (24 + k % 16) w_in (omega arith) (omega arith) in
              let register_is = register_at n w w_in (24 + k % 16) k two (omega arith) (omega arith) (omega arith) in
              absurd (omega arith)
          | inr high ↦ grind (arith, row_above, rest_is (k % 16), row_other a apart)
        ]
        | inr neither ↦ grind (arith, get_or-set_other (set rows w own) a (k / 16) ins [] neither, row_other (k / 16) not_own)
      ]
    ] ∙ sym (get_or-flat n rows k k_in)

    pub rows_put : flat n new ≡ ring_of n w words (flat n rows)
    rows_put = is_ring n w w_in words (flat n rows) (flat n new) (length-flat n new) at_place elsewhere

-- words that are taken out of the two rows
pub words_taken : (n w a : ℕ) → w < n → a ≡ above n w → a < n → (rows : List (List ℕ)) (before words : List ℕ)
    → ((k : ℕ) → k < 16 → get_or before (8 + k) 0 ≡ get_or (get_or rows w []) (0 + k) 0)
    → ((k : ℕ) → k < 8 → get_or words (24 + k) 0 ≡ get_or (get_or rows a []) (0 + k) 0)
    → ((k : ℕ) → k < 24 → get_or words k 0 ≡ get_or before k 0)
    → (r : ℕ) → 8 ≤ r → r < 32 → get_or words r 0 ≡ get_or (flat n rows) (place n w r) 0
words_taken n w a w_in is_above a_in rows before words own_is ins_is rest_is r low high = elim (cases_lt r 24) [
  | inl of_own ↦
      let stands = get_or-flat_at n rows w (r - 8) (place n w r) w_in (omega arith) (place_own n w r w_in low of_own) in
      grind (arith, rest_is r, own_is (r - 8))
  | inr of_ins ↦
      let stands = get_or-flat_at n rows a (r - 24) (place n w r) a_in (omega arith) (place_ins n w r w_in of_ins high ∙ omega arith) in
      grind (arith, ins_is (r - 24))
]

-- the words of the rows before and after the registers of a window are taken out, and zeros are left in their places
module _ (n w : ℕ) (two : 2 ≤ n) (w_in : w < n) (before after zeros current : List ℕ) (left : after ≡ ring_of n w zeros before) where
  pub ring_stays : length before ≡ 16 * n → ((r : ℕ) → 8 ≤ r → r < 32 → get_or current r 0 ≡ get_or before (place n w r) 0)
      → ring_of n w current after ≡ before
  ring_stays size taken =
      sym (is_ring n w w_in current after before size (λ r low high. sym (taken r low high)) (λ k k_in other.
      sym (ap (λ xs. get_or xs k 0) left ∙ ring_elsewhere n w w_in zeros before k k_in other)))

  pub zeros_left : ((r : ℕ) → r < 32 → get_or zeros r 0 ≡ 0) → IsVacant n w after
  unfolding IsVacant
  zeros_left are_zeros r low high = ap (λ xs. get_or xs (place n w r) 0) left ∙ ring_at_place n w w_in zeros before r two low high ∙ are_zeros r high

pub same_front : (n : ℕ) (xs ys : List ℕ) → n ≤ length xs → n ≤ length ys → ((k : ℕ) → k < n → get_or xs k 0 ≡ get_or ys k 0) → take n xs ≡ take n ys
same_front n xs ys xs_long ys_long same =
    let xs_front = length-take-le n xs xs_long in
    same_number_lists _ _ (xs_front ∙ sym (length-take-le n ys ys_long)) (λ k below.
    let k_in : k < n = omega (arith, below, xs_front) in
    get_or-take n xs k 0 k_in ∙ same k k_in ∙ sym (get_or-take n ys k 0 k_in))
