-- The ring that the registers of the current window make with the words of the rows.
use Rattle.std.proofs.Common.{◌≡◌, ◌≢◌, ℕ, ◌*◌, ◌<◌, ◌≤◌, List, length, get_or, set, take, replicate, ap, sym, ◌∙◌, inl, inr, arith, get_or-set_other, length-set}
use Rattle.std.proofs.Math.Seq.{take-set-lt}
use Rattle.std.proofs.lemmas.Bool.{cases_lt, cases_eq}
use Rattle.std.proofs.lemmas.Bool.Decides.{nat_tests}
use Rattle.std.proofs.lemmas.Grind.{same_number_lists, get_or-set_at}
use Rattle.std.proofs.lemmas.List.{get_or-take, take-set-le, length-replicate, get_or-replicate}
use Rattle.std.proofs.lemmas.List.FromFn.{get_or-map-range_with_len, length-map-range_with_len}
use Rattle.sv8_regs.specs.Current.{register, ring_of, IsVacant, other_windows}
use Rattle.sv8_regs.specs.Ring.{Registers, place, read, write, flat}
use Rattle.sv8_regs.proofs.Rows.{flat-zeros}
use Rattle.sv8_regs.proofs.Places.{register_of_place, place_of_register, place_in, place_apart, read_ring, write_ring, read_global, read_zero, write_zero, write_global}

module _ (n w : ℕ) (w_in : w < n) (current words : List ℕ) where
  pub length-ring : length (ring_of n w current words) ≡ 16 * n
  unfolding ring_of
  length-ring = length-map-range_with_len _ 0 (16 * n)

  -- a place that a register of the window has
  ring_at_register : (k : ℕ) → k < 16 * n → register n w k < 32 → get_or (ring_of n w current words) k 0 ≡ get_or current (register n w k) 0
  unfolding ring_of
  ring_at_register k k_in of_window = get_or-map-range_with_len _ 0 (16 * n) k k 0 k_in (omega arith) ∙ grind (arith, nat_tests)

  -- any other place
  pub ring_elsewhere : (k : ℕ) → k < 16 * n → 32 ≤ register n w k → get_or (ring_of n w current words) k 0 ≡ get_or words k 0
  unfolding ring_of
  ring_elsewhere k k_in elsewhere = get_or-map-range_with_len _ 0 (16 * n) k k 0 k_in (omega arith) ∙ grind (arith, nat_tests)

  pub ring_at_place : (r : ℕ) → 2 ≤ n → 8 ≤ r → r < 32 → get_or (ring_of n w current words) (place n w r) 0 ≡ get_or current r 0
  ring_at_place r two low high =
      let back = register_of_place n w w_in r two low high in
      ring_at_register (place n w r) (place_in n w w_in r) (omega arith) ∙ ap (λ t. get_or current t 0) back

  -- words that have the registers in their places, and are those of the rows elsewhere
  pub is_ring : (xs : List ℕ) → length xs ≡ 16 * n
      → ((r : ℕ) → 8 ≤ r → r < 32 → get_or xs (place n w r) 0 ≡ get_or current r 0)
      → ((k : ℕ) → k < 16 * n → 32 ≤ register n w k → get_or xs k 0 ≡ get_or words k 0)
      → xs ≡ ring_of n w current words
  is_ring xs size own elsewhere = same_number_lists _ _ (size ∙ sym length-ring) (λ k below.
      let k_in : k < 16 * n = omega arith in
      elim (cases_lt (register n w k) 32) [
        | inl of_window ↦
            let back = place_of_register n w w_in k k_in in
            grind (arith, own (register n w k), ring_at_register k k_in of_window)
        | inr other ↦ elsewhere k k_in other ∙ sym (ring_elsewhere k k_in other)
      ])

-- a register of the window is written, or a global
module _ (n w : ℕ) (w_in : w < n) (current words : List ℕ) where
  ring-set : (r v : ℕ) → 2 ≤ n → 8 ≤ r → r < 32 → length current ≡ 32 → ring_of n w (set current r v) words ≡ set (ring_of n w current words) (place n w r) v
  ring-set r v two low high size =
      let ring = ring_of n w current words in
      sym (is_ring n w w_in (set current r v) words (set ring (place n w r) v) (length-set ring (place n w r) v ∙ length-ring n w w_in current words)
      (λ t t_low t_high. elim (cases_eq t r) [
        | inl same ↦
            let stands = place_in n w w_in r in
            let long = length-ring n w w_in current words in
            get_or-set_at ring (place n w r) (place n w t) v 0 (ap (place n w) same) (omega arith) ∙ sym (get_or-set_at current r t v 0 same (omega arith))
        | inr other ↦
            let apart = place_apart n w w_in r t two low high t_low t_high (λ e. other (sym e)) in
            grind (arith, get_or-set_other ring (place n w r) (place n w t) v 0 apart, ring_at_place n w w_in current words t, get_or-set_other current r t v 0 other)
      ])
      (λ k k_in elsewhere.
      let back = register_of_place n w w_in r two low high in
      let apart : k ≢ place n w r = λ e. let register_is = ap (register n w) e in absurd (omega arith) in
      get_or-set_other ring (place n w r) k v 0 apart ∙ ring_elsewhere n w w_in current words k k_in elsewhere))

  ring-set_global : (r v : ℕ) → 2 ≤ n → r < 8 → ring_of n w (set current r v) words ≡ ring_of n w current words
  ring-set_global r v two low =
      sym (is_ring n w w_in (set current r v) words (ring_of n w current words) (length-ring n w w_in current words)
      (λ t t_low t_high. ring_at_place n w w_in current words t two t_low t_high ∙ sym (get_or-set_other current r t v 0 (λ e. absurd (omega arith))))
      (ring_elsewhere n w w_in current words))

-- a view of registers whose window's words stand together
module _ (n : ℕ) (u s : Registers) (current words : List ℕ) (view_is : u ≡ s) (globals_are : u.globals ≡ take 8 current) (ring_is : u.ring ≡ ring_of n u.cwp current words) (two : 2 ≤ n) (w_in : u.cwp < n) where
  pub current_read : (r : ℕ) → get_or current 0 0 ≡ 0 → r < 32 → get_or current r 0 ≡ read n s r
  current_read r zero high = elim (cases_eq r 0) [
    | inl is_zero ↦ grind (arith, read_zero n u r)
    | inr not_zero ↦ elim (cases_lt r 8) [
      | inl global ↦ grind (arith, read_global n u r, get_or-take 8 current r 0)
      | inr windowed ↦ grind (arith, read_ring n u r, ring_at_place n u.cwp w_in current words r)
    ]
  ] ∙ ap (λ x. read n x r) view_is

  pub current_written : (r v : ℕ) → 0 < r → r < 32 → length current ≡ 32
      → record u { globals = take 8 (set current r v); ring = ring_of n u.cwp (set current r v) words } ≡ write n s r v
  current_written r v low high size = elim (cases_lt r 8) [
    | inl global ↦
        let globals = take-set-lt 8 current r v global ∙ ap (λ xs. set xs r v) (sym globals_are) in
        let ring = ring-set_global n u.cwp w_in current words r v two global ∙ sym ring_is in
        (λ i. record u { globals = globals i; ring = ring i }) ∙ sym (write_global n u r v low global)
    | inr windowed ↦
        let globals = take-set-le 8 current r v windowed ∙ sym globals_are in
        let ring = ring-set n u.cwp w_in current words r v two windowed high size ∙ ap (λ xs. set xs (place n u.cwp r) v) (sym ring_is) in
        (λ i. record u { globals = globals i; ring = ring i }) ∙ sym (write_ring n u r v windowed)
  ] ∙ ap (λ x. write n x r v) view_is

-- all words are 0
module _ (n : ℕ) (two : 2 ≤ n) where
  abbrev zeros : List ℕ
  zeros = flat n (replicate n (replicate 16 0))

  zeros_at : (k : ℕ) → k < 16 * n → get_or zeros k 0 ≡ 0
  zeros_at k k_in = ap (λ xs. get_or xs k 0) (flat-zeros n) ∙ get_or-replicate (16 * n) k 0 0 k_in

  pub ring-zeros : ring_of n 0 (replicate 32 0) zeros ≡ replicate (16 * n) 0
  ring-zeros =
      sym (is_ring n 0 (omega arith) (replicate 32 0) zeros (replicate (16 * n) 0) (length-replicate (16 * n) 0)
      (λ r low high. get_or-replicate (16 * n) (place n 0 r) 0 0 (place_in n 0 (omega arith) r) ∙ sym (get_or-replicate 32 r 0 0 high))
      (λ k k_in elsewhere. get_or-replicate (16 * n) k 0 0 k_in ∙ sym (zeros_at k k_in)))

  pub vacant-zeros : IsVacant n 0 zeros
  unfolding IsVacant
  vacant-zeros r low high = zeros_at (place n 0 r) (place_in n 0 (omega arith) r)

-- the registers and the words that make a ring
module _ (n w : ℕ) (two : 2 ≤ n) (w_in : w < n) (current current2 words words2 : List ℕ) (ring_is : ring_of n w current words ≡ ring_of n w current2 words2) where
  pub same_current : length current ≡ 32 → length current2 ≡ 32 → take 8 current ≡ take 8 current2 → current ≡ current2
  same_current size size2 globals = same_number_lists _ _ (size ∙ sym size2) (λ r below. elim (cases_lt r 8) [
    | inl global ↦ grind (arith, get_or-take 8 current r 0, get_or-take 8 current2 r 0)
    | inr windowed ↦ grind (arith, ring_at_place n w w_in current words r, ring_at_place n w w_in current2 words2 r)
  ])

  pub same_rest : length words ≡ 16 * n → length words2 ≡ 16 * n → IsVacant n w words → IsVacant n w words2 → words ≡ words2
  unfolding IsVacant
  same_rest size size2 vacant vacant2 = same_number_lists _ _ (size ∙ sym size2) (λ k below.
      let k_in : k < 16 * n = omega arith in
      elim (cases_lt (register n w k) 32) [
        | inl of_window ↦
            let back = place_of_register n w w_in k k_in in
            grind (arith, vacant (register n w k), vacant2 (register n w k))
        | inr other ↦ grind (arith, ring_elsewhere n w w_in current words k k_in other, ring_elsewhere n w w_in current2 words2 k k_in other)
      ])

-- the words of the rows are the ring with zeros in the places of the window
pub vacated : (n w : ℕ) → 2 ≤ n → w < n → (current words : List ℕ) → length words ≡ 16 * n → IsVacant n w words
    → ring_of n w (replicate 32 0) (ring_of n w current words) ≡ words
unfolding IsVacant
vacated n w two w_in current words size vacant =
    sym (is_ring n w w_in (replicate 32 0) (ring_of n w current words) words size
    (λ r low high. vacant r low high ∙ sym (get_or-replicate 32 r 0 0 high))
    (λ k k_in elsewhere. sym (ring_elsewhere n w w_in current words k k_in elsewhere)))

-- a register of the current window is written: those outside it stay
module _ (n : ℕ) (s : Registers) (two : 2 ≤ n) (w_in : s.cwp < n) where
  ring_written : (r v : ℕ) → 8 ≤ r → r < 32 → ring_of n s.cwp (replicate 32 0) (set s.ring (place n s.cwp r) v) ≡ other_windows n s
  ring_written r v low high =
      let zeros = replicate 32 0 in
      let written = set s.ring (place n s.cwp r) v in
      is_ring n s.cwp w_in zeros s.ring (ring_of n s.cwp zeros written) (length-ring n s.cwp w_in zeros written)
      (λ t t_low t_high. ring_at_place n s.cwp w_in zeros written t two t_low t_high)
      (λ k k_in elsewhere.
      let back = register_of_place n s.cwp w_in r two low high in
      let apart : k ≢ place n s.cwp r = λ e. let register_is = ap (register n s.cwp) e in absurd (omega arith) in
      ring_elsewhere n s.cwp w_in zeros written k k_in elsewhere ∙ get_or-set_other s.ring (place n s.cwp r) k v 0 apart)

  pub others_written : (r v : ℕ) → r < 32 → other_windows n (write n s r v) ≡ other_windows n s
  others_written r v high = elim (cases_eq r 0) [
    | inl is_zero ↦ ap (other_windows n) (write_zero n s r v is_zero)
    | inr not_zero ↦ elim (cases_lt r 8) [
      | inl global ↦ ap (other_windows n) (write_global n s r v (omega arith) global)
      | inr windowed ↦ ap (other_windows n) (write_ring n s r v windowed) ∙ ring_written r v windowed high
    ]
  ]

-- and CWP does
pub window_kept : (n : ℕ) (s : Registers) (r v : ℕ) → (write n s r v).cwp ≡ s.cwp
window_kept n s r v = elim (cases_eq r 0) [
  | inl is_zero ↦ ap (λ (x : Registers). x.cwp) (write_zero n s r v is_zero)
  | inr not_zero ↦ elim (cases_lt r 8) [
    | inl global ↦ ap (λ (x : Registers). x.cwp) (write_global n s r v (omega arith) global)
    | inr windowed ↦ ap (λ (x : Registers). x.cwp) (write_ring n s r v windowed)
  ]
]
