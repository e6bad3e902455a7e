-- Where the registers of a window stand in the ring, and registers that are written and read.
use Rattle.std.proofs.Common.{◌≡◌, ℕ, ◌+◌, ◌-◌, ◌*◌, ◌%◌, ◌<◌, ◌≤◌, ◌≢◌, inl, inr, length, get_or, set, ap, sym, ◌∙◌, arith, mod-eq_of_lt, get_or-set_other, get_or-set_same}
use Rattle.std.proofs.Math.Nat.{add-mod_right, mod-lt, mod_self}
use Rattle.std.proofs.lemmas.Bool.{cases_lt, cases_eq}
use Rattle.std.proofs.lemmas.Bool.Decides.{nat_tests}
use Rattle.sv8_regs.specs.Ring.{Registers, place, read, write}
use Rattle.sv8_regs.specs.Control.{above, below}
use Rattle.sv8_regs.specs.Current.{register}

mod_past : (m k r : ℕ) → r < m → k ≡ r + m → k % m ≡ r
mod_past m k r within e = ap (λ t. t % m) e ∙ add-mod_right r m ∙ mod-eq_of_lt within

mod_within : (m k r : ℕ) → r < m → k ≡ r → k % m ≡ r
mod_within m k r within e = ap (λ t. t % m) e ∙ mod-eq_of_lt within

pub above_apart : (n w : ℕ) → 2 ≤ n → w < n → above n w ≢ w
above_apart n w two w_in = elim (cases_lt (w + 1) n) [
  | inl inside ↦ let next = mod-eq_of_lt inside in λ e. omega arith
  | inr past ↦
      let last : w + 1 ≡ n = omega arith in
      let next = ap (λ t. t % n) last ∙ mod_self n in
      λ e. omega arith
]

pub below_apart : (n w : ℕ) → 2 ≤ n → w < n → below n w ≢ w
below_apart n w two w_in = elim (cases_eq w 0) [
  | inl first ↦
      let last : w + n - 1 < n = omega arith in
      let next = mod-eq_of_lt last in
      λ e. omega arith
  | inr other ↦
      let turned = mod_past n (w + n - 1) (w - 1) (omega arith) (omega arith) in
      λ e. omega arith
]

-- a window's own registers, and its ins, which stand with the window above
pub place_own : (n w i : ℕ) → w < n → 8 ≤ i → i < 24 → place n w i ≡ 16 * w + (i - 8)
place_own n w i w_in low high =
    let below : 16 * w + i - 8 < 16 * n = omega arith in
    mod-eq_of_lt below ∙ omega arith

pub place_ins : (n w r : ℕ) → w < n → 24 ≤ r → r < 32 → place n w r ≡ 16 * above n w + (r - 24)
place_ins n w r w_in low high = elim (cases_lt (w + 1) n) [
  | inl inside ↦
      let next = mod-eq_of_lt inside in
      let below : 16 * w + r - 8 < 16 * n = omega arith in
      let stands = mod-eq_of_lt below in
      omega arith
  | inr past ↦
      let last : w + 1 ≡ n = omega arith in
      let next = ap (λ t. t % n) last ∙ mod_self n in
      let stands = mod_past (16 * n) (16 * w + r - 8) (r - 24) (omega arith) (omega arith) in
      omega arith
]

module _ (n w : ℕ) (w_in : w < n) where
  -- each of the two is undone by the other
  pub register_of_place : (r : ℕ) → 2 ≤ n → 8 ≤ r → r < 32 → register n w (place n w r) ≡ r
  register_of_place r two low high = elim (cases_lt (16 * w + r - 8) (16 * n)) [
    | inl inside ↦
        let stands = mod_within (16 * n) (16 * w + r - 8) (16 * w + (r - 8)) (omega arith) (omega arith) in
        let turned = mod_past (16 * n) (place n w r + 16 * (n - w)) (r - 8) (omega arith) (omega arith) in
        omega arith
    | inr past ↦
        let stands = mod_past (16 * n) (16 * w + r - 8) (16 * w + r - 8 - 16 * n) (omega arith) (omega arith) in
        let turned = mod_within (16 * n) (place n w r + 16 * (n - w)) (r - 8) (omega arith) (omega arith) in
        omega arith
  ]

  pub register_at : (r k : ℕ) → 2 ≤ n → 8 ≤ r → r < 32 → place n w r ≡ k → register n w k ≡ r
  register_at r k two low high e = sym (ap (register n w) e) ∙ register_of_place r two low high

  pub place_of_register : (k : ℕ) → k < 16 * n → place n w (register n w k) ≡ k
  place_of_register k k_in = elim (cases_lt k (16 * w)) [
    | inl below ↦
        let turned = mod_within (16 * n) (k + 16 * (n - w)) (k + 16 * (n - w)) (omega arith) (omega arith) in
        mod_past (16 * n) (16 * w + register n w k - 8) k k_in (omega arith)
    | inr past ↦
        let turned = mod_past (16 * n) (k + 16 * (n - w)) (k - 16 * w) (omega arith) (omega arith) in
        mod_within (16 * n) (16 * w + register n w k - 8) k k_in (omega arith)
  ]

  pub place_in : (r : ℕ) → place n w r < 16 * n
  place_in r = mod-lt (16 * w + r - 8) (omega arith)

  -- two registers of one window stand at two places
  pub place_apart : (r t : ℕ) → 2 ≤ n → 8 ≤ r → r < 32 → 8 ≤ t → t < 32 → r ≢ t → place n w t ≢ place n w r
  place_apart r t two r_low r_high t_low t_high apart same =
      let e0 = register_of_place r two r_low r_high in
      let e1 = register_at t (place n w r) two t_low t_high same in
      apart (omega arith)

-- a register of the ring is read where it stands
pub read_ring : (n : ℕ) (s : Registers) (i : ℕ) → 8 ≤ i → read n s i ≡ get_or s.ring (place n s.cwp i) 0
read_ring n s i high = grind (arith, nat_tests)

pub write_ring : (n : ℕ) (s : Registers) (i v : ℕ) → 8 ≤ i → write n s i v ≡ record s { ring = set s.ring (place n s.cwp i) v }
write_ring n s i v high = grind (arith, nat_tests)

-- the outs of the window above are the ins
pub read_shared : (n w r : ℕ) (s : Registers) → 2 ≤ n → w < n → 8 ≤ r → r < 16 → read n (record s { cwp = above n w }) r ≡ read n (record s { cwp = w }) (r + 16)
read_shared n w r s two w_in low high =
    let above_in : above n w < n = mod-lt (w + 1) (omega arith) in
    let out_is = place_own n (above n w) r above_in low (omega arith) in
    let in_is = place_ins n w (r + 16) w_in (omega arith) (omega arith) in
    read_ring n (record s { cwp = above n w }) r low
    ∙ ap (λ k. get_or s.ring k 0) (omega arith)
    ∙ sym (read_ring n (record s { cwp = w }) (r + 16) (omega arith))

pub read_global : (n : ℕ) (s : Registers) (i : ℕ) → 0 < i → i < 8 → read n s i ≡ get_or s.globals i 0
read_global n s i low high = grind (arith, nat_tests)

pub read_zero : (n : ℕ) (s : Registers) (i : ℕ) → i ≡ 0 → read n s i ≡ 0
read_zero n s i e = grind (arith, nat_tests)

pub write_zero : (n : ℕ) (s : Registers) (i v : ℕ) → i ≡ 0 → write n s i v ≡ s
write_zero n s i v e = grind (arith, nat_tests)

pub write_global : (n : ℕ) (s : Registers) (i v : ℕ) → 0 < i → i < 8 → write n s i v ≡ record s { globals = set s.globals i v }
write_global n s i v low high = grind (arith, nat_tests)

module _ (n : ℕ) (s : Registers) (two : 2 ≤ n) (cwp_in : s.cwp < n) where
  pub read_written : (i v : ℕ) → 0 < i → i < 32 → length s.globals ≡ 8 → length s.ring ≡ 16 * n → read n (write n s i v) i ≡ v
  read_written i v low high globals_long ring_long = elim (cases_lt i 8) [
    | inl global ↦
        ap (λ x. read n x i) (write_global n s i v low global)
        ∙ read_global n (record s { globals = set s.globals i v }) i low global
        ∙ get_or-set_same s.globals i v 0 (omega arith)
    | inr windowed ↦
        let stands : place n s.cwp i < 16 * n = mod-lt (16 * s.cwp + i - 8) (omega arith) in
        ap (λ x. read n x i) (write_ring n s i v windowed)
        ∙ read_ring n (record s { ring = set s.ring (place n s.cwp i) v }) i windowed
        ∙ get_or-set_same s.ring (place n s.cwp i) v 0 (omega arith)
  ]

  pub read_other : (i k v : ℕ) → i < 32 → k < 32 → i ≢ k → read n (write n s i v) k ≡ read n s k
  read_other i k v i_high k_high apart = elim (cases_eq i 0) [
    | inl zero_written ↦ ap (λ x. read n x k) (write_zero n s i v zero_written)
    | inr written ↦ elim (cases_eq k 0) [
      | inl zero_read ↦ read_zero n (write n s i v) k zero_read ∙ sym (read_zero n s k zero_read)
      | inr not_zero ↦ elim (cases_lt i 8) [
        | inl global ↦ ap (λ x. read n x k) (write_global n s i v (omega arith) global) ∙ elim (cases_lt k 8) [
          | inl k_global ↦
              read_global n (record s { globals = set s.globals i v }) k (omega arith) k_global
              ∙ get_or-set_other s.globals i k v 0 (λ e. apart (sym e))
              ∙ sym (read_global n s k (omega arith) k_global)
          | inr k_windowed ↦
              read_ring n (record s { globals = set s.globals i v }) k k_windowed ∙ sym (read_ring n s k k_windowed)
        ]
        | inr windowed ↦ ap (λ x. read n x k) (write_ring n s i v windowed) ∙ elim (cases_lt k 8) [
          | inl k_global ↦
              read_global n (record s { ring = set s.ring (place n s.cwp i) v }) k (omega arith) k_global
              ∙ sym (read_global n s k (omega arith) k_global)
          | inr k_windowed ↦
              read_ring n (record s { ring = set s.ring (place n s.cwp i) v }) k k_windowed
              ∙ get_or-set_other s.ring (place n s.cwp i) (place n s.cwp k) v 0 (place_apart n s.cwp cwp_in i k two windowed i_high k_windowed k_high apart)
              ∙ sym (read_ring n s k k_windowed)
        ]
      ]
    ]
  ]
