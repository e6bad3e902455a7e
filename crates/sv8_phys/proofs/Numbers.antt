-- Numbers of several bytes in a list of bytes.
use borrow.Rule.Slice.PartMut.{put_mid, mid_of}
use Rattle.std.proofs.Common.{◌≡◌, ℕ, zero, suc, ◌+◌, ◌*◌, ◌/◌, ◌%◌, ◌^◌, ◌≤◌, List, [], ◌∷◌, ◌++◌, length, get_or, set, drop, refl, sym, ap, ap₂, ◌∙◌, arith}
use Rattle.std.proofs.lemmas.List.{get_or-drop, take_all, append-nil, length-drop}
use Rattle.std.proofs.Math.ListN.{drop_of_length-le}
use Rattle.byteorder.specs.Endian.{big_number, big_bytes}
use Rattle.sv8_model.specs.Outside.{word_of, with_word}

-- the part of a list from a place on, whose length is known
pub rest_part : (xs : List ℕ) (a k : ℕ) → length xs ≡ a + k → mid_of a k xs ≡ drop a xs
rest_part xs a k e = take_all k (drop a xs) (simp length-drop (omega arith))

-- byte i of the part of a list from a place on
from : (xs : List ℕ) (at i k : ℕ) → at + i ≡ k → get_or (drop at xs) i 0 ≡ get_or xs k 0
from xs at i k e = get_or-drop at xs i 0 ∙ ap (λ j. get_or xs j 0) e

module _ (xs : List ℕ) (at : ℕ) where
  pub half_read : big_number 2 (drop at xs) ≡ get_or xs at 0 * 2 ^ 8 + get_or xs (at + 1) 0
  half_read =
      let e0 = from xs at 0 at (omega arith) in
      let e1 = from xs at 1 (at + 1) (omega arith) in
      omega arith

  pub word_read : at % 4 ≡ 0 → big_number 4 (drop at xs) ≡ word_of xs (at / 4)
  unfolding word_of
  word_read h =
      let k = 4 * (at / 4) in
      let e0 = from xs at 0 k (omega arith) in
      let e1 = from xs at 1 (k + 1) (omega arith) in
      let e2 = from xs at 2 (k + 2) (omega arith) in
      let e3 = from xs at 3 (k + 3) (omega arith) in
      omega arith

  pub double_read : at % 8 ≡ 0 → big_number 8 (drop at xs) ≡ word_of xs (at / 4) * 2 ^ 32 + word_of xs (at / 4 + 1)
  unfolding word_of
  double_read h =
      let k = 4 * (at / 4) in
      let l = 4 * (at / 4 + 1) in
      let e0 = from xs at 0 k (omega arith) in
      let e1 = from xs at 1 (k + 1) (omega arith) in
      let e2 = from xs at 2 (k + 2) (omega arith) in
      let e3 = from xs at 3 (k + 3) (omega arith) in
      let e4 = from xs at 4 l (omega arith) in
      let e5 = from xs at 5 (l + 1) (omega arith) in
      let e6 = from xs at 6 (l + 2) (omega arith) in
      let e7 = from xs at 7 (l + 3) (omega arith) in
      omega arith

-- a list with other numbers from a place on
abbrev pub sets : ℕ → List ℕ → List ℕ → List ℕ
sets a [] xs = xs
sets a (y ∷ ys) xs = sets (suc a) ys (set xs a y)

sets-cons : (ys xs : List ℕ) (x a : ℕ) → sets (suc a) ys (x ∷ xs) ≡ x ∷ sets a ys xs
sets-cons [] xs x a = refl
sets-cons (y ∷ ys) xs x a = sets-cons ys (set xs a y) x (suc a)

sets_front : (ys xs : List ℕ) → length ys ≤ length xs → ys ++ drop (length ys) xs ≡ sets 0 ys xs
sets_front [] xs h = refl
sets_front (y ∷ ys) [] h = absurd (omega arith)
sets_front (y ∷ ys) (x ∷ xs) h = ap (λ zs. y ∷ zs) (sets_front ys xs (omega arith)) ∙ sym (sets-cons ys xs y 0)

-- numbers written at the head of the part of a list from a place on
pub put_sets : (ys xs : List ℕ) (a k : ℕ) → a + length ys ≤ length xs → length xs ≡ a + k
    → put_mid a k xs (ys ++ drop (length ys) (mid_of a k xs)) ≡ sets a ys xs
put_sets ys xs zero k h e =
    ap₂ (λ ps qs. (ys ++ drop (length ys) ps) ++ qs) (take_all k xs (omega arith)) (drop_of_length-le xs {i = k} (omega arith))
    ∙ append-nil (ys ++ drop (length ys) xs)
    ∙ sets_front ys xs (omega arith)
put_sets ys [] (suc a) k h e = absurd (omega arith)
put_sets ys (x ∷ xs) (suc a) k h e = ap (λ zs. x ∷ zs) (put_sets ys xs a k (omega arith) (omega arith)) ∙ sym (sets-cons ys xs x a)

module _ (xs : List ℕ) (at v : ℕ) where
  pub half_sets : sets at (big_bytes 2 (v % 65536)) xs ≡ set (set xs at (v / 2 ^ 8 % 2 ^ 8)) (at + 1) (v % 2 ^ 8)
  half_sets =
      let a1 : suc at ≡ at + 1 = omega arith in
      let b0 : v % 65536 / 256 % 256 ≡ v / 256 % 256 = omega arith in
      let b1 : v % 65536 % 256 ≡ v % 256 = omega arith in
      cc

  pub word_sets : at % 4 ≡ 0 → sets at (big_bytes 4 v) xs ≡ with_word xs (at / 4) v
  unfolding with_word
  word_sets h =
      let a0 : at ≡ 4 * (at / 4) = omega arith in
      let a1 : suc at ≡ 4 * (at / 4) + 1 = omega arith in
      let a2 : suc (suc at) ≡ 4 * (at / 4) + 2 = omega arith in
      let a3 : suc (suc (suc at)) ≡ 4 * (at / 4) + 3 = omega arith in
      cc

  pub double_sets : at % 8 ≡ 0 → sets at (big_bytes 8 v) xs ≡ with_word (with_word xs (at / 4) (v / 2 ^ 32 % 2 ^ 32)) (at / 4 + 1) (v % 2 ^ 32)
  unfolding with_word
  double_sets h =
      let k = 4 * (at / 4) in
      let l = 4 * (at / 4 + 1) in
      let a0 : at ≡ k = omega arith in
      let a1 : suc at ≡ k + 1 = omega arith in
      let a2 : suc (suc at) ≡ k + 2 = omega arith in
      let a3 : suc (suc (suc at)) ≡ k + 3 = omega arith in
      let a4 : suc (suc (suc (suc at))) ≡ l = omega arith in
      let a5 : suc (suc (suc (suc (suc at)))) ≡ l + 1 = omega arith in
      let a6 : suc (suc (suc (suc (suc (suc at))))) ≡ l + 2 = omega arith in
      let a7 : suc (suc (suc (suc (suc (suc (suc at)))))) ≡ l + 3 = omega arith in
      let b0 : v / 2 ^ 56 % 256 ≡ v / 2 ^ 32 % 2 ^ 32 / 2 ^ 24 % 2 ^ 8 = omega arith in
      let b1 : v / 2 ^ 48 % 256 ≡ v / 2 ^ 32 % 2 ^ 32 / 2 ^ 16 % 2 ^ 8 = omega arith in
      let b2 : v / 2 ^ 40 % 256 ≡ v / 2 ^ 32 % 2 ^ 32 / 2 ^ 8 % 2 ^ 8 = omega arith in
      let b3 : v / 2 ^ 32 % 256 ≡ v / 2 ^ 32 % 2 ^ 32 % 2 ^ 8 = omega arith in
      let b4 : v / 2 ^ 24 % 256 ≡ v % 2 ^ 32 / 2 ^ 24 % 2 ^ 8 = omega arith in
      let b5 : v / 2 ^ 16 % 256 ≡ v % 2 ^ 32 / 2 ^ 16 % 2 ^ 8 = omega arith in
      let b6 : v / 2 ^ 8 % 256 ≡ v % 2 ^ 32 / 2 ^ 8 % 2 ^ 8 = omega arith in
      let b7 : v % 256 ≡ v % 2 ^ 32 % 2 ^ 8 = omega arith in
      cc
