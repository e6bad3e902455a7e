-- Rows of 16 words, one after the other.
use Rattle.std.proofs.Common.{◌≡◌, ℕ, ◌+◌, ◌*◌, ◌/◌, ◌%◌, ◌<◌, List, [], length, get_or, replicate, ap, sym, ◌∙◌, arith}
use Rattle.std.proofs.lemmas.List.{length-replicate, get_or-replicate}
use Rattle.std.proofs.lemmas.List.FromFn.{get_or-map-range_with_len, length-map-range_with_len}
use Rattle.std.proofs.lemmas.Grind.{same_number_lists}
use Rattle.sv8_regs.specs.Ring.{flat}

module _ (n : ℕ) (rows : List (List ℕ)) where
  pub length-flat : length (flat n rows) ≡ 16 * n
  length-flat = length-map-range_with_len (λ k. get_or (get_or rows (k / 16) []) (k % 16) 0) 0 (16 * n)

  pub get_or-flat : (k : ℕ) → k < 16 * n → get_or (flat n rows) k 0 ≡ get_or (get_or rows (k / 16) []) (k % 16) 0
  get_or-flat k below = get_or-map-range_with_len (λ k. get_or (get_or rows (k / 16) []) (k % 16) 0) 0 (16 * n) k k 0 below (omega arith)

  -- word j of row w
  pub get_or-flat_at : (w j k : ℕ) → w < n → j < 16 → k ≡ 16 * w + j → get_or (flat n rows) k 0 ≡ get_or (get_or rows w []) j 0
  get_or-flat_at w j k w_in j_in e =
      let q : k / 16 ≡ w = omega arith in
      let r : k % 16 ≡ j = omega arith in
      get_or-flat k (omega arith) ∙ ap (λ i. get_or (get_or rows i []) (k % 16) 0) q ∙ ap (λ i. get_or (get_or rows w []) i 0) r

-- rows of zeros
pub flat-zeros : (n : ℕ) → flat n (replicate n (replicate 16 0)) ≡ replicate (16 * n) 0
flat-zeros n =
    same_number_lists _ _ (length-flat n _ ∙ sym (length-replicate (16 * n) 0)) (λ k below.
    let k_in : k < 16 * n = omega (arith, length-flat n (replicate n (replicate 16 0))) in
    get_or-flat n _ k k_in
    ∙ ap (λ xs. get_or xs (k % 16) 0) (get_or-replicate n (k / 16) (replicate 16 0) [] (omega arith))
    ∙ get_or-replicate 16 (k % 16) 0 0 (omega arith)
    ∙ sym (get_or-replicate (16 * n) k 0 0 k_in))
