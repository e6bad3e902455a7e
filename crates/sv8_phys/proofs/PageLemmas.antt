-- Both halves of a page of RAM are replaced.
use Rattle.std.proofs.Common.{◌≡◌, ℕ, ◌+◌, ◌*◌, ◌<◌, ◌≤◌, List, ◌++◌, length, set, take, drop, sym, ap, ap₂, ◌∙◌, arith, length-append, length-set}
use Rattle.std.proofs.lemmas.List.{append_assoc, drop-drop, length-take-le, take_all}
use Rattle.std.proofs.Math.Seq.{drop-append-add, take-append_seam}
use Rattle.sv8_phys.specs.declared.halves.Halves.{Halves}
use Rattle.sv8_phys.specs.Memory.{with_page}
use Rattle.sv8_phys.specs.Parts.{part_of, with_part, page_bytes, ram_bytes, IsPut}
use Rattle.sv8_phys.proofs.AllBytes.{length-all, with_part-all}
use Rattle.sv8_phys.proofs.BlockLemmas.{both_halves, page_full}
use Rattle.sv8_phys.proofs.Sizes.{of_half}

-- other bytes in one half of a page and then in the other are other bytes in the page
with_both : (ram low high : List ℕ) (p : ℕ) → 4096 * p + 4096 ≤ length ram → length low ≡ 2048
    → with_part 2048 (with_part 2048 ram (2 * p) low) (2 * p + 1) high ≡ with_page ram p (low ++ high)
with_both ram low high p within full =
    let a = 2048 * (2 * p) in
    let front = take a ram in
    let behind = drop (a + 2048) ram in
    let head : length front ≡ a = length-take-le a ram (omega arith) in
    let seam : length (front ++ low) ≡ 2048 * (2 * p + 1) = length-append front low ∙ omega (arith, head, full) in
    let last : 2048 * (2 * p + 1) + 2048 ≡ length (front ++ low) + 2048 = omega (arith, seam) in
    let whole = front ++ low ++ behind in
    let first : take (2048 * (2 * p + 1)) whole ≡ front ++ low = ap (λ n. take n whole) (sym seam) ∙ take-append_seam (front ++ low) behind in
    let rest : drop (2048 * (2 * p + 1) + 2048) whole ≡ drop (a + 2048 + 2048) ram =
    ap (λ n. drop n whole) last ∙ drop-append-add (front ++ low) behind 2048 ∙ drop-drop 2048 (a + 2048) ram in
    let from : a ≡ 4096 * p = omega arith in
    let to : a + 2048 + 2048 ≡ 4096 * p + 4096 = omega arith in
    ap₂ (λ xs ys. xs ++ high ++ ys) first rest
    ∙ ap (λ xs. xs ++ drop (a + 2048 + 2048) ram) (append_assoc front low high)
    ∙ ap₂ (λ n m. take n ram ++ (low ++ high) ++ drop m ram) from to

-- a page is put in the place of another one
pub page_put : (halves : List (List ℕ)) (p : ℕ) (low high : List ℕ) (page : Halves) → 2 * p + 1 < length halves → length low ≡ 2048 → length high ≡ 2048
    → low ≡ part_of 2048 (page_bytes page) 0 → high ≡ part_of 2048 (page_bytes page) 1
    → IsPut p page halves (set (set halves (2 * p) low) (2 * p + 1) high)
page_put halves p low high page there low_full high_full is_low is_high = λ n below.
    let one = set halves (2 * p) low in
    let second : 2 * p + 1 < length one = omega (arith, there, length-set halves (2 * p) low) in
    let within : 4096 * p + 4096 ≤ length (ram_bytes n halves) = omega (arith, length-all 2048 of_half (2 * n) halves) in
    with_part-all 2048 of_half one (2 * p + 1) high second (2 * n) (omega arith) high_full
    ∙ ap (λ ram. with_part 2048 ram (2 * p + 1) high) (with_part-all 2048 of_half halves (2 * p) low (omega arith) (2 * n) (omega arith) low_full)
    ∙ with_both (ram_bytes n halves) low high p within low_full
    ∙ ap (with_page (ram_bytes n halves) p) (ap₂ ◌++◌ is_low is_high ∙ both_halves (page_bytes page) 0 ∙ take_all 4096 (page_bytes page) (omega (arith, page_full page)))
