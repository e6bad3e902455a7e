-- Words of RAM, one after the other.
use Rattle.std.proofs.Common.{◌≡◌, ◌∙◌, ℕ, ◌+◌, ◌*◌, ◌/◌, ◌≤◌, true, max, length, List, [], ◌∷◌, ◌++◌, refl, sym, ap, arith}
use Rattle.std.proofs.lemmas.List.FromFn.{map-range_with_len_more, length-map-range_with_len}
use Rattle.std.proofs.lemmas.Bool.Decides.{nat_tests}
use Rattle.sv8_workbench.specs.Faults.{are_words}
use Rattle.sv8_model.specs.Outside.{word_of}
use Rattle.sv8_workbench.specs.Shown.{words_in}

pub no_words : (ram : List ℕ) (address : ℕ) → [] ≡ words_in ram address 0
unfolding words_in
no_words ram address = refl

pub one_word : (ram : List ℕ) (address w : ℕ) → w ≡ word_of ram (address / 4) → w ∷ [] ≡ words_in ram address 1
unfolding words_in
one_word ram address w e =
    let at : address / 4 ≡ address / 4 + 0 = omega arith in
    ap (λ x. x ∷ []) (e ∙ ap (word_of ram) at)

-- one word more
pub words_more : (ram words more : List ℕ) (address i w : ℕ) → words ≡ words_in ram address i → w ≡ word_of ram ((address + 4 * i) / 4) → more ≡ words ++ w ∷ []
    → more ≡ words_in ram address (i + 1)
unfolding words_in
words_more ram words more address i w e f g =
    let at : (address + 4 * i) / 4 ≡ address / 4 + i = omega arith in
    g ∙ ap (λ ws. ws ++ w ∷ []) e ∙ ap (λ x. words_in ram address i ++ x ∷ []) (f ∙ ap (word_of ram) at)
    ∙ sym (map-range_with_len_more (λ k. word_of ram (address / 4 + k)) 0 i i (omega arith))

-- the first of some words that lie in RAM end below 2^32
pub words_inside : (ram words : List ℕ) (address count n pages : ℕ) → pages ≤ 65536 → are_words address count (4096 * pages) ≡ true → n ≤ count → words ≡ words_in ram address n
    → address + 4 * length words ≤ 4294967296
unfolding words_in
words_inside ram words address count n pages few within part e =
    let long : length words ≡ n = ap length e ∙ length-map-range_with_len _ 0 n in
    let end : address + 4 * max count 1 ≤ 4096 * pages = grind (arith, nat_tests) in
    omega (arith, long, end, few, part)
