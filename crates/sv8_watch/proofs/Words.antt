-- Four bytes of RAM, and the word that they make.
use Rattle.std.proofs.Common.{◌≡◌, ◌∙◌, ap, ap₂, ℕ, ◌+◌, ◌*◌, ◌/◌, ◌%◌, ◌^◌, ◌<◌, ◌==◌, ◌||◌, not, false, List, [], ◌∷◌, arith}
use Rattle.std.proofs.lemmas.Bool.Decides.{nat_tests}
use Rattle.std.specs.Prelude.{slice_index}
use Rattle.std.specs.Int.{w32, from_be_bytes}
use Rattle.sv8_model.specs.Outside.{word_of}
use Rattle.sv8_watch.specs.Conditions.{differ_from}

abbrev number : ℕ → ℕ → ℕ → ℕ → ℕ
number a b c d = a * 2 ^ 24 + b * 2 ^ 16 + c * 2 ^ 8 + d

-- a word is another one where one of its bytes is
words_differ : (a b c d p q r s : ℕ) → a < 256 → b < 256 → c < 256 → d < 256 → p < 256 → q < 256 → r < 256 → s < 256
    → not (number p q r s == number a b c d) ≡ (not (a == p) || (not (b == q) || (not (c == r) || (not (d == s) || false))))
words_differ a b c d p q r s ha hb hc hd hp hq hr hs = grind (arith, nat_tests)

-- four bytes and the word at an address
pub bytes_differ : (ram : List ℕ) (at a b c d word bytes : ℕ) → ((i : ℕ) → slice_index ram i < 256) → at % 4 ≡ 0 → a < 256 → b < 256 → c < 256 → d < 256
    → word ≡ word_of ram (at / 4) → bytes ≡ from_be_bytes w32 (a ∷ b ∷ c ∷ d ∷ []) → not (word == bytes) ≡ differ_from (a ∷ b ∷ c ∷ d ∷ []) at ram
unfolding word_of
bytes_differ ram at a b c d word bytes fits aligned ha hb hc hd is made =
    let place : 4 * (at / 4) ≡ at = omega (arith, aligned) in
    let here : word ≡ number (slice_index ram at) (slice_index ram (at + 1)) (slice_index ram (at + 2)) (slice_index ram (at + 3))
    = is ∙ ap (λ k. number (slice_index ram k) (slice_index ram (k + 1)) (slice_index ram (k + 2)) (slice_index ram (k + 3))) place in
    let third : at + 2 ≡ at + 1 + 1 = omega arith in
    let fourth : at + 3 ≡ at + 1 + 1 + 1 = omega arith in
    let there : bytes ≡ number a b c d = omega (arith, made) in
    ap (λ w. not (w == bytes)) here ∙ ap (λ n. not (number (slice_index ram at) (slice_index ram (at + 1)) (slice_index ram (at + 2)) (slice_index ram (at + 3)) == n)) there
    ∙ words_differ a b c d _ _ _ _ ha hb hc hd (fits at) (fits (at + 1)) (fits (at + 2)) (fits (at + 3))
    ∙ ap₂ (λ j k. not (a == slice_index ram at) || (not (b == slice_index ram (at + 1)) || (not (c == slice_index ram j) || (not (d == slice_index ram k) || false)))) third fourth
