-- One step of the loop that looks for a quote.
use Rattle.std.proofs.Common.{◌≡◌, ℕ, ◌+◌, ◌<◌, Bool, true, false, List, length, drop, Option, Some, None, refl, sym, ap, subst, ◌∙◌, arith}
use Rattle.sv8_statements.specs.Steps.{◌>>=◌}
use Rattle.sv8_statements.proofs.Steps.{front_of}
use Rattle.sv8_tokens.specs.Lexing.{quote_at}

one_more : (o : Option ℕ) (n : ℕ) → ((o >>= λ k. Some (k + 1)) >>= λ k. Some (k + n)) ≡ (o >>= λ k. Some (k + (n + 1)))
one_more None n = refl
one_more (Some k) n = let e : k + 1 + n ≡ k + (n + 1) = omega arith in ap (λ (x : ℕ). Some x) e

pub quote_at-escaped : (text : List ℕ) (n : ℕ) (b : Bool) (whole : Option ℕ) → n < length text → b ≡ true
    → (quote_at b (drop n text) >>= λ k. Some (k + n)) ≡ whole → (quote_at false (drop (n + 1) text) >>= λ k. Some (k + (n + 1))) ≡ whole
unfolding quote_at
quote_at-escaped text n b whole lt e so_far =
    let step : (quote_at true (drop n text) >>= λ k. Some (k + n)) ≡ (quote_at false (drop (n + 1) text) >>= λ k. Some (k + (n + 1))) =
    ap (λ (s : List ℕ). quote_at true s >>= λ k. Some (k + n)) (front_of text n lt) ∙ one_more (quote_at false (drop (n + 1) text)) n in
    sym step ∙ subst (λ (v : Bool). (quote_at v (drop n text) >>= λ k. Some (k + n)) ≡ whole) e so_far
