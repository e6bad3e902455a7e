-- The function `tokens_of` gives the tokens that a text is cut into, at most one for each byte.
use Rattle.std.proofs.Common.{◌≡◌, ℕ, zero, suc, ◌<◌, ◌≤◌, List, [], ◌∷◌, ◌++◌, length, Option, Some, None, refl, subst, arith, length-append}
use Rattle.sv8_tokens.specs.Token.{Token}
use Rattle.sv8_tokens.specs.Spelling.{IsCutInto, cut_end, cut_comment, cut_token}
use Rattle.sv8_tokens.specs.Lexing.{next_of, and_more, tokens_within, tokens_of}
use Rattle.sv8_statements.proofs.Steps.{bind_some, some_is}
use Rattle.sv8_tokens.proofs.Cut.{next-again, next-read, cut_next, IsNext, step_shorter, word_some}

within-again : (n : ℕ) (text : List ℕ) (ts : List Token) → length text < n → IsCutInto text ts → tokens_within n text ≡ Some ts
unfolding tokens_within
within-again zero text ts lt d = absurd (omega arith)
within-again (suc n) text [] lt d = rw (next-again text [] d) refl
within-again (suc n) text (t ∷ ts) lt d =
    let a = next-again text (t ∷ ts) d in
    let shorter = step_shorter text a.0 t a.1 in
    let fits : length a.0 < n = omega arith in
    rw (a.1, within-again n a.0 ts fits a.2) refl

pub tokens_of-again : (text : List ℕ) (ts : List Token) → IsCutInto text ts → tokens_of text ≡ Some ts
unfolding tokens_of
tokens_of-again text ts d = within-again (suc (length text)) text ts (omega arith) d

more-read : (text : List ℕ) (o : Option (Token × List ℕ)) (ts : List Token) (more : List ℕ → Option (List Token)) → ((rest : List ℕ) (us : List Token) → more rest ≡ Some us → IsCutInto rest us) → IsNext text o → and_more o more ≡ Some ts → IsCutInto text ts
more-read text None ts more cut n h = subst (IsCutInto text) (some_is [] ts h) n
more-read text (Some x) ts more cut n h =
    let a = bind_some (more x.1) (λ us. Some (x.0 ∷ us)) ts h in
    subst (IsCutInto text) (some_is (x.0 ∷ a.0) ts a.2) (cut_next text x a.0 n (cut x.1 a.0 a.1))

within-read : (n : ℕ) (text : List ℕ) (ts : List Token) → tokens_within n text ≡ Some ts → IsCutInto text ts
unfolding tokens_within
within-read zero text ts h = absurd cc
within-read (suc n) text ts h =
    let a = bind_some (next_of text) (λ next. and_more next (λ rest. tokens_within n rest)) ts h in
    more-read text a.0 ts (λ rest. tokens_within n rest) (λ rest us e. within-read n rest us e) (next-read text a.0 a.1) a.2

pub tokens_of-read : (text : List ℕ) (ts : List Token) → tokens_of text ≡ Some ts → IsCutInto text ts
unfolding tokens_of
tokens_of-read text ts h = within-read (suc (length text)) text ts h

-- each token takes a byte
pub cut-few : (text : List ℕ) (ts : List Token) → IsCutInto text ts → length ts ≤ length text
cut-few _ _ (cut_end gap pass) = omega arith
cut-few _ _ (cut_comment gap text pass) = omega arith
cut-few _ _ (cut_token gap text rest t ts pass spelled ends d) =
    let some_bytes = word_some t text spelled in
    let few = cut-few rest ts d in
    omega (arith, length-append gap (text ++ rest), length-append text rest)
