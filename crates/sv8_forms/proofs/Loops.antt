-- One step of the loop that resolves escapes.
use Rattle.std.proofs.Common.{◌≡◌, ◌≢◌, ℕ, ◌+◌, ◌<◌, Bool, true, false, List, [], ◌∷◌, ◌++◌, length, get_or, drop, Option, Some, None, refl, sym, ap, subst, ◌∙◌, append_assoc}
use Rattle.std.proofs.lemmas.Bool.{ne_eqb}
use Rattle.sv8_statements.specs.Steps.{◌>>=◌}
use Rattle.sv8_statements.proofs.Steps.{front_of, some}
use Rattle.sv8_forms.specs.Escapes.{escape_of, resolved}

-- what the bytes resolved so far and those of the rest make
abbrev pub behind : List ℕ → Option (List ℕ) → Option (List ℕ)
behind front o = o >>= λ bytes. Some (front ++ bytes)

grown : (o : Option (List ℕ)) (front new : List ℕ) (byte : ℕ) → new ≡ front ++ byte ∷ [] → behind new o ≡ behind front (o >>= λ bytes. Some (byte ∷ bytes))
grown None front new byte e = refl
grown (Some bytes) front new byte e = ap (λ (x : List ℕ). some (x ++ bytes)) e ∙ ap (λ (x : List ℕ). some x) (append_assoc front (byte ∷ []) bytes)

pub resolved-escape : (text front new : List ℕ) (n byte : ℕ) (b : Bool) (whole : Option (List ℕ)) → n < length text → b ≡ true → escape_of (get_or text n 0) ≡ Some byte → new ≡ front ++ byte ∷ []
    → behind front (resolved b (drop n text)) ≡ whole → behind new (resolved false (drop (n + 1) text)) ≡ whole
unfolding resolved
resolved-escape text front new n byte b whole lt e found new_is so_far =
    let step : behind front (resolved true (drop n text)) ≡ behind front (resolved false (drop (n + 1) text) >>= λ bytes. Some (byte ∷ bytes)) =
    ap (λ (s : List ℕ). behind front (resolved true s)) (front_of text n lt) ∙ rw found refl in
    grown (resolved false (drop (n + 1) text)) front new byte new_is ∙ sym step ∙ subst (λ (v : Bool). behind front (resolved v (drop n text)) ≡ whole) e so_far

pub resolved-backslash : (text front : List ℕ) (n : ℕ) (b : Bool) (whole : Option (List ℕ)) → n < length text → b ≡ false → get_or text n 0 ≡ 92
    → behind front (resolved b (drop n text)) ≡ whole → behind front (resolved true (drop (n + 1) text)) ≡ whole
unfolding resolved
resolved-backslash text front n b whole lt e is so_far =
    let step : behind front (resolved false (drop n text)) ≡ behind front (resolved true (drop (n + 1) text)) =
    ap (λ (s : List ℕ). behind front (resolved false s)) (front_of text n lt) ∙ rw is refl in
    sym step ∙ subst (λ (v : Bool). behind front (resolved v (drop n text)) ≡ whole) e so_far

pub resolved-plain : (text front new : List ℕ) (n : ℕ) (b : Bool) (whole : Option (List ℕ)) → n < length text → b ≡ false → get_or text n 0 ≢ 92 → new ≡ front ++ get_or text n 0 ∷ []
    → behind front (resolved b (drop n text)) ≡ whole → behind new (resolved b (drop (n + 1) text)) ≡ whole
unfolding resolved
resolved-plain text front new n b whole lt e other new_is so_far =
    let step : behind front (resolved false (drop n text)) ≡ behind front (resolved false (drop (n + 1) text) >>= λ bytes. Some (get_or text n 0 ∷ bytes)) =
    ap (λ (s : List ℕ). behind front (resolved false s)) (front_of text n lt) ∙ rw (ne_eqb (get_or text n 0) 92 other) refl in
    ap (λ (v : Bool). behind new (resolved v (drop (n + 1) text))) e ∙ grown (resolved false (drop (n + 1) text)) front new (get_or text n 0) new_is ∙ sym step
    ∙ subst (λ (v : Bool). behind front (resolved v (drop n text)) ≡ whole) e so_far
