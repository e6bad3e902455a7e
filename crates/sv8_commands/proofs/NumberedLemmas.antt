-- The texts of a list's items, one after the other.
use Rattle.std.proofs.Common.{◌≡◌, ℕ, suc, ◌+◌, ◌<◌, List, [], ◌∷◌, ◌++◌, length, take, drop, get_or, Option, Ok, Err, refl, sym, ap, ◌∙◌, append_assoc, append-nil, subst, arith, drop-cons, take-append-drop, add-one, length-take}
use Rattle.std.proofs.Math.Seq.{take-suc}
use Rattle.sv8_session.specs.Put.{AppendsPart}
use Rattle.sv8_commands.specs.Put.{Gained}
use Rattle.sv8_commands.specs.Text.{numbered_text}
use Rattle.sv8_commands.proofs.PutLemmas.{Gains-after, gains-cut}

module _ {X : Type 0} (f : ℕ → X → List ℕ) where
  numbered-append : (i : ℕ) (xs ys : List X) → numbered_text f i (xs ++ ys) ≡ numbered_text f i xs ++ numbered_text f (i + length xs) ys
  numbered-append i [] ys = ap (λ (k : ℕ). numbered_text f k ys) (let e : i ≡ i + 0 = omega arith in e)
  numbered-append i (x ∷ xs) ys =
      let e : (i + 1) + length xs ≡ i + suc (length xs) = omega arith in
      ap (λ l. f i x ++ l) (numbered-append (i + 1) xs ys ∙ ap (λ (k : ℕ). numbered_text f (i + 1) xs ++ numbered_text f k ys) e) ∙ sym (append_assoc (f i x) (numbered_text f (i + 1) xs) _)

  numbered-split : (start : ℕ) (s : List X) (i : ℕ) (d : X) → i < length s
      → numbered_text f start s ≡ numbered_text f start (take i s) ++ (f (start + i) (get_or s i d) ++ numbered_text f ((start + i) + 1) (drop (suc i) s))
  numbered-split start s i d h =
      let parts : s ≡ take i s ++ (get_or s i d ∷ drop (suc i) s) = sym (take-append-drop i s) ∙ ap (λ l. take i s ++ l) (drop-cons s i d h) in
      let e : start + length (take i s) ≡ start + i = omega (arith, length-take i s) in
      ap (numbered_text f start) parts ∙ numbered-append start (take i s) (get_or s i d ∷ drop (suc i) s)
      ∙ ap (λ (k : ℕ). numbered_text f start (take i s) ++ (f k (get_or s i d) ++ numbered_text f (k + 1) (drop (suc i) s))) e

  -- one item's text more
  numbered-step : (start : ℕ) (s : List X) (i : ℕ) (d : X) → i < length s → numbered_text f start (take (i + 1) s) ≡ numbered_text f start (take i s) ++ f (start + i) (get_or s i d)
  numbered-step start s i d h =
      let e : start + length (take i s) ≡ start + i = omega (arith, length-take i s) in
      ap (numbered_text f start) (rw (add-one, take-suc s i d h) refl) ∙ numbered-append start (take i s) (get_or s i d ∷ [])
      ∙ ap (λ (j : ℕ). numbered_text f start (take i s) ++ (f j (get_or s i d) ++ [])) e ∙ ap (λ l. numbered_text f start (take i s) ++ l) (append-nil _)

  -- one item's text was put in part
  pub numbered-cut : (start : ℕ) (s : List X) (i k : ℕ) (d : X) (a b c : Option (List ℕ)) (w x : List ℕ) → i < length s → k ≡ start + i → Gained a b w x (numbered_text f start (take i s))
      → AppendsPart b c (x ++ f k (get_or s i d)) → AppendsPart a c (w ++ numbered_text f start s)
  numbered-cut start s i k d a b c w x h n g p =
      let before = numbered_text f start (take i s) in
      let now = f (start + i) (get_or s i d) in
      let after = numbered_text f ((start + i) + 1) (drop (suc i) s) in
      let here : AppendsPart b c (x ++ now) = subst (λ (j : ℕ). AppendsPart b c (x ++ f j (get_or s i d))) n p in
      let part : AppendsPart a c (w ++ (before ++ now)) = Gains-after {A = Unit {0}} {E = Unit {0}} (Err tt) a b c w x x before now g here in
      subst (λ l. AppendsPart a c (w ++ l)) (append_assoc before now after ∙ sym (numbered-split start s i d h)) (gains-cut a c w (before ++ now) after part)

  -- one item's text was put
  pub numbered-next : (start : ℕ) (s : List X) (i k : ℕ) (d : X) (a b c : Option (List ℕ)) (w x y : List ℕ) → i < length s → k ≡ start + i → Gained a b w x (numbered_text f start (take i s))
      → Gained b c x y (f k (get_or s i d)) → Gained a c w y (numbered_text f start (take (i + 1) s))
  numbered-next start s i k d a b c w x y h n g q =
      let here : Gained b c x y (f (start + i) (get_or s i d)) = subst (λ (j : ℕ). Gained b c x y (f j (get_or s i d))) n q in
      subst (λ l. Gained a c w y l) (sym (numbered-step start s i d h)) (Gains-after {A = Unit {0}} {E = Unit {0}} (Ok tt) a b c w x y (numbered_text f start (take i s)) (f (start + i) (get_or s i d)) g here)
