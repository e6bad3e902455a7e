-- The layout pass over lines in parts.
use Rattle.std.proofs.Common.{◌≡◌, ◌∙◌, ℕ, suc, ◌+◌, List, [], ◌∷◌, ◌++◌, length, length-append, vec_items, Vec, Result, Ok, Err, refl, sym, ap, add-zero, arith}
use Rattle.std.proofs.lemmas.List.{length-map}
use Rattle.sv8_model.specs.declared.refused.Refused.{Refused}
use Rattle.sv8_model.specs.declared.refused.Refused.TheVariants.{OutOfMemory, By}
use Rattle.sv8_model.specs.Refused.{ByFault}
use Rattle.sv8_statements.specs.declared.fault.LineFault.{LineFault}
use Rattle.sv8_source.specs.declared.fault.SourceFault.{SourceFault}
use Rattle.sv8_source.specs.Fault.{after_line}
use Rattle.sv8_source.specs.Text.{texts, place_texts}
use Rattle.sv8_source.specs.Layout.{Layout, Place, start, with_line, laid}

-- what lines give, then what follows
abbrev pub then_laid : Result Layout SourceFault → (Layout → Result Layout SourceFault) → Result Layout SourceFault
then_laid (Ok l) f = f l
then_laid (Err e) f = Err e

-- lines and then others are the lines of both
pub laid_append : (limit n : ℕ) (a b : List (List ℕ)) (l : Layout) → laid limit n (a ++ b) l ≡ then_laid (laid limit n a l) (λ m. laid limit (n + length a) b m)
laid_append limit n [] b l = rw (add-zero) refl
laid_append limit n (t ∷ a) b l = go (λ next. laid_append limit (n + 1) a b next) (with_line limit n t l)
  where
    count : (n + 1) + length a ≡ n + suc (length a)
    count = omega arith

    go : ((next : Layout) → laid limit (n + 1) (a ++ b) next ≡ then_laid (laid limit (n + 1) a next) (λ m. laid limit ((n + 1) + length a) b m))
        → (r : Result Layout LineFault) → after_line n r (λ next. laid limit (n + 1) (a ++ b) next) ≡ then_laid (after_line n r (λ next. laid limit (n + 1) a next)) (λ m. laid limit (n + suc (length a)) b m)
    go ih (Ok next) = ih next ∙ ap (λ k. then_laid (laid limit (n + 1) a next) (λ m. laid limit k b m)) count
    go ih (Err e) = refl

-- ---- three parts

pub front_count : (ps : List Place) → length ps + 1 ≡ 1 + length (place_texts ps)
front_count ps = omega (arith, length-map ps (λ p. p.text))

pub lines_count : {A : Type 0} (n : ℕ) (lines : List (Vec ℕ A)) → n + length lines ≡ n + length (texts lines)
lines_count n lines = omega (arith, length-map lines vec_items)

pub front_fault : (limit : ℕ) (a b c : List (List ℕ)) (e : Refused SourceFault) → ByFault (λ f. laid limit 1 a start ≡ Err f) e → ByFault (λ f. laid limit 1 (a ++ b ++ c) start ≡ Err f) e
front_fault limit a b c OutOfMemory h = tt
front_fault limit a b c (By f) h = laid_append limit 1 (a ++ b) c start ∙ ap (λ r. then_laid r (λ m. laid limit (1 + length (a ++ b)) c m)) (laid_append limit 1 a b start ∙ ap (λ r. then_laid r (λ m. laid limit (1 + length a) b m)) h)

two : (limit : ℕ) (a b : List (List ℕ)) (l : Layout) (n : ℕ) (r : Result Layout SourceFault) → n ≡ 1 + length a → laid limit 1 a start ≡ Ok l → laid limit n b l ≡ r → laid limit 1 (a ++ b) start ≡ r
two limit a b l n r k h g = laid_append limit 1 a b start ∙ ap (λ x. then_laid x (λ m. laid limit (1 + length a) b m)) h ∙ ap (λ x. laid limit x b l) (sym k) ∙ g

pub middle_fault : (limit : ℕ) (a b c : List (List ℕ)) (l : Layout) (n : ℕ) (e : Refused SourceFault) → n ≡ 1 + length a → laid limit 1 a start ≡ Ok l
    → ByFault (λ f. laid limit n b l ≡ Err f) e → ByFault (λ f. laid limit 1 (a ++ b ++ c) start ≡ Err f) e
middle_fault limit a b c l n OutOfMemory k h g = tt
middle_fault limit a b c l n (By f) k h g = laid_append limit 1 (a ++ b) c start ∙ ap (λ r. then_laid r (λ m. laid limit (1 + length (a ++ b)) c m)) (two limit a b l n (Err f) k h g)

three : (limit : ℕ) (a b c : List (List ℕ)) (l m : Layout) (n k : ℕ) (r : Result Layout SourceFault) → n ≡ 1 + length a → k ≡ n + length b → laid limit 1 a start ≡ Ok l → laid limit n b l ≡ Ok m → laid limit k c m ≡ r → laid limit 1 (a ++ b ++ c) start ≡ r
three limit a b c l m n k r e f h g i =
    let all : k ≡ 1 + length (a ++ b) = omega (arith, length-append a b, e, f) in
    two limit (a ++ b) c m k r all (two limit a b l n (Ok m) e h g) i

pub back_fault : (limit : ℕ) (a b c : List (List ℕ)) (l m : Layout) (n k : ℕ) (e : Refused SourceFault) → n ≡ 1 + length a → k ≡ n + length b → laid limit 1 a start ≡ Ok l → laid limit n b l ≡ Ok m
    → ByFault (λ f. laid limit k c m ≡ Err f) e → ByFault (λ f. laid limit 1 (a ++ b ++ c) start ≡ Err f) e
back_fault limit a b c l m n k OutOfMemory f g h i j = tt
back_fault limit a b c l m n k (By e) f g h i j = three limit a b c l m n k (Err e) f g h i j

pub all_laid : (limit : ℕ) (a b c : List (List ℕ)) (l m r : Layout) (n k : ℕ) → n ≡ 1 + length a → k ≡ n + length b → laid limit 1 a start ≡ Ok l → laid limit n b l ≡ Ok m → laid limit k c m ≡ Ok r → laid limit 1 (a ++ b ++ c) start ≡ Ok r
all_laid limit a b c l m r n k f g h i j = three limit a b c l m n k (Ok r) f g h i j
