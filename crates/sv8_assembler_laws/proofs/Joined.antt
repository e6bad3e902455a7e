-- Parts that are joined with commas, and cut apart again.
use Rattle.std.proofs.Common.{◌≡◌, ℕ, Bool, true, false, cond, List, [], ◌∷◌, ◌++◌, None, refl, sym, ap, subst, ◌∙◌}
use Rattle.std.specs.List.{AllByRecursion}
use Rattle.sv8_tokens.specs.Token.{Token, Word, Mark, Local}
use Rattle.sv8_tokens.specs.declared.token.Mark.TheVariants as mark
use Rattle.sv8_syntax.specs.Grammar.{joined}
use Rattle.sv8_syntax.specs.Reading.{is_comma, put_first, parts, parts_of, behind_annul}

joined-put_first : (t : Token) (ps : List (List Token)) → joined (put_first t ps) ≡ t ∷ joined ps
joined-put_first t [] = refl
joined-put_first t (p ∷ []) = refl
joined-put_first t (p ∷ q ∷ ps) = refl

comma_is : (t : Token) → is_comma t ≡ true → t ≡ Mark mark.Comma
comma_is (Mark mark.Comma) e = refl
comma_is _ e = absurd cc

put_first-cons : (t : Token) (ps : List (List Token)) → (p : List Token) × (qs : List (List Token)) × (put_first t ps ≡ p ∷ qs)
put_first-cons t [] = (t ∷ [], [], refl)
put_first-cons t (p ∷ ps) = (t ∷ p, ps, refl)

parts-cons : (ts : List Token) → (p : List Token) × (ps : List (List Token)) × (parts ts ≡ p ∷ ps)
unfolding parts
parts-cons [] = ([], [], refl)
parts-cons (t ∷ ts) = elim (is_comma t) as (λ v. (p : List Token) × (ps : List (List Token)) × (cond v ([] ∷ parts ts) (put_first t (parts ts)) ≡ p ∷ ps)) [
  | true ↦ ([], parts ts, refl)
  | false ↦ put_first-cons t (parts ts)
]

joined-behind : (ps : List (List Token)) (p : List Token) (qs : List (List Token)) → ps ≡ p ∷ qs → joined ([] ∷ ps) ≡ Mark mark.Comma ∷ joined ps
joined-behind ps p qs e = subst (λ (x : List (List Token)). joined ([] ∷ x) ≡ Mark mark.Comma ∷ joined x) (sym e) refl

joined-parts : (ts : List Token) → joined (parts ts) ≡ ts
unfolding parts
joined-parts [] = refl
joined-parts (t ∷ ts) =
    let rest = joined-parts ts in
    let some = parts-cons ts in
    let P : Bool → Type 0 = λ v. is_comma t ≡ v → joined (cond v ([] ∷ parts ts) (put_first t (parts ts))) ≡ t ∷ ts in
    let all : (v : Bool) → P v = λ v. elim v as P [
      | true ↦ λ e. joined-behind (parts ts) some.0 some.1 some.2 ∙ ap (λ (x : Token). x ∷ joined (parts ts)) (sym (comma_is t e)) ∙ ap (λ (x : List Token). t ∷ x) rest
      | false ↦ λ e. joined-put_first t (parts ts) ∙ ap (λ (x : List Token). t ∷ x) rest
    ] in
    all (is_comma t) refl

pub joined-parts_of : (ts : List Token) → joined (parts_of ts) ≡ ts
unfolding parts_of
joined-parts_of [] = refl
joined-parts_of (t ∷ ts) = joined-parts (t ∷ ts)

-- ---- and apart again, where no operand has a comma

abbrev pub is_colon : Token → Bool
is_colon (Mark mark.Colon) = true
is_colon _ = false

-- no comma, nor a colon
abbrev pub HasNoComma : List Token → Type 0
HasNoComma ts = AllByRecursion (λ t. (is_comma t ≡ false) × (is_colon t ≡ false)) ts

pub HasNoComma-append : (ts us : List Token) → HasNoComma ts → HasNoComma us → HasNoComma (ts ++ us)
HasNoComma-append [] us h k = k
HasNoComma-append (t ∷ ts) us h k = (h.0, HasNoComma-append ts us h.1 k)

parts-one : (ts : List Token) → HasNoComma ts → parts ts ≡ ts ∷ []
unfolding parts
parts-one [] h = refl
parts-one (t ∷ ts) h = rw (h.0.0, parts-one ts h.1) refl

parts-more : (ts us : List Token) → HasNoComma ts → parts (ts ++ Mark mark.Comma ∷ us) ≡ ts ∷ parts us
unfolding parts
parts-more [] us h = refl
parts-more (t ∷ ts) us h = rw (h.0.0, parts-more ts us h.1) refl

abbrev pub HaveNoComma : List (List Token) → Type 0
HaveNoComma os = AllByRecursion HasNoComma os

parts-joined : (ts : List Token) (os : List (List Token)) → HasNoComma ts → HaveNoComma os → parts (joined (ts ∷ os)) ≡ ts ∷ os
parts-joined ts [] h k = parts-one ts h
parts-joined ts (us ∷ os) h k = parts-more ts (joined (us ∷ os)) h ∙ ap (λ (x : List (List Token)). ts ∷ x) (parts-joined us os k.0 k.1)

parts_of-is : (ts : List Token) (os : List (List Token)) → parts ts ≡ os → (ts ≡ [] → ⊥) → parts_of ts ≡ os
unfolding parts_of
parts_of-is [] os e some = absurd (some refl)
parts_of-is (t ∷ ts) os e some = e

joined-full : (t : Token) (ts : List Token) (os : List (List Token)) → joined ((t ∷ ts) ∷ os) ≡ [] → ⊥
joined-full t ts [] e = cc
joined-full t ts (o ∷ os) e = cc

-- parts that are cut from their own joining: none, or first one that is not empty
pub data AreParts : List (List Token) → Type 0 where
  parts_none : AreParts []
  parts_some : (t : Token) (ts : List Token) (os : List (List Token)) → HasNoComma (t ∷ ts) → HaveNoComma os → AreParts ((t ∷ ts) ∷ os)

pub parts_of-joined : (os : List (List Token)) → AreParts os → parts_of (joined os) ≡ os
unfolding parts_of
parts_of-joined _ parts_none = refl
parts_of-joined _ (parts_some t ts os h k) = parts_of-is _ _ (parts-joined (t ∷ ts) os h k) (joined-full t ts os)

-- ---- a statement is no label

abbrev pub starts_with_label : List Token → Bool
starts_with_label (Word name ∷ Mark mark.Colon ∷ ts) = true
starts_with_label (Local d ∷ ts) = true
starts_with_label _ = false

first-no_colon : (name : List ℕ) (t : Token) (ts : List Token) → is_colon t ≡ false → starts_with_label (Word name ∷ t ∷ ts) ≡ false
first-no_colon name (Mark mark.Colon) ts e = absurd cc
first-no_colon name _ ts e = refl

pub statement-no_label : (name : List ℕ) (os : List (List Token)) → AreParts os → starts_with_label (Word name ∷ joined os) ≡ false
statement-no_label name _ parts_none = refl
statement-no_label name _ (parts_some t ts [] h k) = first-no_colon name t ts h.0.1
statement-no_label name _ (parts_some t ts (o ∷ os) h k) = first-no_colon name t (ts ++ Mark mark.Comma ∷ joined (o ∷ os)) h.0.1

-- ---- nor do such parts begin with a comma

first-no_annul : (t : Token) (ts : List Token) → is_comma t ≡ false → behind_annul (t ∷ ts) ≡ None
unfolding behind_annul
first-no_annul (Mark mark.Comma) ts e = absurd cc
first-no_annul _ ts e = refl

pub parts-no_annul : (os : List (List Token)) → AreParts os → behind_annul (joined os) ≡ None
unfolding behind_annul
parts-no_annul _ parts_none = refl
parts-no_annul _ (parts_some t ts [] h k) = first-no_annul t ts h.0.0
parts-no_annul _ (parts_some t ts (o ∷ os) h k) = first-no_annul t (ts ++ Mark mark.Comma ∷ joined (o ∷ os)) h.0.0
