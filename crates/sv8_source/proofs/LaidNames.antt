-- What a name that is defined stands for.
use Rattle.std.proofs.Common.{◌≡◌, ◌∙◌, ℕ, ℤ, Bool, true, false, cond, List, [], ◌∷◌, ◌++◌, Option, Some, None, is_some, Result, Ok, Err, refl, sym, ap}
use Rattle.std.specs.Option.{option_or}
use Rattle.std.specs.Str.{bytes_eq}
use Rattle.std.proofs.lemmas.Slice.Eq.{bytes_eq-Decides}
use Rattle.sv8_statements.specs.declared.fault.LineFault.{LineFault}
use Rattle.sv8_statements.specs.declared.fault.LineFault.TheVariants.{DuplicateLabel}
use Rattle.sv8_asm.specs.Names.{Names, defined, with_name}
use Rattle.sv8_source.specs.Layout.{define}

pub defined_append : (xs ys : List (List ℕ × ℤ)) (q : List ℕ) → defined (xs ++ ys) q ≡ option_or (defined xs q) (defined ys q)
defined_append [] ys q = refl
defined_append (x ∷ xs) ys q = go (bytes_eq x.0 q) (defined_append xs ys q)
  where
    go : (b : Bool) → defined (xs ++ ys) q ≡ option_or (defined xs q) (defined ys q) → cond b (Some x.1) (defined (xs ++ ys) q) ≡ option_or (cond b (Some x.1) (defined xs q)) (defined ys q)
    go true h = refl
    go false h = h

-- a name is defined
pub record Defined (name : List ℕ) (value : ℤ) (old new : Names) : Type 0 where
  pub absent : defined old.named name ≡ None
  pub made : new ≡ with_name name value old

pub define_is : (name : List ℕ) (value : ℤ) (old new : Names) → define name value old ≡ Ok new → Defined name value old new
define_is name value old new h = go (defined old.named name) refl (define name value old) refl h
  where
    go : (o : Option ℤ) → defined old.named name ≡ o → (r : Result Names LineFault) → r ≡ cond (is_some o) (Err DuplicateLabel) (Ok (with_name name value old)) → r ≡ Ok new → Defined name value old new
    go (Some v) e r f g = absurd (cc)
    go None e r f g = let same : with_name name value old ≡ new = cc in record { absent = e; made = sym same }

pub defined_keeps : (name : List ℕ) (value : ℤ) (old new : Names) → Defined name value old new → (q : List ℕ) (x : ℤ) → defined old.named q ≡ Some x → defined new.named q ≡ Some x
defined_keeps name value old new d q x h =
    ap (λ m. defined m.named q) d.made ∙ defined_append old.named ((name, value) ∷ []) q ∙ ap (λ o. option_or o (defined ((name, value) ∷ []) q)) h

pub defined_there : (name : List ℕ) (value : ℤ) (old new : Names) → Defined name value old new → defined new.named name ≡ Some value
defined_there name value old new d =
    ap (λ m. defined m.named name) d.made ∙ defined_append old.named ((name, value) ∷ []) name ∙ ap (λ o. option_or o (defined ((name, value) ∷ []) name)) d.absent
    ∙ ap (λ b. cond b (Some value) None) ((bytes_eq-Decides name name).1 refl)
