-- Lemmas on what commands do to their workbench.
use Rattle.std.proofs.Common.{◌≡◌, ℕ, List, Option, Result, Ok, Err, IfOk, refl, sym, subst}
use Rattle.std.specs.Result.{result_map_both}
use Rattle.sv8_session.specs.Put.{Puts}
use Rattle.sv8_answers.specs.declared.effect.Effect.{Effect}
use Rattle.sv8_answers.specs.declared.effect.Effect.TheVariants.{Unchanged}
use Rattle.sv8_answers.specs.Outcome.{Outcome}
use Rattle.sv8_answers.specs.Put.{Replies}
use Rattle.sv8_answers.specs.Session.{State}

-- an answer that was put, with its effect
pub puts-effect : {E : Type 0} (r : Result (Unit {0}) E) (r' : Result Effect E) (e : Effect) (a b : Option (List ℕ)) (bytes : List ℕ) → r' ≡ result_map_both (λ _. e) (λ f. f) r → Puts r a b bytes
    → Puts r' a b bytes
puts-effect (Ok u) r' e a b bytes is h = subst (λ x. Puts x a b bytes) (sym is) h
puts-effect (Err f) r' e a b bytes is h = subst (λ x. Puts x a b bytes) (sym is) h

pub reply-effect : {E : Type 0} (r : Result (Unit {0}) E) (r' : Result Effect E) (e : Effect) (a b : Option (List ℕ)) (s l : State) (o : Outcome) → r' ≡ result_map_both (λ _. e) (λ f. f) r
    → Replies r a b s o l → Replies r' a b s o l
reply-effect r r' e a b s l o is h = record { text = h.text; answers = h.answers; put = puts-effect r r' e a b h.text is h.put }

-- the effect is that one
pub effect-is : {E : Type 0} (r : Result (Unit {0}) E) (r' : Result Effect E) (e : Effect) → r' ≡ result_map_both (λ _. e) (λ f. f) r → IfOk r' (λ x. x ≡ e)
effect-is (Ok u) r' e is = subst (λ (x : Result Effect _). IfOk x (λ y. y ≡ e)) (sym is) refl
effect-is (Err f) r' e is = subst (λ (x : Result Effect _). IfOk x (λ y. y ≡ e)) (sym is) tt

-- what leaves all as it was
pub if-unchanged : {E : Type 0} (r : Result Effect E) (P : Type 0) → P → IfOk r (λ e. e ≡ Unchanged → P)
if-unchanged (Ok e) P p = λ same. p
if-unchanged (Err f) P p = tt
