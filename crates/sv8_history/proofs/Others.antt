-- What a change of one cell leaves to the other changes of an edit.
use Rattle.std.proofs.Common.{◌≡◌, ℕ, ◌≤◌, false, List, [], ◌∷◌, Option, Some, None, is_some, ◌∙◌, ap, arith, inl, inr, ◌⊎◌}
use Rattle.std.proofs.lemmas.Bool.{cases_eq}
use Rattle.sv8_history.specs.Machine.{Machine, Run}
use Rattle.sv8_history.specs.Framed.{IsFramed}
use Rattle.sv8_history.specs.Changes.{Cause, Image, Poke, Clear, Change, IsRepoked, IsChanged, IsFitting, IsPlanned, IsApart, ArePlanned}
use Rattle.sv8_history.proofs.Back.{has_start}

pub poke_other : (m : Machine) → IsFramed m → (a b : m.Cell) (t : ℕ) (p : Option m.Value) (old new : Run m) → IsRepoked m a t p old new
    → m.same a b ≡ false → (n : ℕ) → m.poke b (new.events n) ≡ m.poke b (old.events n)
poke_other m law a b t p old new edit other n = go (cases_eq n t)
  where
    go : (n ≡ t) ⊎ (n ≡ t → ⊥) → m.poke b (new.events n) ≡ m.poke b (old.events n)
    go (inl e) = rw e (law.events.alike_poke a b (old.events t) (new.events t) edit.here other)
    go (inr e) = ap (m.poke b) (edit.elsewhere n e)

poke_parts : (m : Machine) → IsFramed m → (old mid : Run m) (a : m.Cell) (t u : ℕ) (d : Cause m.Value)
    → IsChanged m (record { cell = a; from = t; to = u; cause = d }) old mid → (b : m.Cell) → m.same a b ≡ false → (n : ℕ)
    → m.poke b (mid.events n) ≡ m.poke b (old.events n)
poke_parts m law old mid a t u (Image v) change b other n = ap (m.poke b) (let p = change.1 in p.events n)
poke_parts m law old mid a t u (Poke v) change b other n = poke_other m law a b t (Some v) old mid change other n
poke_parts m law old mid a t u Clear change b other n = poke_other m law a b t None old mid change.1 other n

poke_stays : (m : Machine) → IsFramed m → (old mid : Run m) (c : Change m) → IsChanged m c old mid → (b : m.Cell) → m.same c.cell b ≡ false → (n : ℕ)
    → m.poke b (mid.events n) ≡ m.poke b (old.events n)
poke_stays m law old mid c change b other n =
    poke_parts m law old mid c.cell c.from c.to c.cause change b other n

pub planned_all : (m : Machine) → IsFramed m → (old mid : Run m) (r : ℕ) (c : Change m) → m.Has c.cell old.start × IsFitting m c → IsChanged m c old mid
    → (cs : List (Change m)) → IsApart m c.cell cs → ArePlanned m old r cs → ArePlanned m mid r cs
planned_all m law old mid r c fits change [] apart plan = tt
planned_all m law old mid r c fits change (d ∷ ds) apart plan = (here, plan.1, planned_all m law old mid r c fits change ds apart.1 plan.2)
  where
    first : IsPlanned m old r d
    first = plan.0

    stays : (n : ℕ) → m.poke d.cell (mid.events n) ≡ m.poke d.cell (old.events n)
    stays = poke_stays m law old mid c change d.cell apart.0

    here : IsPlanned m mid r d
    here = record {
      has = has_start m law old mid c fits change d.cell first.has;
      fits = first.fits;
      next = record {
        after = first.next.after;
        none_between = λ n p q. stays n ∙ first.next.none_between n p q;
        there = λ l. ap is_some (stays d.to) ∙ first.next.there l;
      };
    }

pub planned_sooner : (m : Machine) (run : Run m) (r q : ℕ) → q ≤ r → (cs : List (Change m)) → ArePlanned m run r cs → ArePlanned m run q cs
planned_sooner m run r q l [] plan = tt
planned_sooner m run r q l (c ∷ cs) plan = (here, plan.1, planned_sooner m run r q l cs plan.2)
  where
    here : IsPlanned m run q c
    here =
        let p : IsPlanned m run r c = plan.0 in
        record { has = p.has; fits = p.fits; next = record { after = p.next.after; none_between = p.next.none_between; there = λ b. p.next.there (omega arith) } }
