-- Notes of the entries that a walk read, one after another.
use Rattle.std.proofs.Common.{◌≡◌, ℕ, suc, ◌+◌, true, List, [], ◌∷◌, take, sym, ◌∙◌, ap, arith}
use Rattle.sv8_model.specs.declared.touch.Touch.{Touch}
use Rattle.sv8_model.specs.declared.touch.Touch.TheVariants.{Read}
use Rattle.sv8_model.specs.Outside.{Outside}
use Rattle.sv8_model.specs.Action.{Action}
use Rattle.sv8_model.specs.Does.{Does, Noting, Notes, noting, keeping, touching, no_notes}
use Rattle.sv8_mmu.specs.Kept.{reads_of}

pub note_next : (way : Noting) (ns now all : way.Taken) (rest after : List ℕ) (at m n : ℕ) → (rest ≡ at ∷ after) × (m + 1 ≡ n) → now ≡ noting way ns (Read at ∷ []) []
    → noting way ns (reads_of (take n rest)) [] ≡ all → noting way now (reads_of (take m after)) [] ≡ all
note_next way ns now all rest after at m n e p h =
    let z : m + 1 ≡ suc m = omega arith in
    let q : n ≡ suc m = sym e.1 ∙ z in
    let k : noting way ns (reads_of (take (suc m) (at ∷ after))) [] ≡ all = ap (λ r. noting way ns (reads_of (take (suc m) r)) []) (sym e.0) ∙ ap (λ j. noting way ns (reads_of (take j rest)) []) (sym q) ∙ h in
    ap (λ (l : way.Taken). noting way l (reads_of (take m after)) []) p ∙ way.together ns (Read at ∷ []) (reads_of (take m after)) [] [] ∙ k

-- what was done from RAM alone, and noted behind other notes
pub noted_behind : {R : Type 0} (way : Noting) (a : Action R) (o : Outside) (r : R) (reads : List Touch) (ns ns1 : way.Taken) → Does (keeping true true) a o o r no_notes (touching reads)
    → ns1 ≡ noting way ns reads [] → Does way a o o r ns ns1
noted_behind way a o r reads ns ns1 d e = record { result = d.result; outside = d.outside; noted = e ∙ ap (λ (n : Notes). noting way ns n.touches n.observations) d.noted }
