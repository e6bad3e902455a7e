-- The bytes that a machine has taken are no more than have come in.
use Rattle.std.proofs.Common.{◌≡◌, ◌∙◌, ℕ, zero, suc, ◌+◌, ◌-◌, ◌≤◌, Bool, true, false, List, [], ◌∷◌, length, drop, refl, ap, arith, add-one}
use Rattle.std.specs.Prelude.{nat_lt}
use Rattle.std.proofs.lemmas.List.{length-drop}
use Rattle.std.proofs.lemmas.Bool.Decides.{nat_tests}
use Rattle.sv8_time.specs.Schedule.{arrived, Input, bytes_below}
use Rattle.sv8_time.proofs.Common.{length-arrived}
use Rattle.sv8_memory.specs.Events.{with_events}
use Rattle.sv8_cpu.specs.Run as run
use Rattle.sv8_reset.specs.Reset.{reset_state}
use Rattle.sv8_edits.specs.EditLaws.{StatesAreFed}

-- one step more has no fewer bytes
below_more : (n : ℕ) (inputs : List Input) → bytes_below n inputs ≤ bytes_below (suc n) inputs
below_more n [] = omega arith
below_more n (i ∷ inputs) = go (below_more n inputs) (nat_lt i.step n) refl (nat_lt i.step (suc n)) refl
  where
    go : bytes_below n inputs ≤ bytes_below (suc n) inputs → (a : Bool) → nat_lt i.step n ≡ a → (b : Bool) → nat_lt i.step (suc n) ≡ b
        → bytes_below n (i ∷ inputs) ≤ bytes_below (suc n) (i ∷ inputs)
    go rest true e true f = rw (e, f) (omega (arith, rest))
    go rest true e false f = absurd (grind (arith, nat_tests))
    go rest false e true f = rw (e, f) (omega (arith, rest))
    go rest false e false f = rw (e, f) rest

-- what waits is taken in part
taken_more : (bytes : List ℕ) (taken left below : ℕ) → length bytes ≡ below → taken ≤ below → taken + (length (drop taken bytes) - left) ≤ below
taken_more bytes taken left below long few = let waiting = length-drop taken bytes in omega arith

pub fed : StatesAreFed
unfolding run.steps run.step with_events reset_state
fed windows pages source s zero = omega arith
fed windows pages source s (suc n) =
    let here = run.steps windows pages s n (reset_state windows pages source) in
    let before = fed windows pages source s n in
    let more = below_more n s.inputs in
    let count : length (arrived (n + 1) s) ≡ bytes_below (suc n) s.inputs = length-arrived (n + 1) s ∙ ap (λ k. bytes_below k s.inputs) (add-one n) in
    taken_more (arrived (n + 1) s) here.memory.taken _ (bytes_below (suc n) s.inputs) count (omega arith)
