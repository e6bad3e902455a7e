-- Lists of checkpoints and intervals that get longer.
use Rattle.std.proofs.Common.{◌-◌, take, ◌≡◌, ℕ, ◌+◌, ◌<◌, ◌≤◌, List, [], ◌∷◌, ◌++◌, length, length-append, get_or, refl, ◌∙◌, ap, arith, inl, inr, ◌⊎◌}
use Rattle.std.proofs.lemmas.Bool.{cases_lt}
use Rattle.std.proofs.lemmas.List.{get_or_append_left}
use Rattle.std.proofs.Math.Seq.{get_or-append_seam}
use Rattle.sv8_notes.proofs.Common.{longer}
use Rattle.sv8_cpu.specs.State.{State}
use Rattle.sv8_trace.specs.Recording.{blank}
use Rattle.sv8_trace.specs.Placing.{IsSound, AreSound}

pub sound_more : (pages : ℕ) (points more : List State) (s : State) → more ≡ points ++ s ∷ [] → AreSound pages points → IsSound pages s.memory → AreSound pages more
sound_more pages points more s is sound here i h = rw is (go (cases_lt i (length points)))
  where
    go : (i < length points) ⊎ (length points ≤ i) → IsSound pages (get_or (points ++ s ∷ []) i blank).memory
    go (inl l) = rw (get_or_append_left points (s ∷ []) blank i l) (sound i l)
    go (inr l) =
        let n : length more ≡ length points + 1 = ap length is ∙ length-append points (s ∷ []) in
        let e : i ≡ length points = omega (arith, n, h, l) in
        rw (e, get_or-append_seam points s [] blank) here

-- the last element goes again
pub popped : {A : Type 0} (xs ys zs : List A) (x : A) (n : ℕ) → ys ≡ xs ++ x ∷ [] → n ≡ length ys → zs ≡ take (n - 1) ys → zs ≡ xs
popped xs ys zs x n is count rest =
    let long : n - 1 ≡ length xs = omega (arith, count, longer xs ys x is) in
    rest ∙ ap (λ i. take i ys) long ∙ ap (take (length xs)) is ∙ take_append xs (x ∷ [])
  where
    take_append : {A : Type 0} (xs ys : List A) → take (length xs) (xs ++ ys) ≡ xs
    take_append [] [] = refl
    take_append [] (y ∷ ys) = refl
    take_append (x ∷ xs) ys = ap (λ l. x ∷ l) (take_append xs ys)
