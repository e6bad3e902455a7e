-- Edits of the input.
use Rattle.std.proofs.Common.{◌≡◌, ℕ, zero, suc, ◌*◌, ◌<◌, ◌≤◌, false, ◌&&◌, sym, ◌∙◌, ap, arith, inl, inr, ◌⊎◌, mul-le-mul_left, leb, le-leb}
use Rattle.std.proofs.lemmas.Bool.{cases_lt}
use Rattle.sv8_history.specs.Machine.{SameFootprint, Machine, Run, Notes, state_at, footprint_at}
use Rattle.sv8_history.specs.Framed.{IsFramed}
use Rattle.sv8_history.specs.Input.{IsRefed, takes_edit, IsFirstTake, first_take, IsFed, AreDelivered}
use Rattle.sv8_history.specs.Patches.{count_after, cut}
use Rattle.sv8_history.specs.Laws.{InputEditKeeps, FirstTakeStays, InputEditCounts, UntakenAgrees, InputEditFeeds}
use Rattle.sv8_history.proofs.Footprints.{footprint_same, AreAlike}
use Rattle.sv8_history.proofs.Least.{right_count, cut_unread, least_after}
use Rattle.sv8_history.proofs.Silent.{IsSilent, silent_state, silent_footprint, silent_keeps}
use Rattle.sv8_history.proofs.Cut.{cut_keeps}

sound_at : (m : Machine) → IsFramed m → (run : Run m) → m.Sound run.start → (n : ℕ) → m.Sound (state_at m run n)
sound_at m law run h zero = h
sound_at m law run h (suc n) = law.cells.sound_step (run.events n) (state_at m run n) (run.valid n) (sound_at m law run h n)

-- other input, that no step takes
silent_input : (m : Machine) → IsFramed m → (old new : Run m) (t r : ℕ) → IsRefed m t old new
    → ((n : ℕ) → n < r → takes_edit m (footprint_at m old) t n ≡ false) → IsSilent m old new r
silent_input m law old new t r fed untaken = record {
  start = fed.start;
  step = λ n l. step n l (cases_lt n t);
  footprint = λ n l. footprint n l (cases_lt n t);
  poke = λ a n l. law.events.input_poke a (old.events n) (new.events n) (fed.alike n);
}
  where
    none : (n : ℕ) → n < r → t ≤ n → (footprint_at m old n).takes ≡ false
    none n l h = let p = untaken n l in rw (le-leb t n h) at p

    step : (n : ℕ) → n < r → (n < t) ⊎ (t ≤ n) → m.step (new.events n) (state_at m old n) ≡ m.step (old.events n) (state_at m old n)
    step n l (inl h) = let e = fed.before n h in rw e
    step n l (inr h) = law.input (old.events n) (new.events n) (state_at m old n) (old.valid n) (new.valid n) (sound_at m law old fed.sound n) (fed.alike n) (none n l h)

    footprint : (n : ℕ) → n < r → (n < t) ⊎ (t ≤ n) → SameFootprint (m.footprint (new.events n) (state_at m old n)) (footprint_at m old n)
    footprint n l (inl h) = let e = fed.before n h in rw e (footprint_same (footprint_at m old n))
    footprint n l (inr h) = law.input_footprint (old.events n) (new.events n) (state_at m old n) (old.valid n) (new.valid n) (sound_at m law old fed.sound n) (fed.alike n) (none n l h)

takes_like : (m : Machine) (x y : Notes m) (t r : ℕ) → AreAlike m x y r → (n : ℕ) → n < r → takes_edit m x t n ≡ takes_edit m y t n
takes_like m x y t r alike n l = ap (λ b. leb t n && b) ((alike n l).takes)

pub input_edit_counts : (m : Machine) → InputEditCounts m
input_edit_counts m k pos run trace t right =
    right_count k trace.count pos (takes_edit m trace.notes t) (takes_edit m (footprint_at m run) t) (takes_like m trace.notes (footprint_at m run) t (k * trace.count) right.notes)

pub input_edit_keeps : (m : Machine) → InputEditKeeps m
input_edit_keeps m law k pos old new trace t right fed =
    silent_keeps
    m k pos old new
    (cut m k trace count)
    (cut_keeps m k old trace count fewer right)
    (silent_input m law old new t (k * count) fed (λ n l. sym (takes_like m trace.notes (footprint_at m old) t (k * trace.count) right.notes n (omega (arith, less))) ∙ cut_unread k trace.count pos (takes_edit m trace.notes t) n l))
  where
    count : ℕ
    count = count_after k trace.count (first_take m k trace t)

    fewer : count_after k trace.count (first_take m k trace t) ≤ trace.count
    fewer = (input_edit_counts m k pos old trace t right).fewer

    less : k * count_after k trace.count (first_take m k trace t) ≤ k * trace.count
    less = mul-le-mul_left k fewer

pub untaken_agrees : (m : Machine) → UntakenAgrees m
untaken_agrees m law old new t r fed untaken = (
  silent_state m old new r (silent_input m law old new t r fed untaken),
  silent_footprint m old new r (silent_input m law old new t r fed untaken),
)

-- the run before the edit has bytes enough by the new numbers too, up to the first step that takes input
fed_step : (m : Machine) (old : Run m) (t r : ℕ) → ((n : ℕ) → n < r → takes_edit m (footprint_at m old) t n ≡ false)
    → (taken : m.State → ℕ) (delivered redelivered : ℕ → ℕ) → IsFed m old taken delivered → AreDelivered t delivered redelivered → (n : ℕ) → n ≤ r
    → taken (state_at m old n) ≤ redelivered n
fed_step m old t r untaken taken delivered redelivered fed new zero l = let p = new.same 0 (omega arith) in rw p (fed.enough 0)
fed_step m old t r untaken taken delivered redelivered fed new (suc n) l = go (fed_step m old t r untaken taken delivered redelivered fed new n) (cases_lt n t)
  where
    go : (n ≤ r → taken (state_at m old n) ≤ redelivered n) → (n < t) ⊎ (t ≤ n) → taken (state_at m old (suc n)) ≤ redelivered (suc n)
    go rest (inl h) = let p = new.same (suc n) (omega arith) in rw p (fed.enough (suc n))
    go rest (inr h) =
        let u = untaken n (omega arith) in
        let v : (footprint_at m old n).takes ≡ false = rw (le-leb t n h) at u in
        let a = fed.kept n v in
        let b = rest (omega arith) in
        let c = new.rising n in
        omega (arith, a, b, c)

pub input_edit_feeds : (m : Machine) → InputEditFeeds m
input_edit_feeds m law old new t r refed untaken taken delivered redelivered fed more n l =
    let e = silent_state m old new r (silent_input m law old new t r refed untaken) n l in
    rw e (fed_step m old t r untaken taken delivered redelivered fed more n l)

pub refed_back : (m : Machine) → IsFramed m → (t : ℕ) (old new : Run m) → IsRefed m t old new → IsRefed m t new old
refed_back m law t old new fed = record {
  sound = let e = fed.start in rw e fed.sound;
  start = sym fed.start;
  before = λ n l. sym (fed.before n l);
  alike = λ n. law.events.input_back (old.events n) (new.events n) (fed.alike n);
}

pub first_take_stays : (m : Machine) → FirstTakeStays m
first_take_stays m law old new t s fed = (one old new fed, one new old (refed_back m law t old new fed))
  where
    one : (old new : Run m) → IsRefed m t old new → IsFirstTake m old t s → IsFirstTake m new t s
    one old new fed first =
        least_after
        (takes_edit m (footprint_at m old) t)
        (takes_edit m (footprint_at m new) t)
        s
        (λ r b quiet n l. takes_like m (footprint_at m new) (footprint_at m old) t r (silent_footprint m old new r (silent_input m law old new t r fed quiet)) n l)
        (λ r b quiet n l. sym (takes_like m (footprint_at m old) (footprint_at m new) t r (silent_footprint m new old r (silent_input m law new old t r (refed_back m law t old new fed) quiet)) n l))
        first
