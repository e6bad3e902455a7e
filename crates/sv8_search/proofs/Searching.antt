-- Searches: each step that is looked at leaves the rest of what is to be told.
use Rattle.std.proofs.Common.{◌≡◌, ◌∙◌, ℕ, zero, suc, ◌+◌, ◌-◌, ◌/◌, ◌<◌, ◌≤◌, ◌⊎◌, inl, inr, if◌then◌else◌, min, Bool, true, false, cond, List, [], ◌∷◌, ◌++◌, map, Option, Some, None, refl, sym, ap, subst, append_assoc, append-nil, arith}
use Rattle.std.proofs.Math.Nat.{mul-le-mul_left, mul-div-le}
use Rattle.sv8_model.specs.declared.touch.Touch.{Touch}
use Rattle.sv8_model.specs.declared.observation.Observation.{Observation}
use Rattle.sv8_model.specs.Does.{Notes}
use Rattle.sv8_model.specs.Footprint.{expires}
use Rattle.sv8_time.specs.Schedule.{Schedule}
use Rattle.sv8_cpu.specs.State.{State}
use Rattle.sv8_cpu.specs.Run.{step, steps, footprint, observed}
use Rattle.sv8_history.specs.Growing.{restored}
use Rattle.sv8_workbench.specs.Kept.{Kept}
use Rattle.sv8_workbench.specs.Shown.{machine_state}
use Rattle.sv8_walks.specs.Made.{IsMade}
use Rattle.sv8_walks.specs.Walks.{IsWalk, state_in}
use Rattle.sv8_walks.specs.declared.walk.Walk.{Walk}
use Rattle.sv8_bench.specs.Workbench.{Workbench, checkpoints, IsGivenUp}
use Rattle.sv8_watch.specs.declared.condition.Condition.{Condition}
use Rattle.sv8_watch.specs.declared.happening.Happening.{Happening}
use Rattle.sv8_watch.specs.Conditions.{meets_any}
use Rattle.sv8_watch.specs.Happening.{happened, happening}
use Rattle.sv8_watch.specs.Watched.{IsBefore, IsStepFrom}
use Rattle.sv8_watch.specs.declared.watched.Before.{Before}
use Rattle.sv8_search.specs.declared.found.Found.{Found}
use Rattle.sv8_search.specs.Search.{any_met, found_at, is_wanted, wanted_found, list_of, left_behind, found_if, rising, looked_to, IsAdded, IsSearched, IsWalked, IsStopped, IsAbandoned}
use Rattle.sv8_search.proofs.Sought.{divided}
use Rattle.sv8_search.proofs.Walked.{walked_further, walked_stopped, walked_abandoned}

-- ---- what is told

module _ (k : Kept) (cs : List Condition) where
  wanted : ℕ → Bool
  wanted = is_wanted k cs

  told : ℕ → ℕ → ℕ → List Found
  told n left most = map (found_at k) (rising wanted n left most)

  step_told : (b : Bool) (n left most : ℕ) → wanted n ≡ b
      → list_of (cond b (Some (found_at k n)) None) ++ told (n + 1) left (left_behind (cond b (Some (found_at k n)) None) (suc most)) ≡ told n (suc left) (suc most)
  unfolding wanted told
  step_told true n left most e =
      let less : suc most - 1 ≡ most = omega arith in
      rw (e, less) refl
  step_told false n left most e = rw e refl

  step_looked : (b : Bool) (n left most : ℕ) → wanted n ≡ b
      → looked_to wanted (n + 1) left (left_behind (cond b (Some (found_at k n)) None) (suc most)) ≡ looked_to wanted n (suc left) (suc most)
  unfolding wanted
  step_looked true n left most e =
      let less : suc most - 1 ≡ most = omega arith in
      rw (e, less) refl
  step_looked false n left most e = rw e refl

  -- a step that is looked at: what it adds, and what is left
  rising_more : (n to most : ℕ) → n < to → 0 < most
      → list_of (wanted_found k cs n) ++ map (found_at k) (rising (is_wanted k cs) (n + 1) (to - (n + 1)) (left_behind (wanted_found k cs n) most))
      ≡ map (found_at k) (rising (is_wanted k cs) n (to - n) most)
  unfolding wanted told
  rising_more n to most below some =
      let first : suc (to - (n + 1)) ≡ to - n = omega (arith, below) in
      let more : suc (most - 1) ≡ most = omega (arith, some) in
      rw (sym first, sym more) (step_told (is_wanted k cs n) n (to - (n + 1)) (most - 1) refl)

  looked_more : (n to most : ℕ) → n < to → 0 < most
      → looked_to (is_wanted k cs) (n + 1) (to - (n + 1)) (left_behind (wanted_found k cs n) most) ≡ looked_to (is_wanted k cs) n (to - n) most
  unfolding wanted
  looked_more n to most below some =
      let first : suc (to - (n + 1)) ≡ to - n = omega (arith, below) in
      let more : suc (most - 1) ≡ most = omega (arith, some) in
      rw (sym first, sym more) (step_looked (is_wanted k cs n) n (to - (n + 1)) (most - 1) refl)

-- ---- what is seen of a step

-- the state behind it
pub next_state : (kept : Kept) (n : ℕ) → machine_state kept (n + 1) ≡ step kept.windows kept.pages kept.timeline n (machine_state kept n)
unfolding steps
next_state kept n =
    let more : n + 1 ≡ suc n = omega arith in
    ap (machine_state kept) more

-- the state after it, and that it is not wanted, by what is known of the sizes and the timeline
module _ (kept : Kept) (n m nw ram_pages : ℕ) (timeline : Schedule) where
  after_is : (after : State) → after ≡ machine_state kept (n + 1) → m ≡ n → timeline ≡ kept.timeline → kept.windows ≡ nw → kept.pages ≡ ram_pages
      → after ≡ step nw ram_pages timeline m (machine_state kept n)
  after_is after state at same windows pages =
      let s = machine_state kept n in
      state ∙ next_state kept n ∙ ap (λ w. step w kept.pages kept.timeline n s) windows ∙ ap (λ p. step nw p kept.timeline n s) pages
      ∙ ap (λ t. step nw ram_pages t n s) (sym same) ∙ ap (λ i. step nw ram_pages timeline i s) (sym at)

  touched_by : (ts : List Touch) → ts ≡ footprint kept.windows kept.pages kept.timeline n (machine_state kept n) → m ≡ n → timeline ≡ kept.timeline → kept.windows ≡ nw
      → kept.pages ≡ ram_pages → ts ≡ footprint nw ram_pages timeline m (machine_state kept n)
  touched_by ts is at same windows pages =
      let s = machine_state kept n in
      is ∙ ap (λ w. footprint w kept.pages kept.timeline n s) windows ∙ ap (λ p. footprint nw p kept.timeline n s) pages
      ∙ ap (λ t. footprint nw ram_pages t n s) (sym same) ∙ ap (λ i. footprint nw ram_pages timeline i s) (sym at)

  seen_by : (os : List Observation) → os ≡ observed kept.windows kept.pages kept.timeline n (machine_state kept n) → m ≡ n → timeline ≡ kept.timeline → kept.windows ≡ nw
      → kept.pages ≡ ram_pages → os ≡ observed nw ram_pages timeline m (machine_state kept n)
  seen_by os is at same windows pages =
      let s = machine_state kept n in
      is ∙ ap (λ w. observed w kept.pages kept.timeline n s) windows ∙ ap (λ p. observed nw p kept.timeline n s) pages
      ∙ ap (λ t. observed nw ram_pages t n s) (sym same) ∙ ap (λ i. observed nw ram_pages timeline i s) (sym at)

  pub step_from : (b : Before) (after : State) (notes : Notes) → IsBefore (machine_state kept n) b → after ≡ machine_state kept (n + 1)
      → notes.touches ≡ footprint kept.windows kept.pages kept.timeline n (machine_state kept n)
      → notes.observations ≡ observed kept.windows kept.pages kept.timeline n (machine_state kept n)
      → m ≡ n → timeline ≡ kept.timeline → kept.windows ≡ nw → kept.pages ≡ ram_pages → IsStepFrom nw ram_pages timeline m (machine_state kept n) b after notes
  step_from b after notes before state touched seen at same windows pages = record {
    before = before;
    state = after_is after state at same windows pages;
    touches = touched_by notes.touches touched at same windows pages;
    observations = seen_by notes.observations seen at same windows pages;
  }

  pub not_added : (cs : List Condition) (left : ℕ) (found : List Found) → m ≡ n → timeline ≡ kept.timeline → kept.windows ≡ nw → kept.pages ≡ ram_pages
      → meets_any nw ram_pages timeline m (machine_state kept n) cs ≡ false → IsAdded (wanted_found kept cs n) left found found left
  not_added cs left found at same windows pages none =
      let s = machine_state kept n in
      let missed : is_wanted kept cs n ≡ false =
      ap (λ w. meets_any w kept.pages kept.timeline n s cs) windows ∙ ap (λ p. meets_any nw p kept.timeline n s cs) pages
      ∙ ap (λ t. meets_any nw ram_pages t n s cs) (sym same) ∙ ap (λ i. meets_any nw ram_pages timeline i s cs) (sym at) ∙ none in
      subst (λ b. IsAdded (if b then Some (found_at kept n) else None) left found found left) (sym missed) (record { items = sym (append-nil found); room = refl })

-- its happening
happened_is : (kept : Kept) (n m : ℕ) (timeline : Schedule) (after : State) (os : List Observation) (ts : List Touch) (h : Happening) → m ≡ n → timeline ≡ kept.timeline
    → after ≡ machine_state kept (n + 1) → os ≡ observed kept.windows kept.pages kept.timeline n (machine_state kept n)
    → ts ≡ footprint kept.windows kept.pages kept.timeline n (machine_state kept n) → h ≡ happened timeline m (machine_state kept n) after os (expires ts)
    → h ≡ happening kept.windows kept.pages kept.timeline n (machine_state kept n)
unfolding happening
happened_is kept n m timeline after os ts h at under state seen touched e =
    let s = machine_state kept n in
    e ∙ ap (λ t. happened t m s after os (expires ts)) under ∙ ap (λ i. happened kept.timeline i s after os (expires ts)) at
    ∙ ap (λ x. happened kept.timeline n s x os (expires ts)) (state ∙ next_state kept n)
    ∙ ap (λ o. happened kept.timeline n s (step kept.windows kept.pages kept.timeline n s) o (expires ts)) seen
    ∙ ap (λ t. happened kept.timeline n s (step kept.windows kept.pages kept.timeline n s) (observed kept.windows kept.pages kept.timeline n s) (expires t)) touched

-- the conditions that it meets
met_is : (kept : Kept) (n m : ℕ) (cs : List Condition) (after : State) (ts : List Touch) (h : Happening) → m ≡ n → after ≡ machine_state kept (n + 1)
    → ts ≡ footprint kept.windows kept.pages kept.timeline n (machine_state kept n) → h ≡ happening kept.windows kept.pages kept.timeline n (machine_state kept n)
    → any_met m (machine_state kept n) after h ts cs ≡ is_wanted kept cs n
met_is kept n m cs after ts h at state touched e =
    let s = machine_state kept n in
    ap (λ i. any_met i s after h ts cs) at ∙ ap (λ x. any_met n s x h ts cs) (state ∙ next_state kept n)
    ∙ ap (λ t. any_met n s (step kept.windows kept.pages kept.timeline n s) h t cs) touched
    ∙ ap (λ x. any_met n s (step kept.windows kept.pages kept.timeline n s) x (footprint kept.windows kept.pages kept.timeline n s) cs) e ∙ same cs
  where
    same : (xs : List Condition) → any_met n (machine_state kept n) (step kept.windows kept.pages kept.timeline n (machine_state kept n))
        (happening kept.windows kept.pages kept.timeline n (machine_state kept n)) (footprint kept.windows kept.pages kept.timeline n (machine_state kept n)) xs ≡ is_wanted kept xs n
    same [] = refl
    same (x ∷ xs) = refl

-- .. and whether it is told
pub looked_added : (kept : Kept) (n : ℕ) (cs : List Condition) {m : ℕ} {timeline : Schedule} {after : State} {os : List Observation} {ts : List Touch} {left rest : ℕ} {before new : List Found}
    → m ≡ n → timeline ≡ kept.timeline → after ≡ machine_state kept (n + 1) → os ≡ observed kept.windows kept.pages kept.timeline n (machine_state kept n)
    → ts ≡ footprint kept.windows kept.pages kept.timeline n (machine_state kept n)
    → IsAdded (found_if (any_met m (machine_state kept n) after (happened timeline m (machine_state kept n) after os (expires ts)) ts cs)
    (record { step = m; happening = happened timeline m (machine_state kept n) after os (expires ts) })) left before new rest
    → IsAdded (wanted_found kept cs n) left before new rest
looked_added kept n cs {m} {timeline} {after} {os} {ts} {left} {rest} {before} {new} at under state seen touched added =
    let h = happened timeline m (machine_state kept n) after os (expires ts) in
    let happens = happened_is kept n m timeline after os ts h at under state seen touched refl in
    subst (λ (o : Option Found). IsAdded o left before new rest)
    (ap (λ x. found_if x (record { step = m; happening = h })) (met_is kept n m cs after ts h at state touched happens)
    ∙ ap (λ i. found_if (is_wanted kept cs n) (record { step = i; happening = h })) at
    ∙ ap (λ x. found_if (is_wanted kept cs n) (record { step = n; happening = x })) happens) added

-- the state behind a step that was made in a walk
pub walked_state : {k n : ℕ} {old new : Workbench} {windows pages : ℕ} {walk : Walk windows pages} → IsMade k n old new → IsWalk k new walk → walk.step ≡ n + 1
    → state_in walk.place ≡ machine_state old.kept (n + 1)
walked_state {old = old} {walk = walk} made w at = w.state ∙ ap (λ (x : Kept). machine_state x walk.step) made.kept ∙ ap (machine_state old.kept) at

-- ---- what is made of a workbench

module _ {k : ℕ} (pos : 0 < k) (from : ℕ) {n to : ℕ} {old now : Workbench} (low : from ≤ n) (high : n ≤ to) (s : IsSearched k from n old now) where
  begun : restored k (checkpoints old) from ≤ n
  begun =
      let under = mul-div-le from k in
      let least : min (checkpoints old) (from / k) ≤ from / k = omega arith in
      let fewer = mul-le-mul_left k least in
      omega (arith, under, fewer, low)

  -- several steps more
  pub searched_further : {new : Workbench} → IsWalked k n to now new → IsSearched k from to old new
  searched_further w = walked_further pos begun high s w

  -- a search that is given up among several
  pub searched_stopped : {new : Workbench} → IsStopped k n to now new → IsAbandoned k from to old new
  searched_stopped t = walked_stopped pos begun high s t

  -- .. or behind one
  pub searched_abandoned : IsAbandoned k from to old now
  searched_abandoned = walked_abandoned pos begun high s

-- .. or before the first
pub searched_from : {k from to : ℕ} {old new : Workbench} → 0 < k → from ≤ to → IsGivenUp k from old new → IsAbandoned k from to old new
searched_from {k} {from} {to} pos high g =
    let below : from / k ≤ to / k = divided k from to pos high in
    let most = g.most in
    let raised = g.worked in
    record { kept = g.kept; fewest = g.fewest; most = omega (arith, most, below); worked = (raised.0, omega (arith, raised.1, high), raised.2) }

pub searched_at : (k from m n : ℕ) (old new : Workbench) → m ≡ n → IsSearched k from m old new → IsSearched k from n old new
searched_at k from m n old new e s = subst (λ (x : ℕ). IsSearched k from x old new) e s

-- ---- a search that goes up

module _ (k : Kept) (cs : List Condition) (n to left : ℕ) where
  -- what is told, and how far it looks, once it has looked at a step
  module _ (later next : ℕ) (seen : Option Found) (below : n < to) (some : 0 < left) (at : later ≡ n + 1) (is : seen ≡ wanted_found k cs n) (rest : next ≡ left_behind seen left) where
    rest_is : next ≡ left_behind (wanted_found k cs n) left
    rest_is = rest ∙ ap (λ o. left_behind o left) is

    pub found_next : (now new all : List Found) → new ≡ now ++ list_of seen → now ++ map (found_at k) (rising (is_wanted k cs) n (to - n) left) ≡ all
        → new ++ map (found_at k) (rising (is_wanted k cs) later (to - later) next) ≡ all
    found_next now new all e g =
        ap (λ xs. xs ++ map (found_at k) (rising (is_wanted k cs) later (to - later) next)) (e ∙ ap (λ o. now ++ list_of o) is)
        ∙ ap (λ m. (now ++ list_of (wanted_found k cs n)) ++ map (found_at k) (rising (is_wanted k cs) m (to - m) next)) at
        ∙ ap (λ m. (now ++ list_of (wanted_found k cs n)) ++ map (found_at k) (rising (is_wanted k cs) (n + 1) (to - (n + 1)) m)) rest_is
        ∙ append_assoc now (list_of (wanted_found k cs n)) (map (found_at k) (rising (is_wanted k cs) (n + 1) (to - (n + 1)) (left_behind (wanted_found k cs n) left)))
        ∙ ap (λ xs. now ++ xs) (rising_more k cs n to left below some) ∙ g

    pub looked_next : looked_to (is_wanted k cs) later (to - later) next ≡ looked_to (is_wanted k cs) n (to - n) left
    looked_next =
        ap (λ m. looked_to (is_wanted k cs) m (to - m) next) at ∙ ap (looked_to (is_wanted k cs) (n + 1) (to - (n + 1))) rest_is ∙ looked_more k cs n to left below some

  -- where it ends
  no_more_rise : (to ≤ n) ⊎ (left ≡ 0) → rising (is_wanted k cs) n (to - n) left ≡ []
  no_more_rise (inl past) =
      let none : to - n ≡ 0 = omega (arith, past) in
      ap (λ b. rising (is_wanted k cs) n b left) none
  no_more_rise (inr none) = ap (rising (is_wanted k cs) n (to - n)) none ∙ nothing (to - n) where
    nothing : (b : ℕ) → rising (is_wanted k cs) n b 0 ≡ []
    nothing zero = refl
    nothing (suc b) = refl

  pub all_risen : (to ≤ n) ⊎ (left ≡ 0) → (now all : List Found) → now ++ map (found_at k) (rising (is_wanted k cs) n (to - n) left) ≡ all → now ≡ all
  all_risen done now all e = sym (append-nil now) ∙ ap (λ xs. now ++ map (found_at k) xs) (sym (no_more_rise done)) ∙ e

  pub looked_end : (to ≤ n) ⊎ (left ≡ 0) → looked_to (is_wanted k cs) n (to - n) left ≡ n
  looked_end (inl past) =
      let none : to - n ≡ 0 = omega (arith, past) in
      ap (λ b. looked_to (is_wanted k cs) n b left) none
  looked_end (inr none) = ap (looked_to (is_wanted k cs) n (to - n)) none ∙ nothing (to - n) where
    nothing : (b : ℕ) → looked_to (is_wanted k cs) n b 0 ≡ n
    nothing zero = refl
    nothing (suc b) = refl

-- as many may follow as before, so the step was not wanted
pub unwanted : (wanted : Bool) (it : Found) (left rest : ℕ) (before after : List Found) → IsAdded (if wanted then Some it else None) left before after rest → rest ≡ left → 0 < left
    → wanted ≡ false
unwanted true it left rest before after h same some = let room : rest ≡ left - 1 = h.room in absurd (omega (arith, room, same, some))
unwanted false it left rest before after h same some = refl
