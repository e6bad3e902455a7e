-- New and extended traces, and queries.
use Rattle.std.proofs.Common.{◌≡◌, ℕ, zero, suc, ◌+◌, ◌-◌, ◌*◌, ◌/◌, ◌<◌, ◌≤◌, Bool, not, ◌&&◌, cond, ltb, Option, Some, None, is_some, ◌∙◌, ap, arith, inl, inr, ◌⊎◌, lt-ltb, le-ltb, mul-le-mul_left, min, div-mul-le_self, mul_comm}
use Rattle.std.proofs.lemmas.Bool.{cases_lt}
use Rattle.sv8_history.specs.Machine.{SameFootprint, Machine, Run, state_at, footprint_at, touches_of}
use Rattle.sv8_history.specs.Trace.{Trace, IsTraceOf, some_from, next_checkpoint, kept_at}
use Rattle.sv8_history.specs.Growing.{steps_from, state_after, notes_after, kept_after, restored}
use Rattle.sv8_history.specs.Laws.{NewTrace, ExtendKeeps, RestoreGives, QueryWork}
use Rattle.sv8_history.proofs.Footprints.{footprint_same, touches_like}
use Rattle.sv8_history.proofs.Spans.{some_from-like}

pub new_trace_is : (m : Machine) → NewTrace m
new_trace_is m k run = record {
  points = λ i l. let e : 0 ≡ k * i = zero_times i l in ap (state_at m run) e;
  notes = λ n l. absurd (omega arith);
  kept = λ n a. let e = le-ltb n (k * 0) (omega arith) in rw e;
}
  where
    zero_times : (i : ℕ) → i ≤ 0 → 0 ≡ k * i
    zero_times i l = let e : i ≡ 0 = omega arith in rw e (omega arith)

steps_run : (m : Machine) (run : Run m) (n : ℕ) (s : m.State) → s ≡ state_at m run n → (j : ℕ) → steps_from m run n s j ≡ state_at m run (n + j)
steps_run m run n s e zero = let i : n ≡ n + 0 = omega arith in e ∙ ap (state_at m run) i
steps_run m run n s e (suc j) =
    let i : suc (n + j) ≡ n + suc j = omega arith in
    ap (m.step (run.events (n + j))) (steps_run m run n s e j) ∙ ap (state_at m run) i

after_run : (m : Machine) (k : ℕ) (run : Run m) (trace : Trace m) → IsTraceOf m k run trace → (n : ℕ) → k * trace.count ≤ n
    → state_after m k run trace n ≡ state_at m run n
after_run m k run trace right n l =
    let i : k * trace.count + (n - k * trace.count) ≡ n = omega arith in
    steps_run m run (k * trace.count) (trace.point (k * trace.count)) (right.points trace.count (omega arith)) (n - k * trace.count) ∙ ap (state_at m run) i

cond_lt : {A : Type 0} (n r : ℕ) (x y z : A) → (n < r → x ≡ z) → (r ≤ n → y ≡ z) → cond (ltb n r) x y ≡ z
cond_lt n r x y z p q = go (cases_lt n r)
  where
    go : (n < r) ⊎ (r ≤ n) → cond (ltb n r) x y ≡ z
    go (inl l) = rw (lt-ltb n r l) (p l)
    go (inr l) = rw (le-ltb n r l) (q l)

notes_run : (m : Machine) (k : ℕ) (run : Run m) (trace : Trace m) → IsTraceOf m k run trace → (n : ℕ)
    → SameFootprint (notes_after m k run trace n) (footprint_at m run n)
notes_run m k run trace right n = go (cases_lt n (k * trace.count))
  where
    go : (n < k * trace.count) ⊎ (k * trace.count ≤ n) → SameFootprint (notes_after m k run trace n) (footprint_at m run n)
    go (inl l) = rw (lt-ltb n (k * trace.count) l) (right.notes n l)
    go (inr l) = let e = after_run m k run trace right n l in rw (le-ltb n (k * trace.count) l, e) (footprint_same (footprint_at m run n))

-- a value kept by what was on record stays kept
kept_more : (m : Machine) (k r q : ℕ) (run : Run m) (n : ℕ) (a : m.Cell) → n < r → r ≤ q → kept_at m k run r n a ≡ kept_at m k run q n a
kept_more m k r q run n a l h = let x = lt-ltb n r l in let y = lt-ltb n q (omega arith) in rw (x, y)

cond_kept : {A : Type 0} (b p s t : Bool) (v w : A) → s ≡ t → v ≡ w → cond (b && p && not s) (Some v) None ≡ cond (b && p && not t) (Some w) None
cond_kept b p s t v w e f = rw (e, f)

kept_run : (m : Machine) (k : ℕ) → 0 < k → (run : Run m) (trace : Trace m) → IsTraceOf m k run trace → (n : ℕ) (a : m.Cell)
    → kept_after m k run trace n a ≡ kept_at m k run (k * suc trace.count) n a
kept_run m k pos run trace right n a =
    cond_lt n (k * trace.count) (trace.kept n a) new (kept_at m k run (k * suc trace.count) n a)
    (λ l. right.kept n a ∙ kept_more m k (k * trace.count) (k * suc trace.count) run n a l (mul-le-mul_left k (omega arith)))
    (λ l. cond_kept (ltb n (k * suc trace.count)) (is_some (m.poke a (run.events n))) (some_from n (next_checkpoint k n) notes) (some_from n (next_checkpoint k n) (touches_of m (footprint_at m run) a)) (m.get a (state_after m k run trace n)) (m.get a (state_at m run n)) (some_from-like n (next_checkpoint k n) notes (touches_of m (footprint_at m run) a) (λ j d. touches_like m (notes_after m k run trace) (footprint_at m run) (suc j) (λ i b. notes_run m k run trace right i) a j (omega arith))) (ap (m.get a) (after_run m k run trace right n l)))
  where
    notes : ℕ → Bool
    notes = touches_of m (notes_after m k run trace) a

    new : Option m.Value
    new = cond
        (ltb n (k * suc trace.count) && is_some (m.poke a (run.events n)) && not (some_from n (next_checkpoint k n) (touches_of m (notes_after m k run trace) a)))
        (Some (m.get a (state_after m k run trace n)))
        None

pub extend_keeps : (m : Machine) → ExtendKeeps m
extend_keeps m k pos run trace right = record {
  points = λ i l.
      cond_lt (k * trace.count) (k * i) (state_after m k run trace (k * i)) (trace.point (k * i)) (state_at m run (k * i))
      (λ h. after_run m k run trace right (k * i) (omega arith))
      (λ h. right.points i (least i (cases_lt trace.count i) h));
  notes = λ n l. notes_run m k run trace right n;
  kept = kept_run m k pos run trace right;
}
  where
    least : (i : ℕ) → (trace.count < i) ⊎ (i ≤ trace.count) → k * i ≤ k * trace.count → i ≤ trace.count
    least i (inr l) h = l
    least i (inl l) h =
        let w : k * (trace.count + 1) ≤ k * i = mul-le-mul_left k (omega arith) in
        absurd (omega (arith, w, pos, h))

pub restore_gives : (m : Machine) → RestoreGives m
restore_gives m k pos run trace n right =
    steps_run m run (restored k trace.count n) (trace.point (restored k trace.count n)) (right.points (min trace.count (n / k)) (omega arith)) (n - restored k trace.count n) ∙ ap (state_at m run) whole
  where
    low : k * (n / k) ≤ n
    low = let p = div-mul-le_self n k in rw (mul_comm k (n / k)) p

    less : k * min trace.count (n / k) ≤ k * (n / k)
    less = mul-le-mul_left k (omega arith)

    whole : restored k trace.count n + (n - restored k trace.count n) ≡ n
    whole = omega (arith, low, less)

-- steps with a trace extended by d checkpoints
steps_split : (k count d n : ℕ) → k * (count + d) ≤ n → k * d + (n - k * (count + d)) ≡ n - k * count
steps_split k count d n h = let e : k * (count + d) ≡ k * count + k * d = omega arith in omega (arith, e, h)

work_of : (k count q n : ℕ) → k * q ≤ n → k * (q - count) + (n - k * min (count + (q - count)) q) ≡ n - k * min count q
work_of k count q n low = go (cases_lt count q)
  where
    go : (count < q) ⊎ (q ≤ count) → k * (q - count) + (n - k * min (count + (q - count)) q) ≡ n - k * min count q
    go (inl l) =
        let e : min (count + (q - count)) q ≡ count + (q - count) = omega arith in
        let f : min count q ≡ count = omega arith in
        let g : count + (q - count) ≡ q = omega arith in
        let h : k * (count + (q - count)) ≤ n = rw g low in
        rw (e, f) (steps_split k count (q - count) n h)
    go (inr l) =
        let e : q - count ≡ 0 = omega arith in
        let f : count + 0 ≡ count = omega arith in
        rw (e, f) (omega arith)

pub query_work : QueryWork
query_work k count n = (work_of k count (n / k) n low, omega arith)
  where
    low : k * (n / k) ≤ n
    low = let p = div-mul-le_self n k in rw (mul_comm k (n / k)) p
