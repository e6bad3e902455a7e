-- What was prepared is put in its place.
use Rattle.std.proofs.Common.{◌≡◌, ◌≢◌, ℕ, ◌+◌, ◌*◌, ◌/◌, ◌%◌, ◌<◌, ◌≤◌, List, [], ◌∷◌, ◌++◌, length, take, get_or, set, true, cond, ltb, None, sym, ◌∙◌, ap, arith, inl, inr, ◌⊎◌, lt-ltb, le-ltb, length-take-le, get_or-set_same, get_or-set_other, mul_comm, div-lt_iff_lt-mul}
use Rattle.std.proofs.lemmas.Bool.{cases_order, cases_lt}
use Rattle.std.proofs.lemmas.List.{get_or_append_left, get_or_default, get_or-take, get_or_past}
use Rattle.std.proofs.Math.Seq.{get_or-append_seam}
use Rattle.std.proofs.Math.Nat.{mul-div_cancel_left}
use Rattle.sv8_history.specs.Trace as history
use Rattle.sv8_history.proofs.Common.{footprint_same}
use Rattle.sv8_model.specs.Cells.{Cell}
use Rattle.sv8_notes.specs.Kept.{kept_in}
use Rattle.sv8_cpu.specs.State.{State}
use Rattle.sv8_cpu.specs.Recorded.{machine}
use Rattle.sv8_trace.specs.declared.interval.Interval.{Interval}
use Rattle.sv8_trace.specs.declared.prepared.Staged.{Staged}
use Rattle.sv8_trace.specs.Recording.{Recording, blank, no_interval, trace_of}
use Rattle.sv8_trace.specs.Prepared.{placed, list_at, prepared_trace, IsPreparedFor, IsPlaced}
use Rattle.sv8_trace.specs.Placing.{with_kept}

-- one item more has got what stands for it
pub more_put : (X O : Type 0) (put : O → X → X) (dx : X) (none : O) (i : ℕ) (yielded : List O) (o : O) (first now : List X) (m m' : X) → i ≡ length yielded → i < length now → m ≡ get_or now i m → m' ≡ put o m
    → ((j : ℕ) → get_or now j dx ≡ cond (ltb j i) (put (get_or yielded j none) (get_or first j dx)) (get_or first j dx))
    → (j : ℕ) → get_or (set now i m') j dx ≡ cond (ltb j (i + 1)) (put (get_or (yielded ++ o ∷ []) j none) (get_or first j dx)) (get_or first j dx)
more_put X O put dx none i yielded o first now m m' count h is made done j = go (cases_order j i)
  where
    old : m ≡ get_or first i dx
    old = is ∙ get_or_default now i m dx h ∙ done i ∙ rw (le-ltb i i (omega arith))

    go : (j ≡ i) ⊎ ((j < i) ⊎ (i < j)) → get_or (set now i m') j dx ≡ cond (ltb j (i + 1)) (put (get_or (yielded ++ o ∷ []) j none) (get_or first j dx)) (get_or first j dx)
    go (inl e) =
        let f : j ≡ length yielded = omega arith in
        let seam : get_or (yielded ++ o ∷ []) j none ≡ o = rw f (get_or-append_seam yielded o [] none) in
        let a : ltb j (i + 1) ≡ true = lt-ltb j (i + 1) (omega arith) in
        let b : get_or (set now i m') j dx ≡ m' = rw e (get_or-set_same now i m' dx h) in
        let q : get_or first i dx ≡ get_or first j dx = ap (λ x. get_or first x dx) (sym e) in
        b ∙ made ∙ ap (λ s. put o s) (old ∙ q) ∙ rw (a, seam)
    go (inr (inl l)) =
        let n : j ≢ i = omega arith in
        let w : j < length yielded = omega arith in
        get_or-set_other now i j m' dx n ∙ done j ∙ rw (lt-ltb j i l, lt-ltb j (i + 1) (omega arith), get_or_append_left yielded (o ∷ []) none j w)
    go (inr (inr l)) =
        let n : j ≢ i = omega arith in
        get_or-set_other now i j m' dx n ∙ done j ∙ rw (le-ltb j i (omega arith), le-ltb j (i + 1) (omega arith))

pub count_left : (pages : ℕ) (r : Recording) (s : Staged) → IsPreparedFor pages r s → (points cut : List State) (intervals : List Interval) → intervals ≡ r.intervals → length points ≡ length intervals + 1
    → cut ≡ take (s.count + 1) points → length cut ≡ s.count + 1
count_left pages r s fits points cut intervals same long is =
    let e = ap length same in
    ap length is ∙ length-take-le (s.count + 1) points (omega (arith, e, long, fits.count))

-- ---- the whole

module _ (windows pages k : ℕ) (pos : 0 < k) (r : Recording) (s : Staged) (fits : IsPreparedFor pages r s) (points cut last : List State) (intervals short lists : List Interval)
    (points_are : points ≡ r.points) (intervals_are : intervals ≡ r.intervals) (long : length points ≡ length intervals + 1)
    (cut_is : cut ≡ take (s.count + 1) points) (short_is : short ≡ take s.count intervals)
    (last_long : length last ≡ length cut)
    (last_is : (i : ℕ) → i < length cut → get_or last i blank ≡ placed s i (get_or cut i blank))
    (lists_long : length lists ≡ length short)
    (lists_are : (i : ℕ) → i < length short → get_or lists i no_interval ≡ with_kept (get_or s.kept.items i None) (get_or short i no_interval)) where
  cut_fits : s.count ≤ length intervals
  cut_fits = let e = ap length intervals_are in omega (arith, e, fits.count)

  lists_count : length lists ≡ s.count
  lists_count = lists_long ∙ ap length short_is ∙ length-take-le s.count intervals cut_fits

  cut_count : length cut ≡ s.count + 1
  cut_count = ap length cut_is ∙ length-take-le (s.count + 1) points (omega (arith, cut_fits, long))

  cut_point : (i : ℕ) → i ≤ s.count → get_or cut i blank ≡ get_or r.points i blank
  cut_point i h = ap (λ ps. get_or ps i blank) cut_is ∙ get_or-take (s.count + 1) points i blank (omega arith) ∙ ap (λ ps. get_or ps i blank) points_are

  cut_interval : (i : ℕ) → i < s.count → get_or short i no_interval ≡ get_or r.intervals i no_interval
  cut_interval i h = ap (λ xs. get_or xs i no_interval) short_is ∙ get_or-take s.count intervals i no_interval h ∙ ap (λ xs. get_or xs i no_interval) intervals_are

  point_is : (i : ℕ) → i ≤ s.count → get_or last i blank ≡ placed s i (get_or r.points i blank)
  point_is i h =
      let v : i < length cut = omega (arith, cut_count, h) in
      last_is i v ∙ ap (placed s i) (cut_point i h)

  interval_is : (i : ℕ) → i < s.count → get_or lists i no_interval ≡ with_kept (get_or s.kept.items i None) (get_or r.intervals i no_interval)
  interval_is i h =
      let v : i < length short = omega (arith, lists_long, lists_count, h) in
      lists_are i v ∙ ap (with_kept (get_or s.kept.items i None)) (cut_interval i h)

  of_count : (n : ℕ) → n < k * s.count → n / k < s.count
  of_count n h = (div-lt_iff_lt-mul pos).1 (rw (mul_comm s.count k) h)

  kept_is : (n : ℕ) (c : Cell) → (n / k < s.count) ⊎ (s.count ≤ n / k)
      → kept_in (n % k) c (get_or lists (n / k) no_interval).kept ≡ cond (ltb (n / k) s.count) (kept_in (n % k) c (list_at r s (n / k))) None
  kept_is n c (inl h) = let e = interval_is (n / k) h in rw (lt-ltb (n / k) s.count h, e)
  kept_is n c (inr h) = let w : length lists ≤ n / k = omega (arith, lists_count, h) in rw (le-ltb (n / k) s.count h, get_or_past lists (n / k) no_interval w)

  committed : history.Agrees (machine windows pages) k (prepared_trace windows pages k r s) (trace_of windows pages k (record { points = last; intervals = lists }))
  committed = record {
    count = lists_count;
    points = λ i h. let d : k * i / k ≡ i = mul-div_cancel_left i pos in rw d (point_is i h);
    notes = λ n h. let e = ap (λ (x : Interval). x.notes) (interval_is (n / k) (of_count n h)) in rw e (footprint_same _);
    kept = λ n c. kept_is n c (cases_lt (n / k) s.count);
  }

  pub placed_is : IsPlaced windows pages k r s (record { points = last; intervals = lists })
  placed_is = record {
    agrees = committed;
    signs = λ i h. ap (λ (x : Interval). x.signs) (interval_is i (omega (arith, lists_count, h)));
  }
