-- How many steps a falling search makes.
use Rattle.std.proofs.Common.{◌≡◌, ◌∙◌, ℕ, ◌+◌, ◌-◌, ◌*◌, ◌/◌, ◌<◌, ◌≤◌, ◌⊎◌, inl, inr, Bool, true, false, nat_lt, min, max, refl, sym, ap, arith, subst}
use Rattle.std.proofs.lemmas.Bool.{ltb-true, ltb-false}
use Rattle.std.proofs.Math.Nat.{le-div_iff_mul-le, mul_comm, mul-le-mul_left, mul-div-le, div-add-mod, mod-lt}
use Rattle.sv8_history.specs.Growing.{restored}
use Rattle.sv8_trace.specs.Recorder.{RaisedUpTo}
use Rattle.sv8_cpu.specs.Work.{counted_by}
use Rattle.sv8_search.specs.Search.{checkpoint_of, sought_steps, IsSought, IsPassedOrSearched, IsAbandoned, IsStart}
use Rattle.sv8_bench.specs.Workbench.{Workbench, checkpoints}
use Rattle.sv8_walks.proofs.Made.{in_interval as interval_of}
use Rattle.sv8_bench.proofs.Queried.{raised_more}

-- the interval of a step
pub in_interval : (k q n : ℕ) → 0 < k → k * q ≤ n → n < k * q + k → n / k ≡ q
in_interval k q n pos low high = interval_of k q (n - k * q) n pos (omega (arith, low, high)) (omega (arith, low))

interval_end : (k n : ℕ) → 0 < k → n < k * (n / k) + k
interval_end k n pos =
    let parts = div-add-mod n k in
    let few = mod-lt n pos in
    omega (arith, parts, few)

pub divided : (k m n : ℕ) → 0 < k → m ≤ n → m / k ≤ n / k
divided k m n pos le =
    let under = mul-div-le m k in
    (le-div_iff_mul-le pos).1 (omega (arith, le, under, mul_comm (m / k) k))

pub starts : (k to end start : ℕ) → 0 < k → to < end → start ≡ max to ((end - 1) / k * k) → IsStart k to end start
starts k to end start pos up e =
    let q = (end - 1) / k in
    let turned : (end - 1) / k * k ≡ k * q = mul_comm q k in
    let under : k * q ≤ end - 1 = mul-div-le (end - 1) k in
    let over = interval_end k (end - 1) pos in
    let here : start / k ≡ q = in_interval k q start pos (omega (arith, e, turned)) (omega (arith, e, turned, over, under, up)) in
    record {
      low = omega (arith, e);
      below = omega (arith, e, turned, under, up);
      interval = here;
      aligned = at (nat_lt to (k * q)) refl here (e ∙ ap (max to) turned);
    }
  where
    at : (b : Bool) → nat_lt to (k * ((end - 1) / k)) ≡ b → start / k ≡ (end - 1) / k → start ≡ max to (k * ((end - 1) / k)) → (start ≡ to) ⊎ (k * (start / k) ≡ start)
    at true t here f =
        let less = ltb-true to (k * ((end - 1) / k)) t in
        let same : k * ((end - 1) / k) ≡ start = omega (arith, f, less) in
        inr (ap (λ x. k * x) here ∙ same)
    at false t here f =
        let more = ltb-false to (k * ((end - 1) / k)) t in
        inl (omega (arith, f, more))

-- the steps from one on and below the first one are looked at: none so far, or down to the begin of an interval, or all
abbrev pub IsDown : ℕ → ℕ → ℕ → ℕ → ℕ → ℕ → ℕ → ℕ → Type 0
IsDown k from to first before end recorded worked =
    ((end ≡ from) × (recorded ≡ first) × (worked ≡ before))
    ⊎ ((end < from) × ((end ≡ to) ⊎ (k * (end / k) ≡ end)) × (end / k ≤ recorded) × RaisedUpTo (sought_steps k first from end) before worked)

-- .. which ends where that begins or before it
pub within_interval : (k to end start : ℕ) → 0 < k → IsStart k to end start → end ≤ k * (start / k) + k
within_interval k to end start pos s =
    let over = interval_end k (end - 1) pos in
    let same : k * (start / k) ≡ k * ((end - 1) / k) = ap (λ q. k * q) s.interval in
    let below = s.below in
    omega (arith, over, same, below)

module _ (k from to : ℕ) (pos : 0 < k) where
  -- the first interval
  first_steps : (first start : ℕ) → start / k ≡ (from - 1) / k → from - restored k first start ≤ sought_steps k first from start
  first_steps first start e =
      let same : restored k first start ≡ restored k first (from - 1) = ap (λ q. k * min first q) e in
      omega (arith, same)

  -- .. and another one
  more_steps : (first recorded end start : ℕ) → 0 < end → end < from → k * (end / k) ≡ end → end / k ≤ recorded → start / k ≡ (end - 1) / k
      → end - restored k recorded start + sought_steps k first from end ≤ sought_steps k first from start
  more_steps first recorded end start some below aligned all e =
      let q = end / k in
      let lower : k * ((end - 1) / k) ≤ end - 1 = mul-div-le (end - 1) k in
      let upper = interval_end k (end - 1) pos in
      let under : (end - 1) / k ≤ q = divided k (end - 1) end pos (omega arith) in
      let last : q ≤ (from - 1) / k = divided k end (from - 1) pos (omega (arith, below)) in
      let whole = mul-le-mul_left k last in
      let least : min recorded (start / k) ≡ (end - 1) / k = omega (arith, e, under, all) in
      let here : restored k recorded start ≡ k * ((end - 1) / k) = ap (λ x. k * x) least in
      let begin : checkpoint_of k start ≡ k * ((end - 1) / k) = ap (λ x. k * x) e in
      omega (arith, here, begin, lower, upper, whole, aligned, some)

  raised_again : (few most all first now new : ℕ) → RaisedUpTo few first now → RaisedUpTo most now new → most + few ≤ all → RaisedUpTo all first new
  raised_again few most all first now new a b le = raised_more a.0 most all first now new a.2 b (omega (arith, a.1, le))

  raised_less : (few most first new : ℕ) → RaisedUpTo few first new → few ≤ most → RaisedUpTo most first new
  raised_less few most first new a le = (a.0, omega (arith, a.1, le), a.2)

  -- an interval more
  interval_raised : (first before end recorded worked start new : ℕ) → to < end → IsStart k to end start → IsDown k from to first before end recorded worked
      → RaisedUpTo (end - restored k recorded start) worked new → RaisedUpTo (sought_steps k first from start) before new
  interval_raised first before end recorded worked start new up s (inl d) r =
      let few : end - restored k recorded start ≤ sought_steps k first from start =
      rw (d.0, d.1) (first_steps first start (s.interval ∙ ap (λ x. (x - 1) / k) d.0)) in
      raised_less (end - restored k recorded start) (sought_steps k first from start) before new (subst (λ w. RaisedUpTo (end - restored k recorded start) w new) d.2 r) few
  interval_raised first before end recorded worked start new up s (inr d) r = go d.1 where
    go : (end ≡ to) ⊎ (k * (end / k) ≡ end) → RaisedUpTo (sought_steps k first from start) before new
    go (inl e) = absurd (omega (arith, e, up))
    go (inr e) =
        raised_again (sought_steps k first from end) (end - restored k recorded start) (sought_steps k first from start) before worked new d.3 r
        (more_steps first recorded end start (omega (arith, up)) d.0 e d.2 s.interval)

  -- .. of which all is recorded
  interval_down : (first before end recorded worked start now new : ℕ) → to < end → end ≤ from → IsStart k to end start → IsDown k from to first before end recorded worked
      → now ≡ max recorded (end / k) → new ≡ counted_by (end - restored k recorded start) worked → IsDown k from to first before start now new
  interval_down first before end recorded worked start now new up high s d e f =
      let some : start / k ≤ end / k = divided k start end pos (let below = s.below in omega (arith, below)) in
      let below = s.below in
      inr (
        omega (arith, below, high),
        s.aligned,
        omega (arith, e, some),
        interval_raised first before end recorded worked start new up s d (end - restored k recorded start, omega arith, f),
      )

  -- further down it is no less
  raised_further : (first before low high new : ℕ) → low ≤ high → RaisedUpTo (sought_steps k first from high) before new → RaisedUpTo (sought_steps k first from low) before new
  raised_further first before low high new le r =
      let grown = mul-le-mul_left k (divided k low high pos le) in
      raised_less (sought_steps k first from high) (sought_steps k first from low) before new r (omega (arith, grown))

  -- .. or which is passed over, since all of it is recorded
  interval_passed : (first before end recorded worked start : ℕ) → end ≤ from → IsStart k to end start → end / k ≤ recorded
      → IsDown k from to first before end recorded worked → IsDown k from to first before start recorded worked
  interval_passed first before end recorded worked start high s all d =
      let below = s.below in
      let some : start / k ≤ end / k = divided k start end pos (omega (arith, below)) in
      inr (omega (arith, below, high), s.aligned, omega (arith, all, some), go d)
    where
      go : IsDown k from to first before end recorded worked → RaisedUpTo (sought_steps k first from start) before worked
      go (inl e) = (0, omega arith, e.2)
      go (inr e) = let below = s.below in raised_further first before start end worked (omega (arith, below)) e.3

  -- at the end
  down_raised : (first before end recorded worked lowest : ℕ) → end / k ≡ lowest / k → IsDown k from to first before end recorded worked
      → RaisedUpTo (sought_steps k first from lowest) before worked
  down_raised first before end recorded worked lowest e (inl d) = (0, omega arith, d.2)
  down_raised first before end recorded worked lowest e (inr d) =
      let same : sought_steps k first from end ≡ sought_steps k first from lowest = ap (λ q. (from - restored k first (from - 1)) + (checkpoint_of k (from - 1) - k * q)) e in
      raised_less (sought_steps k first from end) (sought_steps k first from lowest) before worked d.3 (omega (arith, same))

  -- ---- what is made of a workbench

  -- what an interval leaves of it
  pub record IsLower (old now new : Workbench) (end start : ℕ) : Type 0 where
    pub kept : new.kept ≡ now.kept
    pub fewest : checkpoints now ≤ checkpoints new
    pub most : checkpoints new ≤ max (checkpoints now) (end / k)
    pub down : IsDown k from to (checkpoints old) old.worked start (checkpoints new) new.worked

  pub interval_sought : (old now new : Workbench) (end start : ℕ) → to < end → end ≤ from → IsStart k to end start
      → IsDown k from to (checkpoints old) old.worked end (checkpoints now) now.worked → IsPassedOrSearched k start end now new → IsLower old now new end start
  interval_sought old now new end start up high s d (inl p) =
      subst (λ (w : Workbench). IsLower old now w end start) (sym p.0)
      (record {
        kept = refl;
        fewest = omega arith;
        most = omega arith;
        down = interval_passed (checkpoints old) old.worked end (checkpoints now) now.worked start high s p.1 d;
      })
  interval_sought old now new end start up high s d (inr p) =
      let more = p.recorded in
      record {
        kept = p.kept;
        fewest = omega (arith, more);
        most = omega (arith, more);
        down = interval_down (checkpoints old) old.worked end (checkpoints now) now.worked start (checkpoints new) new.worked up high s d p.recorded p.worked;
      }

  -- a search that has come down to a step
  pub sought_down : (end lowest : ℕ) (old now : Workbench) → now.kept ≡ old.kept → checkpoints old ≤ checkpoints now → checkpoints now ≤ max (checkpoints old) (from / k)
      → end / k ≡ lowest / k → IsDown k from to (checkpoints old) old.worked end (checkpoints now) now.worked → IsSought k from lowest old now
  sought_down end lowest old now same fewest most e d = record {
    kept = same;
    fewest = fewest;
    most = most;
    worked = down_raised (checkpoints old) old.worked end (checkpoints now) now.worked lowest e d;
  }

  -- one that stops higher up makes no more steps
  sought_higher : (low high : ℕ) (old new : Workbench) → low ≤ high → IsSought k from high old new → IsSought k from low old new
  sought_higher low high old new le s = record {
    kept = s.kept;
    fewest = s.fewest;
    most = s.most;
    worked = raised_further (checkpoints old) old.worked low high new.worked le s.worked;
  }

  -- one that is given up in an interval
  pub sought_abandoned : (end start : ℕ) (old now new : Workbench) → to < end → end ≤ from → IsStart k to end start → now.kept ≡ old.kept → checkpoints old ≤ checkpoints now
      → checkpoints now ≤ max (checkpoints old) (from / k) → IsDown k from to (checkpoints old) old.worked end (checkpoints now) now.worked → IsAbandoned k start end now new
      → IsSought k from to old new
  sought_abandoned end start old now new up high s same fewest most d a =
      let below = divided k end from pos high in
      let less = a.fewest in
      let more = a.most in
      let low = s.low in
      sought_higher to start old new low
      (record {
        kept = a.kept ∙ same;
        fewest = omega (arith, fewest, less);
        most = omega (arith, most, more, below);
        worked = interval_raised (checkpoints old) old.worked end (checkpoints now) now.worked start new.worked up s d a.worked;
      })
