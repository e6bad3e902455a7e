-- Spans of steps, and the next checkpoint.
use Rattle.std.proofs.Common.{◌≡◌, ℕ, zero, suc, ◌+◌, ◌*◌, ◌/◌, ◌<◌, ◌≤◌, Bool, false, ◌&&◌, ◌||◌, leb, refl, arith, inl, inr, ◌⊎◌, le-leb, div-mul-le_self, div-lt_iff_lt-mul, mul_comm, mul-le-mul_left}
use Rattle.std.proofs.Math.Nat.{div-eq_of_lt-le}
use Rattle.std.proofs.lemmas.Bool.{cases_lt, or_parts, and_right, lt-leb}
use Rattle.sv8_history.specs.Trace.{some_from, next_checkpoint}

-- where no step of a span is in a set
pub none_at : (t c : ℕ) (f : ℕ → Bool) → some_from t c f ≡ false → (n : ℕ) → t ≤ n → n < c → f n ≡ false
none_at t zero f h n t-n n-c = absurd (omega arith)
none_at t (suc c) f h n t-n n-c = go (none_at t c f) (or_parts (some_from t c f) (leb t c && f c) h) (cases_lt n c)
  where
    go : (some_from t c f ≡ false → (n : ℕ) → t ≤ n → n < c → f n ≡ false) → (some_from t c f ≡ false) × ((leb t c && f c) ≡ false)
        → (n < c) ⊎ (c ≤ n) → f n ≡ false
    go rest p (inl k) = rest p.0 n t-n k
    go rest p (inr k) =
        let e : n ≡ c = omega arith in
        let q = p.1 in
        let w = rw (le-leb t c (omega arith)) at q in
        rw e w

pub none_from : (t c : ℕ) (f : ℕ → Bool) → ((n : ℕ) → t ≤ n → n < c → f n ≡ false) → some_from t c f ≡ false
none_from t zero f h = refl
none_from t (suc c) f h = or_from_false (some_from t c f) (leb t c && f c) (none_from t c f (λ n a b. h n a (omega arith))) (go (cases_lt c t))
  where
    or_from_false : (x y : Bool) → x ≡ false → y ≡ false → (x || y) ≡ false
    or_from_false x y p q = rw (p, q)

    go : (c < t) ⊎ (t ≤ c) → (leb t c && f c) ≡ false
    go (inl k) = rw (lt-leb t c k)
    go (inr k) = and_right (leb t c) (f c) (h c k (omega arith))

pub some_from-like : (t c : ℕ) (f g : ℕ → Bool) → ((n : ℕ) → n < c → f n ≡ g n) → some_from t c f ≡ some_from t c g
some_from-like t zero f g h = refl
some_from-like t (suc c) f g h = let p = some_from-like t c f g (λ n k. h n (omega arith)) in let q = h c (omega arith) in rw (p, q)

-- the next checkpoint
pub next_above : (k n : ℕ) → 0 < k → n < next_checkpoint k n
next_above k n h = omega arith

pub next_of_recorded : (k n c : ℕ) → 0 < k → n < k * c → next_checkpoint k n ≤ k * c
next_of_recorded k n c h l =
    let q : n / k < c = (div-lt_iff_lt-mul h).1 (rw (mul_comm c k) l) in
    let w : k * (n / k + 1) ≤ k * c = mul-le-mul_left k (omega arith) in
    omega (arith, w)

pub next_of_point : (k n i : ℕ) → 0 < k → n < k * i → next_checkpoint k n ≤ k * i
next_of_point k n i h l = next_of_recorded k n i h l

-- a later step before the next checkpoint has the same next checkpoint
pub next_same : (k n p : ℕ) → 0 < k → n ≤ p → p < next_checkpoint k n → next_checkpoint k p ≡ next_checkpoint k n
next_same k n p h a b =
    let low = div-mul-le_self n k in
    let e : p / k ≡ n / k = div-eq_of_lt-le k (omega (arith, low)) (omega (arith, b)) in
    rw e
