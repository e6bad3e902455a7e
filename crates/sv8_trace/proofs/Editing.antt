-- What the first read of an edit leaves of a trace.
use Rattle.std.specs.Bool.{⊤}
use Rattle.std.proofs.Common.{◌≡◌, ℕ, ◌*◌, ◌/◌, ◌%◌, ◌<◌, ◌≤◌, List, [], ◌∷◌, Bool, true, not, ◌&&◌, ◌||◌, cond, leb, ltb, Option, Some, None, MatchOption, refl, sym, ◌∙◌, ap, subst, arith, inl, inr, ◌⊎◌, lt-ltb, le-ltb, length, ◌-◌, get_or, take, take_all, drop, le-div_iff_mul-le, mul_comm, div-mul-le_self}
use Rattle.std.proofs.lemmas.Bool.{cases_lt}
use Rattle.std.proofs.lemmas.List.{get_or_past}
use Rattle.std.proofs.Math.Nat.{mul-mod_right}
use Rattle.sv8_model.specs.Cells.{Cell}
use Rattle.sv8_history.specs.Trace.{some_from, Near}
use Rattle.sv8_history.specs.Reads.{earlier, least_below, first_of_change, first_of_each}
use Rattle.sv8_history.specs.Patches.{count_after, cut}
use Rattle.sv8_history.proofs.Common.{Found, found}
use Rattle.sv8_notes.specs.Steps.{has_word}
use Rattle.sv8_notes.specs.declared.cell.Cell as code
use Rattle.sv8_notes.specs.declared.cell.Cell.TheVariants as cell
use Rattle.sv8_cpu.specs.Recorded.{machine}
use Rattle.sv8_notes.specs.declared.patch.Patch.{Patch}
use Rattle.sv8_cpu.specs.Patches.{change_of, changes_of}
use Rattle.sv8_trace.specs.Patch.{AreOfOneWord, AreReadAlike, BeginAlike}
use Rattle.sv8_trace.specs.Recording.{Recording, no_interval, trace_of}

-- the search finds a step below its end
pub below_end : (c : ℕ) (f : ℕ → Bool) (o : Option ℕ) → o ≡ least_below c f → MatchOption o ⊤ (λ s. s < c)
below_end c f o e = rw e (go (least_below c f) (found c f))
  where
    go : (o : Option ℕ) → Found c f o → MatchOption o ⊤ (λ s. s < c)
    go None h = tt
    go (Some s) h = h.0

-- what is left is not more than there was
pub left_below : (k old : ℕ) (o : Option ℕ) → MatchOption o ⊤ (λ s. s < k * old) → k * count_after k old o ≤ k * old
left_below k old None h = omega arith
left_below k old (Some s) h = let low : k * (s / k) ≤ s = (let p = div-mul-le_self s k in rw (mul_comm k (s / k)) p) in omega (arith, low, h)

-- the earlier of three
pub earlier_assoc : (o p q : Option ℕ) → earlier (earlier o p) q ≡ earlier o (earlier p q)
earlier_assoc None p q = refl
earlier_assoc (Some s) None q = refl
earlier_assoc (Some s) (Some r) None = refl
earlier_assoc (Some s) (Some r) (Some t) = ap Some (omega arith)

-- whole intervals
pub whole_steps : (k x n : ℕ) → x ≡ k * n → x % k ≡ 0
whole_steps k x n e = rw e (mul-mod_right k n)

-- a step is as early as itself
earlier_same : (o p : Option ℕ) → earlier o (earlier o p) ≡ earlier o p
earlier_same None p = refl
earlier_same (Some s) None = ap Some (omega arith)
earlier_same (Some s) (Some r) = ap Some (omega arith)

-- the patches behind the first one
rest_of : (p : Patch) (ps : List Patch) → take (length (p ∷ ps) - 1) (drop 1 (p ∷ ps)) ≡ ps
rest_of p ps = let n : length (p ∷ ps) - 1 ≡ length ps = omega arith in ap (λ m. take m (drop 1 (p ∷ ps))) n ∙ take_all (length ps) ps (omega arith)

module _ (windows pages k : ℕ) (r : Recording) where
  abbrev read_of : Patch → Option ℕ
  read_of p = first_of_change (machine windows pages) k (trace_of windows pages k r) (change_of windows pages p)

  abbrev reads_of_all : List Patch → Option ℕ
  reads_of_all ps = first_of_each (machine windows pages) k (trace_of windows pages k r) (changes_of windows pages ps)

  -- one search more
  pub read_more : (o p q x : Option ℕ) (rest : List Patch) (d : Patch) → 1 ≤ length rest → p ≡ read_of (get_or rest 0 d) → q ≡ earlier o p
      → earlier o (reads_of_all rest) ≡ x → earlier q (reads_of_all (take (length rest - 1) (drop 1 rest))) ≡ x
  read_more o p q x [] d some here next whole = absurd (omega (arith, some))
  read_more o p q x (patch ∷ after) d some here next whole =
      subst (λ ys. earlier q (reads_of_all ys) ≡ x) (sym (rest_of patch after)) (rw (next, here) (earlier_assoc o (read_of patch) (reads_of_all after) ∙ whole))

  -- the first step that reads a word, from one step on and below another
  abbrev word_read : ℕ → ℕ → ℕ → Option ℕ
  word_read word from to =
      least_below (k * length r.intervals) (λ n. leb from n && ltb n to
      && (has_word (get_or r.intervals (n / k) no_interval).notes.fetches (4 * word) (n % k) || has_word (get_or r.intervals (n / k) no_interval).notes.reads (4 * word) (n % k))
      && not (true && some_from from n (λ i. has_word (get_or r.intervals (i / k) no_interval).notes.writes (4 * word) (i % k))))

  -- patches that are read alike are read first by the same step
  same_read : (p q : Patch) → AreReadAlike p q → read_of p ≡ read_of q
  same_read p q h = go p.cell q.cell refl refl h.word
    where
      go : (c d : code.Cell) → p.cell ≡ c → q.cell ≡ d → AreOfOneWord c d → read_of p ≡ read_of q
      go (cell.Byte a) (cell.Byte b) e f w = rw (e, f, h.from, h.to) (ap (λ x. word_read x q.from q.to) w)
      go (cell.Byte a) (cell.Level b) e f w = absurd w
      go (cell.Level a) d e f w = absurd w

  -- the next patch is searched for the one before it
  pub read_next : (o x : Option ℕ) (rest : List Patch) → BeginAlike rest → earlier o (reads_of_all rest) ≡ x → earlier o (reads_of_all (take (length rest - 1) (drop 1 rest))) ≡ x
  read_next o x [] alike whole = absurd alike
  read_next o x (patch ∷ []) alike whole = absurd alike
  read_next o x (patch ∷ next ∷ later) alike whole =
      let e = same_read patch next alike in
      subst (λ ys. earlier o (reads_of_all ys) ≡ x) (sym (rest_of patch (next ∷ later))) (ap (earlier o) (sym (earlier_same (read_of next) (reads_of_all later)) ∙ ap (λ y. earlier y (earlier (read_of next) (reads_of_all later))) (sym e)) ∙ whole)

-- a cut that leaves all
pub uncut : (windows pages k : ℕ) → 0 < k → (r : Recording) → Near (machine windows pages) k (cut (machine windows pages) k (trace_of windows pages k r) (length r.intervals)) (trace_of windows pages k r)
uncut windows pages k pos r = record {
  count = refl;
  points = λ i h. refl;
  notes = refl;
  kept = λ n c. go n c (cases_lt n (k * length r.intervals));
}
  where
    go : (n : ℕ) (c : Cell) → (n < k * length r.intervals) ⊎ (k * length r.intervals ≤ n)
        → cond (ltb n (k * length r.intervals)) ((trace_of windows pages k r).kept n c) None ≡ (trace_of windows pages k r).kept n c
    go n c (inl h) = rw (lt-ltb n (k * length r.intervals) h)
    go n c (inr h) =
        let w : length r.intervals ≤ n / k = (le-div_iff_mul-le pos).1 (rw (mul_comm (length r.intervals) k) h) in
        rw (le-ltb n (k * length r.intervals) h, get_or_past r.intervals (n / k) no_interval w)
