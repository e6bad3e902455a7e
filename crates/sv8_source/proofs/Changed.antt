-- The words that differ, piece by piece.
use Rattle.std.proofs.Common.{◌≡◌, ◌∙◌, ℕ, zero, suc, ◌+◌, ◌-◌, ◌*◌, ◌≤◌, ◌<◌, ◌==◌, List, [], ◌∷◌, ◌++◌, Bool, true, false, cond, refl, sym, ap, add-zero, zero-add, eq-eqb, append_assoc, append-nil, arith}
use Rattle.sv8_source.specs.declared.image.Change.{Change}
use Rattle.sv8_source.specs.Listing.{ListedLine}
use Rattle.sv8_source.specs.Image.{byte_at, word_at, changed, change_at}

-- one word, then the others
pub changed_step : (old new : List ListedLine) (k n : ℕ) → changed old new k (suc n) ≡ changed old new k 1 ++ changed old new (k + 1) n
unfolding changed
changed_step old new k n = go (word_at old (4 * k) == word_at new (4 * k))
  where
    go : (b : Bool) → cond b (changed old new (k + 1) n) (change_at old new (4 * k) ∷ changed old new (k + 1) n) ≡ cond b [] (change_at old new (4 * k) ∷ []) ++ changed old new (k + 1) n
    go true = refl
    go false = refl

pub changed_more : (old new : List ListedLine) (done next whole : List Change) (k count : ℕ) → k < count → done ++ changed old new k (count - k) ≡ whole → next ≡ done ++ changed old new k 1 → next ++ changed old new (k + 1) (count - (k + 1)) ≡ whole
changed_more old new done next whole k count low h e =
    let f : count - k ≡ suc (count - (k + 1)) = omega arith in
    rw e (append_assoc done (changed old new k 1) (changed old new (k + 1) (count - (k + 1)))
    ∙ ap (λ x. done ++ x) (sym (changed_step old new k (count - (k + 1)))) ∙ rw (← f) h)

pub changed_all : (old new : List ListedLine) (done whole : List Change) (k count : ℕ) → count ≤ k → done ++ changed old new k (count - k) ≡ whole → done ≡ whole
unfolding changed
changed_all old new done whole k count high h =
    let f : count - k ≡ 0 = omega arith in
    let g = rw f at h in
    sym (append-nil done) ∙ g

same_word : (old new : List ListedLine) (a : ℕ) → ((b : ℕ) → a ≤ b → b < a + 4 → byte_at old b ≡ byte_at new b) → word_at old a ≡ word_at new a
unfolding word_at
same_word old new a h = rw (h a (omega arith) (omega arith), h (a + 1) (omega arith) (omega arith), h (a + 2) (omega arith) (omega arith), h (a + 3) (omega arith) (omega arith))

pub unchanged : (old new : List ListedLine) (k n : ℕ) → word_at old (4 * k) ≡ word_at new (4 * k) → changed old new k (suc n) ≡ changed old new (k + 1) n
unfolding changed
unchanged old new k n h = rw (eq-eqb (word_at old (4 * k)) (word_at new (4 * k)) h) refl

pub changed_skip : (old new : List ListedLine) (k m n : ℕ) → ((b : ℕ) → 4 * k ≤ b → b < 4 * (k + m) → byte_at old b ≡ byte_at new b) → changed old new k (m + n) ≡ changed old new (k + m) n
changed_skip old new k zero n h = rw (zero-add, add-zero) refl
changed_skip old new k (suc m) n h =
    let e : suc m + n ≡ suc (m + n) = omega arith in
    let f : k + suc m ≡ (k + 1) + m = omega arith in
    rw (e, f) (unchanged old new k (m + n) (same_word old new (4 * k) (λ b up low. h b up (omega arith)))
    ∙ changed_skip old new (k + 1) m n (λ b up low. h b (omega arith) (omega arith)))

-- words that neither places a byte in
pub skipped : (old new : List ListedLine) (k r count end_old end_new : ℕ) → k ≤ r → r ≤ count → 4 * r ≤ end_old → 4 * r ≤ end_new
    → ((b : ℕ) → 4 * k ≤ b → b < end_old → byte_at old b ≡ 0) → ((b : ℕ) → 4 * k ≤ b → b < end_new → byte_at new b ≡ 0)
    → changed old new k (count - k) ≡ changed old new r (count - r)
skipped old new k r count end_old end_new low high o n zo zn =
    let e : count - k ≡ (r - k) + (count - r) = omega arith in
    let f : k + (r - k) ≡ r = omega arith in
    rw e (changed_skip old new k (r - k) (count - r) (λ b up below. zo b up (omega arith) ∙ sym (zn b up (omega arith))) ∙ rw f refl)
