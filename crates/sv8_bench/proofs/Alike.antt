-- WHY THE PROCESSORS ARE ALIKE up to what stays recorded: no step below it reads what an edit has changed, so its states are the old ones with other cells, and
-- a cell is no part of the processor.
use Rattle.std.proofs.Common.{◌≡◌, ◌∙◌, ℕ, suc, ◌*◌, ◌/◌, ◌<◌, ◌≤◌, Bool, true, false, cond, List, [], ◌∷◌, Option, Some, None, refl, sym, ap, arith, subst, mul_comm, div-mul-le_self}
use Rattle.std.proofs.lemmas.Bool.{true≢false}
use Rattle.sv8_model.specs.Cells.{Cell, Value}
use Rattle.sv8_history.specs.Machine.{Run, state_at, footprint_at, writes_of}
use Rattle.sv8_history.specs.Changes.{Change, shown_from, IsEdited, ArePlanned, is_live, value_of, with_changes}
use Rattle.sv8_history.specs.Reads.{IsLeast, reads_edit, IsFirstRead, least_below}
use Rattle.sv8_history.specs.Input.{IsRefed, takes_edit, IsFirstTake}
use Rattle.sv8_history.specs.Laws.{IsRightCount}
use Rattle.sv8_history.proofs.Common.{Found, found}
use Rattle.sv8_history.proofs.States.{unread_agrees}
use Rattle.sv8_history.proofs.Input.{untaken_agrees}
use Rattle.sv8_time.specs.Schedule.{Schedule}
use Rattle.sv8_source.specs.Text.{Text}
use Rattle.sv8_cpu.specs.State.{State}
use Rattle.sv8_cpu.specs.Sameness.{IsSameProcessor}
use Rattle.sv8_cpu.specs.Recorded.{machine, put, AreEvents}
use Rattle.sv8_cpu.proofs.Common.{framed}
use Rattle.sv8_reset.specs.Reset.{run_of}
use Rattle.sv8_reset.proofs.Runs.{state_is}
use Rattle.sv8_workbench.specs.Shown.{machine_state}

-- ---- processors

same_then : (r s t : State) → IsSameProcessor r s → IsSameProcessor s t → IsSameProcessor r t
same_then r s t h i = record { processor = h.processor ∙ i.processor; mmu = h.mmu ∙ i.mmu }

same_as : (s t : State) → s ≡ t → IsSameProcessor s t
same_as s t e = record { processor = ap (λ (x : State). x.processor) e; mmu = ap (λ (x : State). x.mmu) e }

-- ---- steps below what stays recorded

-- none of them is one by which the record was cut
none_below : (k old new : ℕ) (f : ℕ → Bool) → IsRightCount k old new (IsLeast f) → (n : ℕ) → n < k * new → f n ≡ false
none_below k old new f right n below = go (f n) refl where
  go : (b : Bool) → f n ≡ b → f n ≡ false
  go false e = e
  go true e = absurd (cut (least_below (suc n) f) (found (suc n) f)) where
    cut : (o : Option ℕ) → Found (suc n) f o → ⊥
    cut None h = true≢false (sym e ∙ h n (omega arith))
    cut (Some s) h =
        let at = right.at_first s h.1 in
        let low : k * (s / k) ≤ s = (let p = div-mul-le_self s k in rw (mul_comm k (s / k)) p) in
        omega (arith, h.0, at, low, below)

-- ---- runs

module _ (windows pages : ℕ) where
  put_stays : (b : Bool) (a : Cell) (v : Value) (s : State) → IsSameProcessor s (cond b (put a v s) s)
  put_stays true a v s = record { processor = refl; mmu = refl }
  put_stays false a v s = record { processor = refl; mmu = refl }

  changes_stay : (run : Run (machine windows pages)) (cs : List (Change (machine windows pages))) (n : ℕ) (s : State) → IsSameProcessor s (with_changes (machine windows pages) run cs n s)
  changes_stay run [] n s = record { processor = refl; mmu = refl }
  changes_stay run (c ∷ cs) n s =
      let live = is_live (writes_of (machine windows pages) (footprint_at (machine windows pages) run) c.cell) c.from (shown_from (machine windows pages) c) c.to n in
      let next = cond live (put c.cell (value_of (machine windows pages) run c) s) s in
      same_then s next (with_changes (machine windows pages) run cs n next) (put_stays live c.cell (value_of (machine windows pages) run c) s) (changes_stay run cs n next)

  module _ (k before after : ℕ) (old new : Run (machine windows pages)) where
    -- cells are edited
    pub unread_alike : (cs : List (Change (machine windows pages))) → IsRightCount k before after (IsFirstRead (machine windows pages) old cs)
        → ArePlanned (machine windows pages) old (k * after) cs → IsEdited (machine windows pages) cs old new → (n : ℕ) → n ≤ k * after
        → IsSameProcessor (state_at (machine windows pages) old n) (state_at (machine windows pages) new n)
    unread_alike cs right planned edited n l =
        let unread = none_below k before after (reads_edit (machine windows pages) (footprint_at (machine windows pages) old) cs) right in
        let e = (unread_agrees (machine windows pages) (framed windows pages) old new cs (k * after) planned edited unread).0 n l in
        subst (λ (s : State). IsSameProcessor (state_at (machine windows pages) old n) s) (sym e) (changes_stay old cs n (state_at (machine windows pages) old n))

    -- the input is edited
    pub untaken_alike : (step : ℕ) → IsRightCount k before after (IsFirstTake (machine windows pages) old step) → IsRefed (machine windows pages) step old new
        → (n : ℕ) → n ≤ k * after → IsSameProcessor (state_at (machine windows pages) old n) (state_at (machine windows pages) new n)
    untaken_alike step right refed n l =
        let untaken = none_below k before after (takes_edit (machine windows pages) (footprint_at (machine windows pages) old) step) right in
        let e = (untaken_agrees (machine windows pages) (framed windows pages) old new step (k * after) refed untaken).0 n l in
        same_as (state_at (machine windows pages) old n) (state_at (machine windows pages) new n) (sym e)

  -- so it is of what two workbenches keep
  pub kept_alike : (source source' : Text) (s s' : Schedule) (valid : AreEvents pages s) (valid' : AreEvents pages s') (n : ℕ)
      → IsSameProcessor (state_at (machine windows pages) (run_of windows pages source s valid) n) (state_at (machine windows pages) (run_of windows pages source' s' valid') n)
      → IsSameProcessor (machine_state (record { windows = windows; pages = pages; source = source; timeline = s }) n)
      (machine_state (record { windows = windows; pages = pages; source = source'; timeline = s' }) n)
  kept_alike source source' s s' valid valid' n h =
      same_then _ _ _ (same_as _ _ (sym (state_is windows pages source s valid n))) (same_then _ _ _ h (same_as _ _ (state_is windows pages source' s' valid' n)))
