-- Flags of steps that may meet a condition, and plans.
use Rattle.std.proofs.Common.{◌≡◌, ◌∙◌, ℕ, suc, ◌+◌, ◌%◌, ◌<◌, ◌≤◌, Bool, false, List, length, get_or, Some, sym, ap, arith}
use Rattle.std.proofs.Math.Nat.{suc-mod, mod_self, mod-eq_of_lt}
use Rattle.std.proofs.lemmas.Bool.{or_parts, MatchBool-at_false}
use Rattle.sv8_phys.specs.Memory.{ram_size}
use Rattle.sv8_notes.specs.Flags.{IsFlagged, IsFlaggedUnless}
use Rattle.sv8_workbench.specs.Kept.{Kept}
use Rattle.sv8_workbench.specs.Shown.{machine_state}
use Rattle.sv8_search.specs.Touching.{IsUntouched, IsUnreached}
use Rattle.sv8_bench.specs.Workbench.{Workbench, checkpoints}
use Rattle.sv8_watch.specs.declared.condition.Condition.{Condition}
use Rattle.sv8_watch.specs.declared.condition.Condition.TheVariants.{Pc}
use Rattle.sv8_watch.specs.declared.span.Span.{Span}
use Rattle.sv8_watch.specs.Touching.{span_of, kind_of}
use Rattle.sv8_watch.proofs.Sparing.{spared_steps_miss, spared_pcs_miss}
use Rattle.sv8_search.specs.Search.{is_wanted, meets_at}
use Rattle.sv8_search.specs.Plans.{HasFlagsOf, IsPlan}

-- ---- the flags of a condition

module _ (kept : Kept) (c : Condition) (from : ℕ) (old new : List Bool) where
  -- those of the steps of a test that it meets nowhere else
  pub flags_of_test : (f : ℕ → Bool) → IsFlagged f old new → ((i : ℕ) → i < length old → f i ≡ false → meets_at kept c (from + i) ≡ false) → HasFlagsOf kept c from old new
  flags_of_test f h missed = record {
    count = h.count;
    missed = λ i inside unset.
        let both = or_parts (get_or old i false) (f i) (sym (h.flags i inside) ∙ unset) in
        (both.0, missed i inside both.1);
  }

  -- those of all steps but of spared ones, where a step whose flag is not set does not meet it
  pub flags_left : (Spared : ℕ → Type 0) → IsFlaggedUnless Spared old new → ((i : ℕ) → i < length old → get_or new i false ≡ false → meets_at kept c (from + i) ≡ false) → HasFlagsOf kept c from old new
  flags_left Spared h missed = record {
    count = h.count;
    missed = λ i inside unset. ((MatchBool-at_false _ _ unset (h.flags i inside)).0, missed i inside unset);
  }

  -- .. where no spared step does
  pub flags_unless : (Spared : ℕ → Type 0) → IsFlaggedUnless Spared old new → ((i : ℕ) → i < length old → Spared i → meets_at kept c (from + i) ≡ false) → HasFlagsOf kept c from old new
  flags_unless Spared h missed = flags_left Spared h (λ i inside unset. missed i inside (MatchBool-at_false _ _ unset (h.flags i inside)).1)

-- ---- steps that are spared

module _ (k : ℕ) (w : Workbench) (n : ℕ) where
  pub untouched_missed : (c : Condition) (span : Span) → w.kept.pages ≤ 65536 → span_of c ≡ Some span → span.address + span.count ≤ ram_size w.kept.pages
      → IsUntouched (kind_of c) k w span.address span.count n (n + 1) → meets_at w.kept c n ≡ false
  untouched_missed c span few is inside h =
      let kept = w.kept in
      spared_steps_miss kept.windows kept.pages kept.timeline n (machine_state kept n) c span few is inside (h.spared n (omega arith) (omega arith))

  pub unreached_missed : (address : ℕ) → address + 4 ≤ ram_size w.kept.pages → IsUnreached k w address n (n + 1) → meets_at w.kept (Pc address) n ≡ false
  unreached_missed address inside h =
      let kept = w.kept in
      spared_pcs_miss kept.windows kept.pages kept.timeline n (machine_state kept n) address (h.untranslated n (omega arith) (omega arith)) inside
      (h.untouched.spared n (omega arith) (omega arith))

-- ---- multiples

-- what is left of the next number by division: nothing, or one more
module _ (n m : ℕ) where
  one : n + 1 ≡ suc n
  one = omega arith

  pub left_none : n % m + 1 ≡ m → (n + 1) % m ≡ 0
  left_none e =
      let more : suc (n % m) ≡ m = omega (arith, e) in
      ap (λ x. x % m) one ∙ suc-mod n m ∙ ap (λ x. x % m) more ∙ mod_self m

  pub left_more : n % m + 1 < m → (n + 1) % m ≡ n % m + 1
  left_more less =
      let more : suc (n % m) ≡ n % m + 1 = omega arith in
      ap (λ x. x % m) one ∙ suc-mod n m ∙ ap (λ x. x % m) more ∙ mod-eq_of_lt less

-- ---- plans

-- a plan stays one while steps are made
pub plan_stays : (k : ℕ) (old new : Workbench) (cs : List Condition) (start : ℕ) (flags : List Bool) → new.kept ≡ old.kept → checkpoints old ≤ checkpoints new
    → IsPlan k old cs start flags → IsPlan k new cs start flags
plan_stays k old new cs start flags same more plan = record {
  recorded = λ i inside unset. let most = plan.recorded i inside unset in omega (arith, most, more);
  missed = λ i inside unset. ap (λ (kept : Kept). is_wanted kept cs (start + i)) same ∙ plan.missed i inside unset;
}
