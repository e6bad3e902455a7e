-- Recorded steps that touch no word of some bytes, by the notes.
use Rattle.std.proofs.Common.{◌≡◌, ℕ, ◌+◌, ◌*◌, ◌/◌, ◌%◌, ◌≤◌, ◌<◌, Bool, true, false, MatchBool, get_or, refl, sym, ◌∙◌, subst, arith}
use Rattle.std.specs.Prelude.{◌||◌}
use Rattle.std.proofs.Math.Nat.{div-add-mod, mod-lt}
use Rattle.std.proofs.lemmas.Bool.{true≢false}
use Rattle.sv8_model.specs.declared.touch.TouchKind.{TouchKind}
use Rattle.sv8_model.specs.declared.touch.TouchKind.TheVariants.{Any, Data}
use Rattle.sv8_model.specs.Outside.{word_address}
use Rattle.sv8_model.specs.Cells.{ram_byte}
use Rattle.sv8_notes.specs.declared.cell.Cell.TheVariants.{Byte}
use Rattle.sv8_notes.specs.declared.notes.Sought.TheVariants.{Touch}
use Rattle.sv8_notes.specs.Steps.{Steps, has_word, footprint_in}
use Rattle.sv8_notes.specs.Sought.{is_met}
use Rattle.sv8_notes.specs.Touching.{touches_any, touches_as}
use Rattle.sv8_trace.specs.Recording.{Recording, no_interval, trace_of}
use Rattle.sv8_evidence.specs.Touching.{NoneTouches}
use Rattle.sv8_evidence.proofs.NotesInRange.{none_in, some_in}
use Rattle.sv8_trace.proofs.Searching.{at, none_here}

-- ---- the intervals

module _ (kind : TouchKind) (windows pages k : ℕ) (pos : 0 < k) (r : Recording) (address count low last : ℕ) (word : low ≡ word_address address) (some : 1 ≤ count) (last_is : last + 1 ≡ address + count)
    (start stop : ℕ) (notes : Steps) (is : notes ≡ (get_or r.intervals (start / k) no_interval).notes) (few : stop ≤ k) (from : ℕ) where
  -- one more interval in which none of the bytes is touched
  pub none_so_far : NoneTouches kind windows pages k r address count from start → touches_any kind low last (start % k) stop notes ≡ false
      → NoneTouches kind windows pages k r address count from (k * (start / k) + stop)
  none_so_far before h n i a b c d =
      none_here windows pages k pos r (λ f. touches_as kind f (ram_byte i)) start stop notes is few from (λ m x y. before m i x y c d)
      (λ j x y. none_in kind address count low last (start % k) stop word some last_is notes j i h x y c d) n a b

  -- one in which one is
  pub some_there : (end : ℕ) → from ≤ start → k * (start / k) + stop ≤ end → touches_any kind low last (start % k) stop notes ≡ true → NoneTouches kind windows pages k r address count from end → ⊥
  some_there end le fits h none =
      let it = some_in kind address count low last (start % k) stop word some last_is notes h in
      let split = div-add-mod start k in
      let behind = it.behind in
      let before = it.before in
      let here = at windows pages k pos r (λ f. touches_as kind f (ram_byte it.byte)) (start / k) it.step notes (omega (arith, before, few)) is ∙ it.met in
      true≢false (sym here ∙ none (k * (start / k) + it.step) it.byte (omega (arith, le, split, behind)) (omega (arith, fits, before)) it.above it.below)

-- ---- one step

module _ (kind : TouchKind) (windows pages k : ℕ) (pos : 0 < k) (r : Recording) (address count low last : ℕ) (word : low ≡ word_address address) (some : 1 ≤ count) (last_is : last + 1 ≡ address + count)
    (n : ℕ) (notes : Steps) (is : notes ≡ (get_or r.intervals (n / k) no_interval).notes) where
  -- the notes of its interval say whether it touches one of the bytes
  pub touched_step : MatchBool (touches_any kind low last (n % k) (n % k + 1) notes) (NoneTouches kind windows pages k r address count n (n + 1) → ⊥)
      (NoneTouches kind windows pages k r address count n (n + 1))
  touched_step = by_case (touches_any kind low last (n % k) (n % k + 1) notes) refl
    where
      few : n % k + 1 ≤ k
      few = omega (arith, mod-lt n pos)

      whole : k * (n / k) + (n % k + 1) ≡ n + 1
      whole = omega (arith, div-add-mod n k)

      by_case : (b : Bool) → touches_any kind low last (n % k) (n % k + 1) notes ≡ b → MatchBool b (NoneTouches kind windows pages k r address count n (n + 1) → ⊥)
          (NoneTouches kind windows pages k r address count n (n + 1))
      by_case true e =
          some_there kind windows pages k pos r address count low last word some last_is n (n % k + 1) notes is few n (n + 1) (omega arith) (omega (arith, whole)) e
      by_case false e =
          subst (λ end. NoneTouches kind windows pages k r address count n end) whole
          (none_so_far kind windows pages k pos r address count low last word some last_is n (n % k + 1) notes is few n (λ m i low below. absurd (omega (arith, low, below))) e)

-- ---- the marks of words

-- what is not touched at all is not touched as data
no_data : (f r w : Bool) → ((f || r) || w) ≡ false → (r || w) ≡ false
no_data true r w h = absurd (true≢false h)
no_data false r w h = h

narrow : (kind : TouchKind) (s : Steps) (j i : ℕ) → ((has_word s.fetches (word_address i) j || has_word s.reads (word_address i) j) || has_word s.writes (word_address i) j) ≡ false
    → touches_as kind (footprint_in s j) (ram_byte i) ≡ false
narrow Any s j i h = h
narrow Data s j i h = no_data (has_word s.fetches (word_address i) j) (has_word s.reads (word_address i) j) (has_word s.writes (word_address i) j) h

-- the bytes of a word are touched alike
pub same_word : (kind : TouchKind) (windows pages k : ℕ) (r : Recording) (n i : ℕ) → is_met (Touch (Byte (4 * (i / 4)))) ((trace_of windows pages k r).notes n) ≡ false
    → touches_as kind ((trace_of windows pages k r).notes n) (ram_byte i) ≡ false
same_word kind windows pages k r n i h =
    let s = (get_or r.intervals (n / k) no_interval).notes in
    let e : 4 * (i / 4) / 4 ≡ i / 4 = omega arith in
    narrow kind s (n % k) i (subst (λ x. ((has_word s.fetches (4 * x) (n % k) || has_word s.reads (4 * x) (n % k)) || has_word s.writes (4 * x) (n % k)) ≡ false) e h)
