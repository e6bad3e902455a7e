-- Lemmas on answers to questions about one workbench.
use Rattle.std.proofs.Common.{◌≡◌, ℕ, ◌+◌, ◌-◌, ◌<◌, ◌≤◌, ◌⊎◌, Bool, true, false, ◌&&◌, leb, ltb, List, [], take, drop, refl, inl, inr, arith, tests}
use Rattle.sv8_time.specs.Schedule.{Schedule}
use Rattle.sv8_source.specs.Listing.{ListedLine}
use Rattle.sv8_commands.specs.Text.{numbered_text}
use Rattle.sv8_answers.specs.Text.{listing_line}
use Rattle.sv8_monitor.specs.Events.{events_text}

-- ---- events

-- no step is above its end
pub events-none : (s : Schedule) (from to : ℕ) → to ≤ from → events_text s from to ≡ []
events-none s from to h = let none : to - from ≡ 0 = omega arith in rw none refl

-- ---- lines of the listing

-- what the test of a range of lines says
pub lines-there : (first last count : ℕ) → (leb 1 first && leb first (count + 1) && leb first (last + 1) && leb last count) ≡ true → (1 ≤ first) × (first ≤ last + 1) × (last ≤ count)
lines-there first last count h = (search (arith, tests), search (arith, tests), search (arith, tests))

-- lines by their places from 0 on
pub lines-by-places : (first last : ℕ) (lines : List ListedLine) → 1 ≤ first
    → numbered_text listing_line (first - 1 + 1) (take (last - (first - 1)) (drop (first - 1) lines)) ≡ numbered_text listing_line first (take (last + 1 - first) (drop (first - 1) lines))
lines-by-places first last lines h =
    let number : first - 1 + 1 ≡ first = omega arith in
    let count : last - (first - 1) ≡ last + 1 - first = omega arith in
    rw (number, count) refl

-- ---- what holds whichever way a search went

-- one that told steps
pub told-either-way : (P : Type 0) (from to most : ℕ) → ((from ≡ to) ⊎ (most ≡ 0) → P) → (from < to → 0 < most → P) → (to < from → 0 < most → P) → P
told-either-way P from to most idle risen fallen = go (ltb 0 most) refl (ltb from to) refl (ltb to from) refl where
  go : (some : Bool) → ltb 0 most ≡ some → (rises : Bool) → ltb from to ≡ rises → (falls : Bool) → ltb to from ≡ falls → P
  go false none rises up falls down = let no : most ≡ 0 = search (arith, tests) in idle (inr no)
  go true any true up falls down = risen (search (arith, tests)) (search (arith, tests))
  go true any false up true down = fallen (search (arith, tests)) (search (arith, tests))
  go true any false up false down =
      let low : to ≤ from = search (arith, tests) in
      let high : from ≤ to = search (arith, tests) in
      idle (inl (omega arith))

-- one that was refused
pub refused-either-way : (P : Type 0) (from to : ℕ) → (from ≤ to → P) → (to < from → P) → P
refused-either-way P from to rises falls = go (ltb to from) refl where
  go : (b : Bool) → ltb to from ≡ b → P
  go true e = falls (search (arith, tests))
  go false e = rises (search (arith, tests))
