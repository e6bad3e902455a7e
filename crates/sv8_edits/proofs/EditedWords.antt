-- An edit of a poked word: its four bytes, one after the other.
use Rattle.std.proofs.Common.{◌≡◌, ◌≢◌, ◌∙◌, ℕ, ◌+◌, ◌/◌, ◌%◌, ◌^◌, ◌<◌, ◌≤◌, Bool, true, false, List, [], ◌∷◌, ◌++◌, option_map, refl, sym, ap, arith}
use Rattle.std.specs.Prelude.{if◌then◌else◌}
use Rattle.std.proofs.lemmas.Bool.Decides.{nat_tests}
use Rattle.sv8_model.specs.Cells.{ram_byte, byte}
use Rattle.sv8_history.specs.Changes.{Poke, Clear, Change, IsEdited, IsApart, ArePlanned}
use Rattle.sv8_time.specs.Order.{Rising}
use Rattle.sv8_time.specs.Schedule.{Schedule, poke_of, poke_before, is_poke_at, has_poke, with_poke_byte, without_poke_byte, with_poke, without_poke}
use Rattle.sv8_time.proofs.Common.{rising_placed, key_order}
use Rattle.sv8_phys.specs.Memory.{ram_size}
use Rattle.sv8_source.specs.Text.{Text}
use Rattle.sv8_cpu.specs.Recorded.{AreEvents, machine}
use Rattle.sv8_reset.specs.Reset.{run_of}
use Rattle.sv8_edits.specs.Changes.{poked_with, stands, next_poke, poke_byte_changes, clear_byte_changes, poke_changes, clear_changes}
use Rattle.sv8_edits.specs.EditLaws.{CanRun, Edits}
use Rattle.sv8_edits.proofs.EditedLists.{find_alike, any_alike}
use Rattle.sv8_edits.proofs.EditedRuns.{edited_then, planned_then, AreApart, are_apart_then}
use Rattle.sv8_edits.proofs.EditedPokes as one

poke_rises : (step address value : ℕ) (s : Schedule) → Rising poke_before s.pokes → Rising poke_before (with_poke_byte step address value s).pokes
poke_rises step address value s rising = rising_placed poke_before (key_order (λ p. p.step) (λ p. p.address)) (poke_of step address value) s.pokes rising

-- what another byte is poked with stays, and whether it is poked
other_stays : (windows pages : ℕ) (source : Text) (s : Schedule) (valid : AreEvents pages s) (rising : Rising poke_before s.pokes) (step address value j : ℕ) → j ≢ address
    → poked_with step j s ≡ poked_with step j (with_poke_byte step address value s)
other_stays windows pages source s valid rising step address value j other =
    ap (option_map (λ p. p.value))
    (sym (find_alike (is_poke_at step j) (with_poke_byte step address value s).pokes s.pokes (one.with_other windows pages source s valid rising step address value step j other)))

cleared_stays : (windows pages : ℕ) (source : Text) (s : Schedule) (valid : AreEvents pages s) (step address j : ℕ) → j ≢ address
    → has_poke step j s.pokes ≡ has_poke step j (without_poke_byte step address s).pokes
cleared_stays windows pages source s valid step address j other =
    sym (any_alike (is_poke_at step j) (without_poke_byte step address s).pokes s.pokes (one.without_other windows pages source s valid step address step j other))

module _ (windows pages : ℕ) (step : ℕ) (s : Schedule) where
  -- changes of different bytes are of different cells
  poke_apart : (j k v : ℕ) → j ≢ k → IsApart (machine windows pages) (ram_byte j) (poke_byte_changes windows pages step k v s)
  poke_apart j k v other = go (stands (poked_with step k s) v)
    where
      go : (b : Bool)
          → IsApart (machine windows pages) (ram_byte j) (if b then [] else (record { cell = ram_byte k; from = step; to = next_poke k step s; cause = Poke (byte v) } ∷ []))
      go true = tt
      go false = (grind (arith, nat_tests, other), tt)

  poke_all_apart : (j v : ℕ) (ds : List (Change (machine windows pages))) → IsApart (machine windows pages) (ram_byte j) ds
      → AreApart (machine windows pages) (poke_byte_changes windows pages step j v s) ds
  poke_all_apart j v ds h = go (stands (poked_with step j s) v)
    where
      go : (b : Bool)
          → AreApart (machine windows pages) (if b then [] else (record { cell = ram_byte j; from = step; to = next_poke j step s; cause = Poke (byte v) } ∷ [])) ds
      go true = tt
      go false = (h, tt)

  clear_apart : (j k : ℕ) → j ≢ k → IsApart (machine windows pages) (ram_byte j) (clear_byte_changes windows pages step k s)
  clear_apart j k other = go (has_poke step k s.pokes)
    where
      go : (b : Bool)
          → IsApart (machine windows pages) (ram_byte j) (if b then (record { cell = ram_byte k; from = step; to = next_poke k step s; cause = Clear } ∷ []) else [])
      go true = (grind (arith, nat_tests, other), tt)
      go false = tt

  clear_all_apart : (j : ℕ) (ds : List (Change (machine windows pages))) → IsApart (machine windows pages) (ram_byte j) ds
      → AreApart (machine windows pages) (clear_byte_changes windows pages step j s) ds
  clear_all_apart j ds h = go (has_poke step j s.pokes)
    where
      go : (b : Bool)
          → AreApart (machine windows pages) (if b then (record { cell = ram_byte j; from = step; to = next_poke j step s; cause = Clear } ∷ []) else []) ds
      go true = (h, tt)
      go false = tt

-- ---- four bytes are poked

module _ (windows pages : ℕ) (source : Text) (s : Schedule) (can : CanRun windows pages source s) (step address v0 v1 v2 v3 : ℕ) where
  abbrev s1 : Schedule
  s1 = with_poke_byte step address v0 s

  abbrev s2 : Schedule
  s2 = with_poke_byte step (address + 1) v1 s1

  abbrev s3 : Schedule
  s3 = with_poke_byte step (address + 2) v2 s2

  abbrev s4 : Schedule
  s4 = with_poke_byte step (address + 3) v3 s3

  rising1 : Rising poke_before s1.pokes
  rising1 = poke_rises step address v0 s can.timeline.pokes_rise

  rising2 : Rising poke_before s2.pokes
  rising2 = poke_rises step (address + 1) v1 s1 rising1

  rising3 : Rising poke_before s3.pokes
  rising3 = poke_rises step (address + 2) v2 s2 rising2

  abbrev changes : (k v : ℕ) → List (Change (machine windows pages))
  changes k v = poke_byte_changes windows pages step k v s

  record Inside : Type 0 where
    end : address + 4 ≤ ram_size pages
    below0 : v0 < 256
    below1 : v1 < 256
    below2 : v2 < 256
    below3 : v3 < 256

  module _ (inside : Inside) where
    events1 : AreEvents pages s1
    events1 = let end = inside.end in one.with_events windows pages source s can.events can.timeline.pokes_rise step address v0 (omega (arith, end)) inside.below0

    events2 : AreEvents pages s2
    events2 = let end = inside.end in one.with_events windows pages source s1 events1 rising1 step (address + 1) v1 (omega (arith, end)) inside.below1

    events3 : AreEvents pages s3
    events3 = let end = inside.end in one.with_events windows pages source s2 events2 rising2 step (address + 2) v2 (omega (arith, end)) inside.below2

    events4 : AreEvents pages s4
    events4 = let end = inside.end in one.with_events windows pages source s3 events3 rising3 step (address + 3) v3 (omega (arith, end)) inside.below3

    same1 : poked_with step (address + 1) s ≡ poked_with step (address + 1) s1
    same1 = other_stays windows pages source s can.events can.timeline.pokes_rise step address v0 (address + 1) (λ z. omega (arith, z))

    same2 : poked_with step (address + 2) s ≡ poked_with step (address + 2) s2
    same2 =
        other_stays windows pages source s can.events can.timeline.pokes_rise step address v0 (address + 2) (λ z. omega (arith, z))
        ∙ other_stays windows pages source s1 events1 rising1 step (address + 1) v1 (address + 2) (λ z. omega (arith, z))

    same3 : poked_with step (address + 3) s ≡ poked_with step (address + 3) s3
    same3 =
        other_stays windows pages source s can.events can.timeline.pokes_rise step address v0 (address + 3) (λ z. omega (arith, z))
        ∙ other_stays windows pages source s1 events1 rising1 step (address + 1) v1 (address + 3) (λ z. omega (arith, z))
        ∙ other_stays windows pages source s2 events2 rising2 step (address + 2) v2 (address + 3) (λ z. omega (arith, z))

    poked : IsEdited (machine windows pages) (changes address v0 ++ changes (address + 1) v1 ++ changes (address + 2) v2 ++ changes (address + 3) v3)
        (run_of windows pages source s can.events) (run_of windows pages source s4 events4)
    poked =
        edited_then (machine windows pages) (changes address v0 ++ changes (address + 1) v1 ++ changes (address + 2) v2) (changes (address + 3) v3)
        (run_of windows pages source s can.events) (run_of windows pages source s3 events3) (run_of windows pages source s4 events4)
        (edited_then (machine windows pages) (changes address v0 ++ changes (address + 1) v1) (changes (address + 2) v2)
        (run_of windows pages source s can.events) (run_of windows pages source s2 events2) (run_of windows pages source s3 events3)
        (edited_then (machine windows pages) (changes address v0) (changes (address + 1) v1)
        (run_of windows pages source s can.events) (run_of windows pages source s1 events1) (run_of windows pages source s2 events2)
        (one.with_edited windows pages source s can.events can.timeline.pokes_rise step address v0 events1 s refl)
        (one.with_edited windows pages source s1 events1 rising1 step (address + 1) v1 events2 s same1))
        (one.with_edited windows pages source s2 events2 rising2 step (address + 2) v2 events3 s same2))
        (one.with_edited windows pages source s3 events3 rising3 step (address + 3) v3 events4 s same3)

    planned : step ≤ 1000000 → (r : ℕ) → r ≤ 1000000
        → ArePlanned (machine windows pages) (run_of windows pages source s can.events) r (changes address v0 ++ changes (address + 1) v1 ++ changes (address + 2) v2 ++ changes (address + 3) v3)
    planned soon r few =
        let end = inside.end in
        let apart : (j k v w : ℕ) → j ≢ k → AreApart (machine windows pages) (changes j v) (changes k w) = λ j k v w other. poke_all_apart windows pages step s j v (changes k w) (poke_apart windows pages step s j k w other) in
        let byte_planned : (k v : ℕ) → k < ram_size pages → ArePlanned (machine windows pages) (run_of windows pages source s can.events) r (changes k v) =
        λ k v l. one.with_planned windows pages source s can.events can.timeline.pokes_rise step k v can.sound soon l r few in
        planned_then (machine windows pages) (run_of windows pages source s can.events) r (changes address v0 ++ changes (address + 1) v1 ++ changes (address + 2) v2) (changes (address + 3) v3)
        (planned_then (machine windows pages) (run_of windows pages source s can.events) r (changes address v0 ++ changes (address + 1) v1) (changes (address + 2) v2)
        (planned_then (machine windows pages) (run_of windows pages source s can.events) r (changes address v0) (changes (address + 1) v1)
        (byte_planned address v0 (omega (arith, end)))
        (byte_planned (address + 1) v1 (omega (arith, end)))
        (apart address (address + 1) v0 v1 (λ z. omega (arith, z))))
        (byte_planned (address + 2) v2 (omega (arith, end)))
        (are_apart_then (machine windows pages) (changes address v0) (changes (address + 1) v1) (changes (address + 2) v2)
        (apart address (address + 2) v0 v2 (λ z. omega (arith, z))) (apart (address + 1) (address + 2) v1 v2 (λ z. omega (arith, z)))))
        (byte_planned (address + 3) v3 (omega (arith, end)))
        (are_apart_then (machine windows pages) (changes address v0 ++ changes (address + 1) v1) (changes (address + 2) v2) (changes (address + 3) v3)
        (are_apart_then (machine windows pages) (changes address v0) (changes (address + 1) v1) (changes (address + 3) v3)
        (apart address (address + 3) v0 v3 (λ z. omega (arith, z))) (apart (address + 1) (address + 3) v1 v3 (λ z. omega (arith, z))))
        (apart (address + 2) (address + 3) v2 v3 (λ z. omega (arith, z))))

pub poke_edits : (windows pages : ℕ) (source : Text) (s : Schedule) (can : CanRun windows pages source s) (step address value : ℕ)
    → step ≤ 1000000 → address % 4 ≡ 0 → address + 4 ≤ ram_size pages
    → Edits windows pages (poke_changes windows pages step address value s) source s source (with_poke step address value s) can
poke_edits windows pages source s can step address value soon aligned end =
    let v0 = value / 2 ^ 24 % 2 ^ 8 in
    let v1 = value / 2 ^ 16 % 2 ^ 8 in
    let v2 = value / 2 ^ 8 % 2 ^ 8 in
    let v3 = value % 2 ^ 8 in
    let inside : Inside windows pages source s can step address v0 v1 v2 v3 =
    record { end = end; below0 = omega arith; below1 = omega arith; below2 = omega arith; below3 = omega arith } in
    record {
      events = events4 windows pages source s can step address v0 v1 v2 v3 inside;
      sound = can.sound;
      planned = planned windows pages source s can step address v0 v1 v2 v3 inside soon;
      edited = poked windows pages source s can step address v0 v1 v2 v3 inside;
    }

-- ---- the pokes of four bytes are cleared

module _ (windows pages : ℕ) (source : Text) (s : Schedule) (can : CanRun windows pages source s) (step address : ℕ) where
  abbrev t1 : Schedule
  t1 = without_poke_byte step address s

  abbrev t2 : Schedule
  t2 = without_poke_byte step (address + 1) t1

  abbrev t3 : Schedule
  t3 = without_poke_byte step (address + 2) t2

  abbrev t4 : Schedule
  t4 = without_poke_byte step (address + 3) t3

  abbrev clears : (k : ℕ) → List (Change (machine windows pages))
  clears k = clear_byte_changes windows pages step k s

  cut1 : AreEvents pages t1
  cut1 = one.without_events windows pages source s can.events step address

  cut2 : AreEvents pages t2
  cut2 = one.without_events windows pages source t1 cut1 step (address + 1)

  cut3 : AreEvents pages t3
  cut3 = one.without_events windows pages source t2 cut2 step (address + 2)

  cut4 : AreEvents pages t4
  cut4 = one.without_events windows pages source t3 cut3 step (address + 3)

  stays1 : has_poke step (address + 1) s.pokes ≡ has_poke step (address + 1) t1.pokes
  stays1 = cleared_stays windows pages source s can.events step address (address + 1) (λ z. omega (arith, z))

  stays2 : has_poke step (address + 2) s.pokes ≡ has_poke step (address + 2) t2.pokes
  stays2 =
      cleared_stays windows pages source s can.events step address (address + 2) (λ z. omega (arith, z))
      ∙ cleared_stays windows pages source t1 cut1 step (address + 1) (address + 2) (λ z. omega (arith, z))

  stays3 : has_poke step (address + 3) s.pokes ≡ has_poke step (address + 3) t3.pokes
  stays3 =
      cleared_stays windows pages source s can.events step address (address + 3) (λ z. omega (arith, z))
      ∙ cleared_stays windows pages source t1 cut1 step (address + 1) (address + 3) (λ z. omega (arith, z))
      ∙ cleared_stays windows pages source t2 cut2 step (address + 2) (address + 3) (λ z. omega (arith, z))

  cleared : IsEdited (machine windows pages) (clears address ++ clears (address + 1) ++ clears (address + 2) ++ clears (address + 3))
      (run_of windows pages source s can.events) (run_of windows pages source t4 cut4)
  cleared =
      edited_then (machine windows pages) (clears address ++ clears (address + 1) ++ clears (address + 2)) (clears (address + 3))
      (run_of windows pages source s can.events) (run_of windows pages source t3 cut3) (run_of windows pages source t4 cut4)
      (edited_then (machine windows pages) (clears address ++ clears (address + 1)) (clears (address + 2))
      (run_of windows pages source s can.events) (run_of windows pages source t2 cut2) (run_of windows pages source t3 cut3)
      (edited_then (machine windows pages) (clears address) (clears (address + 1))
      (run_of windows pages source s can.events) (run_of windows pages source t1 cut1) (run_of windows pages source t2 cut2)
      (one.without_edited windows pages source s can.events step address cut1 s refl)
      (one.without_edited windows pages source t1 cut1 step (address + 1) cut2 s stays1))
      (one.without_edited windows pages source t2 cut2 step (address + 2) cut3 s stays2))
      (one.without_edited windows pages source t3 cut3 step (address + 3) cut4 s stays3)

  cleared_planned : address + 4 ≤ ram_size pages → (r : ℕ) → r ≤ 1000000
      → ArePlanned (machine windows pages) (run_of windows pages source s can.events) r (clears address ++ clears (address + 1) ++ clears (address + 2) ++ clears (address + 3))
  cleared_planned end r few =
      let apart : (j k : ℕ) → j ≢ k → AreApart (machine windows pages) (clears j) (clears k) = λ j k other. clear_all_apart windows pages step s j (clears k) (clear_apart windows pages step s j k other) in
      let byte_planned : (k : ℕ) → k < ram_size pages → ArePlanned (machine windows pages) (run_of windows pages source s can.events) r (clears k) =
      λ k l. one.without_planned windows pages source s can.events step k can.timeline.pokes_rise can.timeline.poke_places can.sound l r few in
      planned_then (machine windows pages) (run_of windows pages source s can.events) r (clears address ++ clears (address + 1) ++ clears (address + 2)) (clears (address + 3))
      (planned_then (machine windows pages) (run_of windows pages source s can.events) r (clears address ++ clears (address + 1)) (clears (address + 2))
      (planned_then (machine windows pages) (run_of windows pages source s can.events) r (clears address) (clears (address + 1))
      (byte_planned address (omega (arith, end)))
      (byte_planned (address + 1) (omega (arith, end)))
      (apart address (address + 1) (λ z. omega (arith, z))))
      (byte_planned (address + 2) (omega (arith, end)))
      (are_apart_then (machine windows pages) (clears address) (clears (address + 1)) (clears (address + 2))
      (apart address (address + 2) (λ z. omega (arith, z))) (apart (address + 1) (address + 2) (λ z. omega (arith, z)))))
      (byte_planned (address + 3) (omega (arith, end)))
      (are_apart_then (machine windows pages) (clears address ++ clears (address + 1)) (clears (address + 2)) (clears (address + 3))
      (are_apart_then (machine windows pages) (clears address) (clears (address + 1)) (clears (address + 3))
      (apart address (address + 3) (λ z. omega (arith, z))) (apart (address + 1) (address + 3) (λ z. omega (arith, z))))
      (apart (address + 2) (address + 3) (λ z. omega (arith, z))))

pub clear_edits : (windows pages : ℕ) (source : Text) (s : Schedule) (can : CanRun windows pages source s) (step address : ℕ) → address % 4 ≡ 0 → address + 4 ≤ ram_size pages
    → Edits windows pages (clear_changes windows pages step address s) source s source (without_poke step address s) can
clear_edits windows pages source s can step address aligned end = record {
  events = cut4 windows pages source s can step address;
  sound = can.sound;
  planned = cleared_planned windows pages source s can step address end;
  edited = cleared windows pages source s can step address;
}
