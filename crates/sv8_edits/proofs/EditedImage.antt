-- An edit of the source: each byte of RAM that has another value after reset is changed, up to its first poke.
use Rattle.std.proofs.Common.{◌≡◌, ◌≢◌, ◌∙◌, ℕ, zero, suc, ◌+◌, ◌<◌, ◌≤◌, ◌==◌, ◌⊎◌, Bool, true, false, List, [], ◌∷◌, ◌++◌, length, get_or, set, Option, Some, None, unwrap_or, refl, sym, ap, arith, inl, inr, length-set, get_or-set_same, get_or-set_other}
use Rattle.std.specs.Prelude.{if◌then◌else◌}
use Rattle.std.specs.List.{range_with_len, flat_map}
use Rattle.std.proofs.lemmas.Bool.{cases_eq, cases_lt}
use Rattle.std.proofs.lemmas.Bool.Decides.{nat_tests}
use Rattle.std.proofs.lemmas.Grind.{same_number_lists}
use Rattle.std.proofs.lemmas.List.FromFn.{length-map-range_with_len}
use Rattle.sv8_model.specs.Cells.{ram_byte, byte}
use Rattle.sv8_history.specs.Machine.{Run}
use Rattle.sv8_history.specs.Changes.{Image, Change, IsEdited, IsApart, IsNextEvent, ArePlanned}
use Rattle.sv8_time.specs.Schedule.{Schedule, IsNextPoke, has_poke, poke_after}
use Rattle.sv8_time.proofs.Common.{next_poke_is}
use Rattle.sv8_phys.specs.Memory.{ram_size}
use Rattle.sv8_source.specs.Text.{Text}
use Rattle.sv8_source.specs.Image.{image_byte, image_bytes}
use Rattle.sv8_cpu.specs.State.{State}
use Rattle.sv8_cpu.specs.Recorded.{event_at, machine}
use Rattle.sv8_reset.specs.Reset.{reset_state, run_of}
use Rattle.sv8_edits.specs.Changes.{no_end, next_poke, first_poke, image_byte_changes}
use Rattle.sv8_edits.specs.EditLaws.{CanRun, ImageEdits}
use Rattle.sv8_edits.proofs.EditedRuns.{apart_then}
use Rattle.sv8_edits.proofs.EditedPokes.{set_there, unset, has_byte}

-- the state after reset with other bytes in RAM
abbrev with_ram : List ℕ → State → State
with_ram ram s = record s { memory = record s.memory { ram = ram } }

module _ (windows pages : ℕ) (source : Text) (s : Schedule) (can : CanRun windows pages source s) (old new : ℕ → ℕ) where
  abbrev changed_byte : ℕ → List (Change (machine windows pages))
  changed_byte a = image_byte_changes windows pages a (old a) (new a) s

  -- the run from another image
  abbrev run_from : List ℕ → Run (machine windows pages)
  run_from ram = record { start = with_ram ram (reset_state windows pages source); events = event_at s; valid = can.events }

  -- RAM with the new values below an address, and the old ones from there on
  record IsPart (a : ℕ) (ram : List ℕ) : Type 0 where
    size : length ram ≡ ram_size pages
    done : (k : ℕ) → k < a → get_or ram k 0 ≡ new k
    left : (k : ℕ) → a ≤ k → k < ram_size pages → get_or ram k 0 ≡ old k

  -- one byte more is new
  same_more : (a : ℕ) (ram : List ℕ) → IsPart a ram → a < ram_size pages → old a ≡ new a → IsPart (a + 1) ram
  same_more a ram part inside same = record {
    size = part.size;
    done = λ k l. elim (cases_lt k a) [
      | inl below ↦ part.done k below
      | inr at_least ↦ let here : k ≡ a = omega (arith, l, at_least) in rw here (part.left a (omega arith) inside ∙ same)
    ];
    left = λ k l i. part.left k (omega (arith, l)) i;
  }

  set_more : (a : ℕ) (ram : List ℕ) → IsPart a ram → a < ram_size pages → IsPart (a + 1) (set ram a (new a))
  set_more a ram part inside =
      let size = part.size in
      record {
        size = length-set ram a (new a) ∙ part.size;
        done = λ k l. elim (cases_lt k a) [
          | inl below ↦ get_or-set_other ram a k (new a) 0 (λ z. omega (arith, z, below)) ∙ part.done k below
          | inr at_least ↦ let here : k ≡ a = omega (arith, l, at_least) in rw here (get_or-set_same ram a (new a) 0 (omega (arith, size, inside)))
        ];
        left = λ k l i. get_or-set_other ram a k (new a) 0 (λ z. omega (arith, z, l)) ∙ part.left k (omega (arith, l)) i;
      }

  whole : (ram other : List ℕ) → IsPart (ram_size pages) ram → IsPart (ram_size pages) other → other ≡ ram
  whole ram other part rest =
      same_number_lists other ram (rest.size ∙ sym part.size)
      (λ k l. let size = rest.size in rest.done k (omega (arith, size, l)) ∙ sym (part.done k (omega (arith, size, l))))

  -- the bytes from an address on are changed, one after the other
  bytes_edited : (n a : ℕ) → a + n ≡ ram_size pages → (ram other : List ℕ) → IsPart a ram → IsPart (ram_size pages) other
      → IsEdited (machine windows pages) (flat_map changed_byte (range_with_len a n)) (run_from ram) (run_from other)
  bytes_edited zero a all ram other part rest =
      let end : a ≡ ram_size pages = omega (arith, all) in
      let full : IsPart (ram_size pages) ram = rw (← end) part in
      (ap (λ r. with_ram r (reset_state windows pages source)) (whole ram other full rest), λ n. refl)
  bytes_edited (suc n) a all ram other part rest =
      go (λ mid more. bytes_edited n (a + 1) (omega (arith, all)) mid other more rest) (old a == new a) refl
    where
      go : ((mid : List ℕ) → IsPart (a + 1) mid → IsEdited (machine windows pages) (flat_map changed_byte (range_with_len (a + 1) n)) (run_from mid) (run_from other))
          → (b : Bool) → (old a == new a) ≡ b
          → IsEdited (machine windows pages)
          ((if b then [] else (record { cell = ram_byte a; from = 0; to = first_poke a s; cause = Image (byte (new a)) } ∷ [])) ++ flat_map changed_byte (range_with_len (a + 1) n))
          (run_from ram) (run_from other)
      go later true e = later ram (same_more a ram part (omega (arith, all)) (grind (arith, nat_tests)))
      go later false e =
          (run_from (set ram a (new a)), (refl, record { start = refl; events = λ k. refl }), later (set ram a (new a)) (set_more a ram part (omega (arith, all))))

  -- ---- the plan

  next_of : (a r : ℕ) → r ≤ 1000000 → (o : Option ℕ) → has_poke 0 a s.pokes ≡ false → IsNextPoke a 0 s.pokes o
      → IsNextEvent (machine windows pages) (run_of windows pages source s can.events) (ram_byte a) 0 (unwrap_or o no_end) r
  next_of a r few None first h = record {
    after = omega arith;
    none_between = λ n l k. unset a n s (by_first n (cases_eq n 0));
    there = λ l. absurd (omega (arith, l, few));
  }
    where
      by_first : (n : ℕ) → (n ≡ 0) ⊎ (n ≢ 0) → has_poke n a s.pokes ≡ false
      by_first n (inl e) = rw e first
      by_first n (inr e) = h n (omega (arith, e))
  next_of a r few (Some m) first h = record {
    after = omega arith;
    none_between = λ n l k. unset a n s (by_first n k (cases_eq n 0));
    there = λ l. set_there a m s h.1;
  }
    where
      by_first : (n : ℕ) → n < m → (n ≡ 0) ⊎ (n ≢ 0) → has_poke n a s.pokes ≡ false
      by_first n k (inl e) = rw e first
      by_first n k (inr e) = h.2 n (omega (arith, e)) k

  planned_first : (a r : ℕ) → r ≤ 1000000
      → IsNextEvent (machine windows pages) (run_of windows pages source s can.events) (ram_byte a) 0 (first_poke a s) r
  planned_first a r few = go (has_poke 0 a s.pokes) refl
    where
      go : (b : Bool) → has_poke 0 a s.pokes ≡ b
          → IsNextEvent (machine windows pages) (run_of windows pages source s can.events) (ram_byte a) 0 (if b then 0 else next_poke a 0 s) r
      go true e = record { after = omega arith; none_between = λ n l k. absurd (omega (arith, k)); there = λ l. set_there a 0 s e }
      go false e = next_of a r few (poke_after a 0 s.pokes) e (next_poke_is a 0 s.pokes can.timeline.pokes_rise)

  byte_apart : (j a : ℕ) → j ≢ a → IsApart (machine windows pages) (ram_byte j) (changed_byte a)
  byte_apart j a other = go (old a == new a)
    where
      go : (b : Bool)
          → IsApart (machine windows pages) (ram_byte j) (if b then [] else (record { cell = ram_byte a; from = 0; to = first_poke a s; cause = Image (byte (new a)) } ∷ []))
      go true = tt
      go false = (grind (arith, nat_tests, other), tt)

  bytes_apart : (n a j : ℕ) → j < a → IsApart (machine windows pages) (ram_byte j) (flat_map changed_byte (range_with_len a n))
  bytes_apart zero a j below = tt
  bytes_apart (suc n) a j below =
      apart_then (machine windows pages) (ram_byte j) (changed_byte a) (flat_map changed_byte (range_with_len (a + 1) n)) (byte_apart j a (λ z. omega (arith, z, below)))
      (bytes_apart n (a + 1) j (omega (arith, below)))

  bytes_planned : ((a : ℕ) → new a < 256) → (r : ℕ) → r ≤ 1000000 → (n a : ℕ) → a + n ≡ ram_size pages
      → ArePlanned (machine windows pages) (run_of windows pages source s can.events) r (flat_map changed_byte (range_with_len a n))
  bytes_planned below r few zero a all = tt
  bytes_planned below r few (suc n) a all = go (bytes_planned below r few n (a + 1) (omega (arith, all))) (bytes_apart n (a + 1) a (omega arith)) (old a == new a)
    where
      go : ArePlanned (machine windows pages) (run_of windows pages source s can.events) r (flat_map changed_byte (range_with_len (a + 1) n))
          → IsApart (machine windows pages) (ram_byte a) (flat_map changed_byte (range_with_len (a + 1) n)) → (b : Bool)
          → ArePlanned (machine windows pages) (run_of windows pages source s can.events) r
          ((if b then [] else (record { cell = ram_byte a; from = 0; to = first_poke a s; cause = Image (byte (new a)) } ∷ [])) ++ flat_map changed_byte (range_with_len (a + 1) n))
      go later apart true = later
      go later apart false = (
        record { has = has_byte windows pages source s can.events can.timeline.pokes_rise a can.sound (omega (arith, all)); fits = below a; next = planned_first a r few },
        apart,
        later,
      )

pub image_edits : ImageEdits
unfolding reset_state
image_edits windows pages source source' s can below =
    let old : ℕ → ℕ = λ a. get_or (image_bytes source (ram_size pages)) a 0 in
    let new : ℕ → ℕ = λ a. get_or (image_bytes source' (ram_size pages)) a 0 in
    let before : IsPart windows pages source s can old new 0 (image_bytes source (ram_size pages)) =
    record { size = length-map-range_with_len (image_byte source) 0 (ram_size pages); done = λ k l. absurd (omega (arith, l)); left = λ k l i. refl } in
    let after : IsPart windows pages source s can old new (ram_size pages) (image_bytes source' (ram_size pages)) =
    record { size = length-map-range_with_len (image_byte source') 0 (ram_size pages); done = λ k l. refl; left = λ k l i. absurd (omega (arith, l, i)) } in
    record {
      events = can.events;
      sound = record { size = length-map-range_with_len (image_byte source') 0 (ram_size pages); bytes = below; levels = can.sound.levels };
      planned = λ r few. bytes_planned windows pages source s can old new below r few (ram_size pages) 0 (omega arith);
      edited = bytes_edited windows pages source s can old new (ram_size pages) 0 (omega arith) (image_bytes source (ram_size pages)) (image_bytes source' (ram_size pages)) before after;
    }
