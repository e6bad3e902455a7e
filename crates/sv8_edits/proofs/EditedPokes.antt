-- An edit of one poked byte: the byte has another value from the step on, up to its next poke.
use Rattle.std.proofs.Common.{◌≡◌, ◌≢◌, ◌∙◌, ℕ, suc, ◌<◌, ◌≤◌, ◌==◌, Bool, true, false, List, [], ◌∷◌, Option, Some, None, is_some, unwrap_or, option_map, refl, sym, ap, arith}
use Rattle.std.specs.Prelude.{◌&&◌, if◌then◌else◌}
use Rattle.std.specs.List.{filter, find}
use Rattle.std.proofs.lemmas.Bool.Decides.{nat_tests}
use Rattle.sv8_model.specs.Cells.{Cell, ram_byte, waiting_bytes, pending_level, Value, byte, same_cell}
use Rattle.sv8_history.specs.Machine.{Run}
use Rattle.sv8_history.specs.Changes.{Poke, Clear, IsRepoked, IsNextEvent, IsEdited, ArePlanned}
use Rattle.sv8_time.specs.Order.{Each, Rising}
use Rattle.sv8_time.specs.Schedule.{Schedule, BytePoke, IsPokePlace, IsNextPoke, poke_of, poke_before, is_poke_at, has_poke, put_poke, cut_poke, pokes_of_step, poke_after, with_poke_byte, without_poke_byte}
use Rattle.sv8_time.proofs.Common.{each_filter, each_placed, next_poke_is, poke_bound}
use Rattle.sv8_phys.specs.Memory.{ram_size}
use Rattle.sv8_source.specs.Text.{Text}
use Rattle.sv8_cpu.specs.Recorded as recorded
use Rattle.sv8_cpu.specs.Recorded.{Event, event_at, IsPoke, AlikeBut, AreEvents, IsSound, value_poked, machine}
use Rattle.sv8_reset.specs.Reset.{reset_state, run_of}
use Rattle.sv8_edits.specs.Changes.{no_end, next_poke, poked_with, stands, poke_byte_changes, clear_byte_changes}
use Rattle.sv8_edits.specs.EditLaws.{CanRun, Edits}
use Rattle.sv8_edits.proofs.EditedLists.{none_of, found_passes, placed_minor, placed_major, placed_here, placed_again, cleared_minor, cleared_major, cleared_here, cleared_none}
use Rattle.sv8_edits.proofs.EditedRuns.{edited_once}

-- ---- what a timeline sets a byte to

-- a byte is set by its own pokes alone
value_here : (n j : ℕ) (ps : List BytePoke) (found : Option ℕ) → value_poked j (pokes_of_step n ps) found ≡ value_poked j (filter (is_poke_at n j) ps) found
value_here n j [] found = refl
value_here n j (p ∷ ps) found = go (value_here n j ps) (p.step == n) refl (p.address == j) refl
  where
    passed_over : (b : Bool) → b ≡ false → (if b then Some p.value else found) ≡ found
    passed_over true f = absurd cc
    passed_over false f = refl

    go : ((found : Option ℕ) → value_poked j (pokes_of_step n ps) found ≡ value_poked j (filter (is_poke_at n j) ps) found)
        → (a : Bool) → (p.step == n) ≡ a → (b : Bool) → (p.address == j) ≡ b
        → value_poked j (pokes_of_step n (p ∷ ps)) found ≡ value_poked j (filter (is_poke_at n j) (p ∷ ps)) found
    go rest true e true f = rw (e, f) (rest (if p.address == j then Some p.value else found))
    go rest true e false f = rw (e, f) (ap (value_poked j (pokes_of_step n ps)) (passed_over (p.address == j) f) ∙ rest found)
    go rest false e b f = rw e (rest found)

-- what is poked stays so
value_stays : (j : ℕ) (ps : List BytePoke) (found : Option ℕ) → is_some found ≡ true → is_some (value_poked j ps found) ≡ true
value_stays j [] found h = h
value_stays j (p ∷ ps) found h = value_stays j ps _ (go (p.address == j))
  where
    go : (b : Bool) → is_some (if b then Some p.value else found) ≡ true
    go true = refl
    go false = h

value_there : (n j : ℕ) (ps : List BytePoke) (found : Option ℕ) → has_poke n j ps ≡ true → is_some (value_poked j (pokes_of_step n ps) found) ≡ true
value_there n j [] found h = absurd cc
value_there n j (p ∷ ps) found h = go (value_there n j ps) (p.step == n) refl (p.address == j) refl
  where
    taken : (b : Bool) → b ≡ true → is_some (if b then Some p.value else found) ≡ true
    taken true f = refl
    taken false f = absurd cc

    go : ((found : Option ℕ) → has_poke n j ps ≡ true → is_some (value_poked j (pokes_of_step n ps) found) ≡ true)
        → (a : Bool) → (p.step == n) ≡ a → (b : Bool) → (p.address == j) ≡ b → is_some (value_poked j (pokes_of_step n (p ∷ ps)) found) ≡ true
    go rest true e true f = rw e (value_stays j (pokes_of_step n ps) (if p.address == j then Some p.value else found) (taken (p.address == j) f))
    go rest true e false f = let later : has_poke n j ps ≡ true = rw (e, f) at h in rw e (rest (if p.address == j then Some p.value else found) later)
    go rest false e b f = let later : has_poke n j ps ≡ true = rw e at h in rw e (rest found later)

abbrev pub byte_set : ℕ → ℕ → Schedule → Option Value
byte_set j n s = recorded.poke_of (ram_byte j) (event_at s n)

pub set_alike : (j n : ℕ) (s t : Schedule) → filter (is_poke_at n j) t.pokes ≡ filter (is_poke_at n j) s.pokes → byte_set j n t ≡ byte_set j n s
set_alike j n s t e =
    ap (option_map byte) (value_here n j t.pokes None ∙ ap (λ ps. value_poked j ps None) e ∙ sym (value_here n j s.pokes None))

pub set_none : (j n : ℕ) (s : Schedule) → filter (is_poke_at n j) s.pokes ≡ [] → byte_set j n s ≡ None
set_none j n s e = ap (option_map byte) (value_here n j s.pokes None ∙ ap (λ ps. value_poked j ps None) e)

set_one : (j n value : ℕ) (s : Schedule) → filter (is_poke_at n j) s.pokes ≡ poke_of n j value ∷ [] → byte_set j n s ≡ Some (byte value)
set_one j n value s e =
    let here : (j == j) ≡ true = grind (arith, nat_tests) in
    let last : value_poked j (poke_of n j value ∷ []) None ≡ Some value = rw here refl in
    ap (option_map byte) (value_here n j s.pokes None ∙ ap (λ ps. value_poked j ps None) e ∙ last)

mapped_there : (o : Option ℕ) → is_some o ≡ true → is_some (option_map byte o) ≡ true
mapped_there None h = h
mapped_there (Some v) h = refl

pub set_there : (j n : ℕ) (s : Schedule) → has_poke n j s.pokes ≡ true → is_some (byte_set j n s) ≡ true
set_there j n s h = mapped_there (value_poked j (pokes_of_step n s.pokes) None) (value_there n j s.pokes None h)

pub unset : (j n : ℕ) (s : Schedule) → has_poke n j s.pokes ≡ false → byte_set j n s ≡ None
unset j n s h = set_none j n s (none_of (is_poke_at n j) s.pokes h)

-- ---- the pokes of a timeline whose events are valid

module _ (pages : ℕ) where
  first_of : (n : ℕ) (p : BytePoke) (ps : List BytePoke) → Each (IsPoke pages) (pokes_of_step n (p ∷ ps)) → p.step ≡ n → IsPoke pages p
  first_of n p ps h e = let here : (p.step == n) ≡ true = grind (arith, nat_tests, e) in let there : Each (IsPoke pages) (p ∷ pokes_of_step n ps) = rw here at h in there.0

  rest_of : (n : ℕ) (p : BytePoke) (ps : List BytePoke) → Each (IsPoke pages) (pokes_of_step n (p ∷ ps)) → Each (IsPoke pages) (pokes_of_step n ps)
  rest_of n p ps h = go (p.step == n) refl
    where
      go : (b : Bool) → (p.step == n) ≡ b → Each (IsPoke pages) (pokes_of_step n ps)
      go true e = let there : Each (IsPoke pages) (p ∷ pokes_of_step n ps) = rw e at h in there.1
      go false e = rw e at h

  all_pokes : (ps : List BytePoke) → ((n : ℕ) → Each (IsPoke pages) (pokes_of_step n ps)) → Each (IsPoke pages) ps
  all_pokes [] h = tt
  all_pokes (p ∷ ps) h = (first_of p.step p ps (h p.step) refl, all_pokes ps (λ n. rest_of n p ps (h n)))

-- ---- the next poke of a byte

module _ (windows pages : ℕ) (source : Text) (s : Schedule) (valid : AreEvents pages s) (rising : Rising poke_before s.pokes) (address : ℕ) where
  abbrev old : Run (machine windows pages)
  old = run_of windows pages source s valid

  next_of : (step : ℕ) → step ≤ 1000000 → (r : ℕ) → r ≤ 1000000 → (o : Option ℕ) → IsNextPoke address step s.pokes o
      → IsNextEvent (machine windows pages) old (ram_byte address) (suc step) (unwrap_or o no_end) r
  next_of step soon r few None h = record {
    after = omega (arith, soon);
    none_between = λ n l k. unset address n s (h n (omega (arith, l)));
    there = λ l. absurd (omega (arith, l, few));
  }
  next_of step soon r few (Some m) h = record {
    after = omega (arith, h.0);
    none_between = λ n l k. unset address n s (h.2 n (omega (arith, l)) k);
    there = λ l. set_there address m s h.1;
  }

  pub planned_next : (step : ℕ) → step ≤ 1000000 → (r : ℕ) → r ≤ 1000000
      → IsNextEvent (machine windows pages) old (ram_byte address) (suc step) (next_poke address step s) r
  planned_next step soon r few = next_of step soon r few (poke_after address step s.pokes) (next_poke_is address step s.pokes rising)

  pub has_byte : IsSound pages (reset_state windows pages source) → address < ram_size pages → recorded.Has pages (ram_byte address) (reset_state windows pages source)
  has_byte sound inside = (sound, let size = sound.size in omega (arith, size, inside))

-- ---- a byte is poked

module _ (windows pages : ℕ) (source : Text) (s : Schedule) (valid : AreEvents pages s) (rising : Rising poke_before s.pokes) (step address value : ℕ) where
  pub with_events : address < ram_size pages → value < 256 → AreEvents pages (with_poke_byte step address value s)
  with_events inside below n = record {
    pokes = each_filter (IsPoke pages) (λ p. p.step == n) (put_poke (poke_of step address value) s.pokes)
        (each_placed (IsPoke pages) poke_before (poke_of step address value) s.pokes (inside, below) (all_pokes pages s.pokes (λ k. (valid k).pokes)));
    requests = (valid n).requests;
  }

  -- the pokes of another byte stay
  pub with_other : (n j : ℕ) → j ≢ address → filter (is_poke_at n j) (put_poke (poke_of step address value) s.pokes) ≡ filter (is_poke_at n j) s.pokes
  with_other n j other = placed_minor (λ p. p.step) (λ p. p.address) (poke_of step address value) s.pokes n j rising other

  with_others : (d : Cell) → same_cell (ram_byte address) d ≡ false → recorded.poke_of d (event_at (with_poke_byte step address value s) step) ≡ recorded.poke_of d (event_at s step)
  with_others (ram_byte j) e = let other : j ≢ address = λ z. grind (arith, nat_tests) in set_alike j step s (with_poke_byte step address value s) (with_other step j other)
  with_others waiting_bytes e = refl
  with_others (pending_level l) e = refl

  with_repoked : (new : AreEvents pages (with_poke_byte step address value s))
      → IsRepoked (machine windows pages) (ram_byte address) step (Some (byte value)) (run_of windows pages source s valid) (run_of windows pages source (with_poke_byte step address value s) new)
  with_repoked new = record {
    start = refl;
    here = record { others = with_others; arrived = refl };
    poke = set_one address step value (with_poke_byte step address value s) (placed_here (λ p. p.step) (λ p. p.address) (poke_of step address value) s.pokes);
    elsewhere = λ n other. ap {A = List BytePoke} {B = Event} (λ ps. record (event_at s n) { pokes = ps }) (placed_major (λ p. p.step) (λ p. p.address) (poke_of step address value) s.pokes n rising other);
  }

  -- a poke that stands already
  again : stands (poked_with step address s) value ≡ true → put_poke (poke_of step address value) s.pokes ≡ s.pokes
  again e = found (find (is_poke_at step address) s.pokes) refl e
    where
      found : (o : Option BytePoke) → find (is_poke_at step address) s.pokes ≡ o → stands (option_map (λ p. p.value) o) value ≡ true → put_poke (poke_of step address value) s.pokes ≡ s.pokes
      found None f g = absurd cc
      found (Some p) f g =
          let place : (p.step == step && p.address == address) ≡ true = found_passes (is_poke_at step address) s.pokes p f in
          let its_step : p.step ≡ step = grind (arith, nat_tests) in
          let its_address : p.address ≡ address = grind (arith, nat_tests) in
          let its_value : p.value ≡ value = grind (arith, nat_tests) in
          let it : p ≡ poke_of step address value = ap (λ n. poke_of n p.address p.value) its_step ∙ ap (λ a. poke_of step a p.value) its_address ∙ ap (poke_of step address) its_value in
          placed_again (λ p. p.step) (λ p. p.address) (poke_of step address value) s.pokes rising (f ∙ ap Some it)

  -- the change, as a timeline plans it that has the same poke there
  pub with_edited : (new : AreEvents pages (with_poke_byte step address value s)) (t : Schedule) → poked_with step address t ≡ poked_with step address s
      → IsEdited (machine windows pages) (poke_byte_changes windows pages step address value t) (run_of windows pages source s valid)
      (run_of windows pages source (with_poke_byte step address value s) new)
  with_edited new t same = go (stands (poked_with step address t) value) refl
    where
      go : (b : Bool) → stands (poked_with step address t) value ≡ b
          → IsEdited (machine windows pages) (if b then [] else (record { cell = ram_byte address; from = step; to = next_poke address step t; cause = Poke (byte value) } ∷ []))
          (run_of windows pages source s valid) (run_of windows pages source (with_poke_byte step address value s) new)
      go true e =
          let there : stands (poked_with step address s) value ≡ true = ap (λ o. stands o value) (sym same) ∙ e in
          (refl, λ n. ap {A = List BytePoke} {B = Event} (λ ps. record (event_at s n) { pokes = pokes_of_step n ps }) (again there))
      go false e =
          edited_once (machine windows pages) (record { cell = ram_byte address; from = step; to = next_poke address step t; cause = Poke (byte value) }) _ _ (with_repoked new)

  pub with_planned : IsSound pages (reset_state windows pages source) → step ≤ 1000000 → address < ram_size pages → (r : ℕ) → r ≤ 1000000
      → ArePlanned (machine windows pages) (run_of windows pages source s valid) r (poke_byte_changes windows pages step address value s)
  with_planned sound soon inside r few = go (stands (poked_with step address s) value)
    where
      go : (b : Bool)
          → ArePlanned (machine windows pages) (run_of windows pages source s valid) r
          (if b then [] else (record { cell = ram_byte address; from = step; to = next_poke address step s; cause = Poke (byte value) } ∷ []))
      go true = tt
      go false = (record { has = has_byte windows pages source s valid rising address sound inside; fits = tt; next = planned_next windows pages source s valid rising address step soon r few }, tt, tt)

-- ---- the poke of a byte is cleared

module _ (windows pages : ℕ) (source : Text) (s : Schedule) (valid : AreEvents pages s) (step address : ℕ) where
  pub without_events : AreEvents pages (without_poke_byte step address s)
  without_events n = record {
    pokes = each_filter (IsPoke pages) (λ p. p.step == n) (cut_poke step address s.pokes) (each_filter (IsPoke pages) _ s.pokes (all_pokes pages s.pokes (λ k. (valid k).pokes)));
    requests = (valid n).requests;
  }

  pub without_other : (n j : ℕ) → j ≢ address → filter (is_poke_at n j) (cut_poke step address s.pokes) ≡ filter (is_poke_at n j) s.pokes
  without_other n j other = cleared_minor (λ p. p.step) (λ p. p.address) step address s.pokes n j other

  without_others : (d : Cell) → same_cell (ram_byte address) d ≡ false → recorded.poke_of d (event_at (without_poke_byte step address s) step) ≡ recorded.poke_of d (event_at s step)
  without_others (ram_byte j) e = let other : j ≢ address = λ z. grind (arith, nat_tests) in set_alike j step s (without_poke_byte step address s) (without_other step j other)
  without_others waiting_bytes e = refl
  without_others (pending_level l) e = refl

  without_repoked : (new : AreEvents pages (without_poke_byte step address s))
      → IsRepoked (machine windows pages) (ram_byte address) step None (run_of windows pages source s valid) (run_of windows pages source (without_poke_byte step address s) new)
  without_repoked new = record {
    start = refl;
    here = record { others = without_others; arrived = refl };
    poke = set_none address step (without_poke_byte step address s) (cleared_here (λ p. p.step) (λ p. p.address) step address s.pokes);
    elsewhere = λ n other. ap {A = List BytePoke} {B = Event} (λ ps. record (event_at s n) { pokes = ps }) (cleared_major (λ p. p.step) (λ p. p.address) step address s.pokes n other);
  }

  pub without_edited : (new : AreEvents pages (without_poke_byte step address s)) (t : Schedule) → has_poke step address t.pokes ≡ has_poke step address s.pokes
      → IsEdited (machine windows pages) (clear_byte_changes windows pages step address t) (run_of windows pages source s valid)
      (run_of windows pages source (without_poke_byte step address s) new)
  without_edited new t same = go (has_poke step address t.pokes) refl
    where
      go : (b : Bool) → has_poke step address t.pokes ≡ b
          → IsEdited (machine windows pages) (if b then (record { cell = ram_byte address; from = step; to = next_poke address step t; cause = Clear } ∷ []) else [])
          (run_of windows pages source s valid) (run_of windows pages source (without_poke_byte step address s) new)
      go true e =
          edited_once (machine windows pages) (record { cell = ram_byte address; from = step; to = next_poke address step t; cause = Clear }) _ _
          (set_there address step s (sym same ∙ e), without_repoked new)
      go false e =
          (refl, λ n. ap {A = List BytePoke} {B = Event} (λ ps. record (event_at s n) { pokes = pokes_of_step n ps }) (cleared_none (λ p. p.step) (λ p. p.address) step address s.pokes (sym same ∙ e)))

  pub without_planned : Rising poke_before s.pokes → Each (IsPokePlace s.limit) s.pokes → IsSound pages (reset_state windows pages source) → address < ram_size pages → (r : ℕ) → r ≤ 1000000
      → ArePlanned (machine windows pages) (run_of windows pages source s valid) r (clear_byte_changes windows pages step address s)
  without_planned rising places sound inside r few = go (has_poke step address s.pokes) refl
    where
      go : (b : Bool) → has_poke step address s.pokes ≡ b
          → ArePlanned (machine windows pages) (run_of windows pages source s valid) r
          (if b then (record { cell = ram_byte address; from = step; to = next_poke address step s; cause = Clear } ∷ []) else [])
      go true e = (
        record { has = has_byte windows pages source s valid rising address sound inside; fits = tt; next = planned_next windows pages source s valid rising address step (poke_bound s.limit address s.pokes places step e) r few },
        tt,
        tt,
      )
      go false e = tt

pub poke_byte_edits : (windows pages : ℕ) (source : Text) (s : Schedule) (can : CanRun windows pages source s) (step address value : ℕ)
    → step ≤ 1000000 → address < ram_size pages → value < 256
    → Edits windows pages (poke_byte_changes windows pages step address value s) source s source (with_poke_byte step address value s) can
poke_byte_edits windows pages source s can step address value soon inside below =
    let rising = can.timeline.pokes_rise in
    let new = with_events windows pages source s can.events rising step address value inside below in
    record {
      events = new;
      sound = can.sound;
      planned = with_planned windows pages source s can.events rising step address value can.sound soon inside;
      edited = with_edited windows pages source s can.events rising step address value new s refl;
    }

pub clear_byte_edits : (windows pages : ℕ) (source : Text) (s : Schedule) (can : CanRun windows pages source s) (step address : ℕ) → address < ram_size pages
    → Edits windows pages (clear_byte_changes windows pages step address s) source s source (without_poke_byte step address s) can
clear_byte_edits windows pages source s can step address inside =
    let new = without_events windows pages source s can.events step address in
    record {
      events = new;
      sound = can.sound;
      planned = without_planned windows pages source s can.events step address can.timeline.pokes_rise can.timeline.poke_places can.sound inside;
      edited = without_edited windows pages source s can.events step address new s refl;
    }
