-- An edit of the requests: the level is pending from the step on, or no longer, up to its next request.
use Rattle.std.proofs.Common.{◌≡◌, ◌≢◌, ◌∙◌, ℕ, suc, ◌≤◌, ◌==◌, Bool, true, false, List, [], ◌∷◌, Option, Some, None, is_some, unwrap_or, refl, sym, ap, arith}
use Rattle.std.specs.Prelude.{◌&&◌, if◌then◌else◌}
use Rattle.std.specs.List.{find, list_any}
use Rattle.std.proofs.lemmas.Bool.Decides.{nat_tests}
use Rattle.sv8_model.specs.Cells.{Cell, ram_byte, waiting_bytes, pending_level, Value, held, same_cell}
use Rattle.sv8_history.specs.Changes.{Poke, Clear, IsRepoked, IsNextEvent, IsEdited, ArePlanned}
use Rattle.sv8_time.specs.Order.{Each}
use Rattle.sv8_time.specs.declared.requests.Request.{Request}
use Rattle.sv8_time.specs.Schedule.{Schedule, IsRequestPlace, IsNextRequest, request_of, request_before, is_request_at, has_request, put_request, cut_request, requests_of_step, request_after, with_request, without_request}
use Rattle.sv8_time.proofs.Common.{each_map, each_filter, each_placed, next_request_is, request_bound}
use Rattle.sv8_source.specs.Text.{Text}
use Rattle.sv8_cpu.specs.Recorded as recorded
use Rattle.sv8_cpu.specs.Recorded.{Event, event_at, IsRequest, AlikeBut, AreEvents, machine}
use Rattle.sv8_reset.specs.Reset.{run_of}
use Rattle.sv8_edits.specs.Changes.{no_end, next_request, request_changes, clear_request_changes}
use Rattle.sv8_edits.specs.EditLaws.{CanRun, Edits}
use Rattle.sv8_edits.proofs.EditedLists.{any_alike, any_there, any_gone, found_one, found_passes, placed_minor, placed_major, placed_here, placed_again, cleared_minor, cleared_major, cleared_here, cleared_none}
use Rattle.sv8_edits.proofs.EditedRuns.{edited_once}

-- ---- what a timeline sets a level to

-- a level is requested at a step, or not
requested_is : (n l : ℕ) (rs : List Request) → list_any (λ r. r.level == l) (requests_of_step n rs) ≡ has_request n l rs
requested_is n l [] = refl
requested_is n l (r ∷ rs) = go (requested_is n l rs) (r.step == n) refl
  where
    go : list_any (λ r. r.level == l) (requests_of_step n rs) ≡ has_request n l rs → (b : Bool) → (r.step == n) ≡ b
        → list_any (λ r. r.level == l) (requests_of_step n (r ∷ rs)) ≡ has_request n l (r ∷ rs)
    go rest true e = rw (e, rest) refl
    go rest false e = rw (e, rest) refl

abbrev pub level_set : ℕ → ℕ → Schedule → Option Value
level_set l n s = recorded.poke_of (pending_level l) (event_at s n)

by_test : (a b : Bool) → a ≡ b → (if a then Some (held true) else None) ≡ (if b then Some (held true) else None)
by_test a b e = ap (λ c. if c then Some (held true) else None) e

set_by : (l n : ℕ) (s : Schedule) (b : Bool) → has_request n l s.requests ≡ b → level_set l n s ≡ (if b then Some (held true) else None)
set_by l n s b e = by_test _ b (requested_is n l s.requests ∙ e)

set_alike : (l n : ℕ) (s t : Schedule) → has_request n l t.requests ≡ has_request n l s.requests → level_set l n t ≡ level_set l n s
set_alike l n s t e = by_test _ _ (requested_is n l t.requests ∙ e ∙ sym (requested_is n l s.requests))

-- ---- the next request

module _ (windows pages : ℕ) (source : Text) (s : Schedule) (can : CanRun windows pages source s) (step level : ℕ) where
  next_of : step ≤ 1000000 → (r : ℕ) → r ≤ 1000000 → (o : Option ℕ) → IsNextRequest level step s.requests o
      → IsNextEvent (machine windows pages) (run_of windows pages source s can.events) (pending_level level) (suc step) (unwrap_or o no_end) r
  next_of soon r few None h = record {
    after = omega (arith, soon);
    none_between = λ n l k. set_by level n s false (h n (omega (arith, l)));
    there = λ l. absurd (omega (arith, l, few));
  }
  next_of soon r few (Some m) h = record {
    after = omega (arith, h.0);
    none_between = λ n l k. set_by level n s false (h.2 n (omega (arith, l)) k);
    there = λ l. ap is_some (set_by level m s true h.1);
  }

  planned_next : step ≤ 1000000 → (r : ℕ) → r ≤ 1000000
      → IsNextEvent (machine windows pages) (run_of windows pages source s can.events) (pending_level level) (suc step) (next_request level step s) r
  planned_next soon r few = next_of soon r few (request_after level step s.requests) (next_request_is level step s.requests can.timeline.requests_rise)

  has_level : 1 ≤ level → level ≤ 15 → recorded.Has pages (pending_level level) (run_of windows pages source s can.events).start
  has_level low high = (can.sound, (low, let count = can.sound.levels.count in omega (arith, count, high)))

  requests_stand : Each IsRequest s.requests
  requests_stand = each_map IsRequestPlace IsRequest (λ r h. (h.1, h.2)) s.requests can.timeline.request_places

  -- ---- a level is requested

  with_events : 1 ≤ level → level ≤ 15 → AreEvents pages (with_request step level s)
  with_events low high n = record {
    pokes = (can.events n).pokes;
    requests = each_filter IsRequest (λ r. r.step == n) (put_request (request_of step level) s.requests) (each_placed IsRequest request_before (request_of step level) s.requests (low, high) requests_stand);
  }

  with_others : (d : Cell) → same_cell (pending_level level) d ≡ false → recorded.poke_of d (event_at (with_request step level s) step) ≡ recorded.poke_of d (event_at s step)
  with_others (ram_byte i) e = refl
  with_others waiting_bytes e = refl
  with_others (pending_level l) e =
      let other : l ≢ level = λ z. grind (arith, nat_tests) in
      set_alike l step s (with_request step level s) (any_alike (is_request_at step l) _ s.requests
      (placed_minor (λ r. r.step) (λ r. r.level) (request_of step level) s.requests step l can.timeline.requests_rise other))

  with_elsewhere : (n : ℕ) → n ≢ step → event_at (with_request step level s) n ≡ event_at s n
  with_elsewhere n other =
      ap {A = List Request} {B = Event} (λ rs. record (event_at s n) { requests = rs })
      (placed_major (λ r. r.step) (λ r. r.level) (request_of step level) s.requests n can.timeline.requests_rise other)

  with_repoked : (low : 1 ≤ level) (high : level ≤ 15)
      → IsRepoked (machine windows pages) (pending_level level) step (Some (held true)) (run_of windows pages source s can.events)
      (run_of windows pages source (with_request step level s) (with_events low high))
  with_repoked low high = record {
    start = refl;
    here = record { others = with_others; arrived = refl };
    poke = set_by level step (with_request step level s) true (any_there (is_request_at step level) _ (request_of step level) (placed_here (λ r. r.step) (λ r. r.level) (request_of step level) s.requests));
    elsewhere = with_elsewhere;
  }

  -- what is requested already
  again : has_request step level s.requests ≡ true → put_request (request_of step level) s.requests ≡ s.requests
  again e = stands (find (is_request_at step level) s.requests) refl (found_one (is_request_at step level) s.requests e)
    where
      stands : (o : Option Request) → find (is_request_at step level) s.requests ≡ o → is_some o ≡ true → put_request (request_of step level) s.requests ≡ s.requests
      stands None f g = absurd cc
      stands (Some r) f g =
          let place : (r.step == step && r.level == level) ≡ true = found_passes (is_request_at step level) s.requests r f in
          let its_step : r.step ≡ step = grind (arith, nat_tests) in
          let its_level : r.level ≡ level = grind (arith, nat_tests) in
          let it : r ≡ request_of step level = ap {A = ℕ} {B = Request} (λ n. record { step = n; level = r.level }) its_step ∙ ap (request_of step) its_level in
          placed_again (λ r. r.step) (λ r. r.level) (request_of step level) s.requests can.timeline.requests_rise (f ∙ ap Some it)

  with_edited : (low : 1 ≤ level) (high : level ≤ 15)
      → IsEdited (machine windows pages) (request_changes windows pages step level s) (run_of windows pages source s can.events)
      (run_of windows pages source (with_request step level s) (with_events low high))
  with_edited low high = go (has_request step level s.requests) refl
    where
      go : (b : Bool) → has_request step level s.requests ≡ b
          → IsEdited (machine windows pages) (if b then [] else (record { cell = pending_level level; from = step; to = next_request level step s; cause = Poke (held true) } ∷ []))
          (run_of windows pages source s can.events) (run_of windows pages source (with_request step level s) (with_events low high))
      go true e = (refl, λ n. ap {A = List Request} {B = Event} (λ rs. record (event_at s n) { requests = requests_of_step n rs }) (again e))
      go false e =
          edited_once (machine windows pages) (record { cell = pending_level level; from = step; to = next_request level step s; cause = Poke (held true) }) _ _
          (with_repoked low high)

  with_planned : step ≤ 1000000 → 1 ≤ level → level ≤ 15 → (r : ℕ) → r ≤ 1000000
      → ArePlanned (machine windows pages) (run_of windows pages source s can.events) r (request_changes windows pages step level s)
  with_planned soon low high r few = go (has_request step level s.requests)
    where
      go : (b : Bool)
          → ArePlanned (machine windows pages) (run_of windows pages source s can.events) r (if b then [] else (record { cell = pending_level level; from = step; to = next_request level step s; cause = Poke (held true) } ∷ []))
      go true = tt
      go false = (record { has = has_level low high; fits = tt; next = planned_next soon r few }, tt, tt)

  -- ---- a request is cleared

  without_events : AreEvents pages (without_request step level s)
  without_events n = record {
    pokes = (can.events n).pokes;
    requests = each_filter IsRequest (λ r. r.step == n) (cut_request step level s.requests) (each_filter IsRequest _ s.requests requests_stand);
  }

  without_others : (d : Cell) → same_cell (pending_level level) d ≡ false → recorded.poke_of d (event_at (without_request step level s) step) ≡ recorded.poke_of d (event_at s step)
  without_others (ram_byte i) e = refl
  without_others waiting_bytes e = refl
  without_others (pending_level l) e =
      let other : l ≢ level = λ z. grind (arith, nat_tests) in
      set_alike l step s (without_request step level s) (any_alike (is_request_at step l) _ s.requests (cleared_minor (λ r. r.step) (λ r. r.level) step level s.requests step l other))

  without_repoked : IsRepoked (machine windows pages) (pending_level level) step None (run_of windows pages source s can.events)
      (run_of windows pages source (without_request step level s) without_events)
  without_repoked = record {
    start = refl;
    here = record { others = without_others; arrived = refl };
    poke = set_by level step (without_request step level s) false (any_gone (is_request_at step level) _ (cleared_here (λ r. r.step) (λ r. r.level) step level s.requests));
    elsewhere = λ n other. ap {A = List Request} {B = Event} (λ rs. record (event_at s n) { requests = rs }) (cleared_major (λ r. r.step) (λ r. r.level) step level s.requests n other);
  }

  without_edited : IsEdited (machine windows pages) (clear_request_changes windows pages step level s) (run_of windows pages source s can.events)
      (run_of windows pages source (without_request step level s) without_events)
  without_edited = go (has_request step level s.requests) refl
    where
      go : (b : Bool) → has_request step level s.requests ≡ b
          → IsEdited (machine windows pages) (if b then (record { cell = pending_level level; from = step; to = next_request level step s; cause = Clear } ∷ []) else [])
          (run_of windows pages source s can.events) (run_of windows pages source (without_request step level s) without_events)
      go true e =
          edited_once (machine windows pages) (record { cell = pending_level level; from = step; to = next_request level step s; cause = Clear }) _ _
          (ap is_some (set_by level step s true e), without_repoked)
      go false e = (refl, λ n. ap {A = List Request} {B = Event} (λ rs. record (event_at s n) { requests = requests_of_step n rs }) (cleared_none (λ r. r.step) (λ r. r.level) step level s.requests e))

  without_planned : 1 ≤ level → level ≤ 15 → (r : ℕ) → r ≤ 1000000
      → ArePlanned (machine windows pages) (run_of windows pages source s can.events) r (clear_request_changes windows pages step level s)
  without_planned low high r few = go (has_request step level s.requests) refl
    where
      go : (b : Bool) → has_request step level s.requests ≡ b
          → ArePlanned (machine windows pages) (run_of windows pages source s can.events) r (if b then (record { cell = pending_level level; from = step; to = next_request level step s; cause = Clear } ∷ []) else [])
      go true e = (record { has = has_level low high; fits = tt; next = planned_next (request_bound level s.requests can.timeline.request_places step e) r few }, tt, tt)
      go false e = tt

pub request_edits : (windows pages : ℕ) (source : Text) (s : Schedule) (can : CanRun windows pages source s) (step level : ℕ) → step ≤ 1000000 → 1 ≤ level → level ≤ 15
    → Edits windows pages (request_changes windows pages step level s) source s source (with_request step level s) can
request_edits windows pages source s can step level soon low high = record {
  events = with_events windows pages source s can step level low high;
  sound = can.sound;
  planned = with_planned windows pages source s can step level soon low high;
  edited = with_edited windows pages source s can step level low high;
}

pub clear_request_edits : (windows pages : ℕ) (source : Text) (s : Schedule) (can : CanRun windows pages source s) (step level : ℕ) → 1 ≤ level → level ≤ 15
    → Edits windows pages (clear_request_changes windows pages step level s) source s source (without_request step level s) can
clear_request_edits windows pages source s can step level low high = record {
  events = without_events windows pages source s can step level;
  sound = can.sound;
  planned = without_planned windows pages source s can step level low high;
  edited = without_edited windows pages source s can step level;
}
