-- The frame laws over the whole state, from the frame law of actions and from how events come. Nothing here looks into the action of a step.
use Rattle.std.proofs.Common.{◌≡◌, ◌∙◌, ℕ, zero, suc, ◌<◌, ◌≤◌, ◌==◌, Bool, true, false, List, [], ◌++◌, length, Option, Some, None, unwrap_or, refl, sym, ap, subst, arith, add-one, inl, inr}
use Rattle.std.specs.Prelude.{not, ◌&&◌}
use Rattle.std.proofs.lemmas.List.{get_or_past}
use Rattle.std.proofs.lemmas.Bool.{true≢false, cases_lt}
use Rattle.std.proofs.lemmas.Bool.Decides.{nat_tests}
use Rattle.sv8_model.specs.declared.touch.Touch.{Touch}
use Rattle.sv8_model.specs.Outside.{Outside}
use Rattle.sv8_model.specs.Action.{result_of, after, touches}
use Rattle.sv8_model.specs.Cells.{Cell, ram_byte, waiting_bytes, pending_level, Value, byte, queue, held, queue_of, get, put, is_read, is_written}
use Rattle.sv8_model.specs.Footprint.{reads_input}
use Rattle.sv8_model.specs.Frame.{Cells, Alike, Unread, only}
use Rattle.sv8_model.proofs.Common.{cells_hold, framed, stays}
use Rattle.sv8_phys.specs.Memory.{ram_size}
use Rattle.sv8_cpu.specs.Step.{Inner, action}
use Rattle.sv8_memory.specs.Events.{poked, marked}
use Rattle.sv8_cpu.specs.Recorded.{Event, poke_of}
use Rattle.sv8_step_laws.specs.Frames.{WholeState, StepEvents, behind, whole_touched, whole_steps, touched_at, AlikeStates, set_to, AlikeEvents, same_value, both_set, unset, left, FramedStep, SetsFrame, IsWithin, AreSets, FramedRun, RunsFrame, CellsStay, bytes_in, BytesFrame, waiting_only, WaitingFrames, level_only, LevelsFrame, RequestedLevelsAgree}
use Rattle.sv8_cpu.proofs.Common.{after_event, length-poked, length-marked, byte_comes, level_comes, comes_alike}

-- ---- what two events set alike

same_value_is : (v w : Value) → same_value v w ≡ true → v ≡ w
same_value_is (byte a) (byte b) e = ap byte (grind (arith, nat_tests, e))
same_value_is (byte a) (queue bs) e = absurd (true≢false (sym e))
same_value_is (byte a) (held b) e = absurd (true≢false (sym e))
same_value_is (queue bs) w e = absurd (true≢false (sym e))
same_value_is (held true) (held true) e = refl
same_value_is (held true) (held false) e = absurd (true≢false (sym e))
same_value_is (held true) (byte b) e = absurd (true≢false (sym e))
same_value_is (held true) (queue bs) e = absurd (true≢false (sym e))
same_value_is (held false) (held true) e = absurd (true≢false (sym e))
same_value_is (held false) (held false) e = refl
same_value_is (held false) (byte b) e = absurd (true≢false (sym e))
same_value_is (held false) (queue bs) e = absurd (true≢false (sym e))

-- both are there, and the same
record Both (p q : Option Value) : Type 0 where
  pub value : Value
  pub first : p ≡ Some value
  pub second : q ≡ Some value

both_are : (p q : Option Value) → both_set p q ≡ true → Both p q
both_are None q e = absurd (true≢false (sym e))
both_are (Some v) None e = absurd (true≢false (sym e))
both_are (Some v) (Some w) e = record { value = v; first = refl; second = ap Some (sym (same_value_is v w e)) }

-- ---- a cell behind events

-- the events as the theory of recorded runs has them, which knows the bytes that came in by other means
abbrev event : StepEvents → Event
event e = record { pokes = e.pokes; requests = e.requests; arrived = [] }

-- a cell that is set alike holds the same, whatever it held
set_alike : (c : Cell) (e f : Event) (o o' : Outside) (v : Value) → length o.ram ≡ length o'.ram → length o.pending ≡ length o'.pending
    → poke_of c e ≡ Some v → poke_of c f ≡ Some v → get c (after_event e o) ≡ get c (after_event f o')
set_alike (ram_byte i) e f o o' v size levels p q = elim (cases_lt i (length o.ram)) [
  | inl within ↦ byte_comes i e o within ∙ ap (λ x. unwrap_or x (get (ram_byte i) o)) p ∙ ap (λ x. unwrap_or x (get (ram_byte i) o')) (sym q)
      ∙ sym (byte_comes i f o' (omega (arith, within, size)))
  | inr beyond ↦ ap byte (get_or_past (poked e.pokes o.ram) i 0 (omega (arith, beyond, length-poked e.pokes o.ram))
      ∙ sym (get_or_past (poked f.pokes o'.ram) i 0 (omega (arith, beyond, size, length-poked f.pokes o'.ram))))
]
set_alike waiting_bytes e f o o' v size levels p q = let never : ⊥ = cc in absurd never
set_alike (pending_level l) e f o o' v size levels p q = elim (cases_lt l (length o.pending)) [
  | inl within ↦ level_comes l e o within ∙ ap (λ x. unwrap_or x (get (pending_level l) o)) p ∙ ap (λ x. unwrap_or x (get (pending_level l) o')) (sym q)
      ∙ sym (level_comes l f o' (omega (arith, within, levels)))
  | inr beyond ↦ ap held (get_or_past (marked e.requests o.pending) l false (omega (arith, beyond, length-marked e.requests o.pending))
      ∙ sym (get_or_past (marked f.requests o'.pending) l false (omega (arith, beyond, levels, length-marked f.requests o'.pending))))
]

-- so does one that is set alike and not in the set, since it held the same
kept_alike : (c : Cell) (cells : Cells) (e f : StepEvents) (o o' : Outside) → Alike cells o o' → AlikeEvents cells e f → cells c ≡ false
    → get c (behind e o) ≡ get c (behind f o')
kept_alike (ram_byte i) cells e f o o' h k out = comes_alike (ram_byte i) (event e) (event f) o o' h.size h.levels (sym (k.set (ram_byte i) out)) (h.same (ram_byte i) out)
kept_alike waiting_bytes cells e f o o' h k out =
    ap (λ bs. queue (bs ++ e.bytes)) (ap queue_of (h.same waiting_bytes out)) ∙ ap (λ bs. queue (o'.waiting ++ bs)) (k.bytes out)
kept_alike (pending_level l) cells e f o o' h k out =
    comes_alike (pending_level l) (event e) (event f) o o' h.size h.levels (sym (k.set (pending_level l) out)) (h.same (pending_level l) out)

changed_alike : (c : Cell) (e f : StepEvents) (o o' : Outside) → length o.ram ≡ length o'.ram → length o.pending ≡ length o'.pending → Both (set_to c e) (set_to c f)
    → get c (behind e o) ≡ get c (behind f o')
changed_alike (ram_byte i) e f o o' size levels b = set_alike (ram_byte i) (event e) (event f) o o' b.value size levels b.first b.second
changed_alike waiting_bytes e f o o' size levels b = let first = b.first in let never : ⊥ = cc in absurd never
changed_alike (pending_level l) e f o o' size levels b = set_alike (pending_level l) (event e) (event f) o o' b.value size levels b.first b.second

not_false : (b : Bool) → not b ≡ false → b ≡ true
not_false true e = refl
not_false false e = sym e

same_behind : (cells : Cells) (e f : StepEvents) (o o' : Outside) (c : Cell) → Alike cells o o' → AlikeEvents cells e f → unset cells e f c ≡ false
    → get c (behind e o) ≡ get c (behind f o')
same_behind cells e f o o' c h k u = by_case (cells c) refl u
  where
    by_case : (b : Bool) → cells c ≡ b → (b && not (both_set (set_to c e) (set_to c f))) ≡ false → get c (behind e o) ≡ get c (behind f o')
    by_case false out n = kept_alike c cells e f o o' h k out
    by_case true inside n = changed_alike c e f o o' h.size h.levels (both_are _ _ (not_false _ n))

-- events come to two outsides
behind_alike : (cells : Cells) (e f : StepEvents) (o o' : Outside) → Alike cells o o' → AlikeEvents cells e f → Alike (unset cells e f) (behind e o) (behind f o')
behind_alike cells e f o o' h k = record {
  size = length-poked e.pokes o.ram ∙ h.size ∙ sym (length-poked f.pokes o'.ram);
  levels = length-marked e.requests o.pending ∙ h.levels ∙ sym (length-marked f.requests o'.pending);
  output = h.output;
  same = λ c u. same_behind cells e f o o' c h k u;
}

-- ---- a step

pub sets_frame : SetsFrame
sets_frame windows pages cells e f w w' h k unread =
    let o = behind e w.outside in
    let o' = behind f w'.outside in
    let here = framed (unset cells e f) (action windows (ram_size pages) w.inner) o o' (behind_alike cells e f w.outside w'.outside h.outside k) unread in
    record {
      touched = here.touched ∙ ap (λ m. touches (action windows (ram_size pages) m) o') h.inner;
      states = record {
        inner = here.result ∙ ap (λ m. result_of (action windows (ram_size pages) m) o') h.inner;
        outside = subst (λ m. Alike (left windows pages cells e f w) (after (action windows (ram_size pages) w.inner) o) (after (action windows (ram_size pages) m) o')) h.inner here.alike;
      };
    }

pub cells_stay : CellsStay
cells_stay windows pages e w c sound unread unwritten = (stays (action windows (ram_size pages) w.inner) (behind e w.outside) sound).same c unread unwritten

-- ---- runs

within_states : (cells others : Cells) (w w' : WholeState) → IsWithin cells others → AlikeStates cells w w' → AlikeStates others w w'
within_states cells others w w' within h = record {
  inner = h.inner;
  outside = record { size = h.outside.size; levels = h.outside.levels; output = h.outside.output; same = λ c out. h.outside.same c (within c out) };
}

module _ (windows pages : ℕ) (sets : ℕ → Cells) (es fs : ℕ → StepEvents) (w w' : WholeState) (count : ℕ) (start : AlikeStates (sets 0) w w')
    (h : AreSets windows pages sets es fs w count) where
  one_step : (n : ℕ) → n < count → AlikeStates (sets n) (whole_steps windows pages es n w) (whole_steps windows pages fs n w')
      → FramedStep windows pages (sets n) (es n) (fs n) (whole_steps windows pages es n w) (whole_steps windows pages fs n w')
  one_step n below before =
      sets_frame windows pages (sets n) (es n) (fs n) (whole_steps windows pages es n w) (whole_steps windows pages fs n w') before (h.events n below) (h.unread n below)

  alike_at : (n : ℕ) → n ≤ count → AlikeStates (sets n) (whole_steps windows pages es n w) (whole_steps windows pages fs n w')
  alike_at zero within = start
  alike_at (suc n) within =
      let below : n < count = omega (arith, within) in
      subst (λ k. AlikeStates (sets k) (whole_steps windows pages es (suc n) w) (whole_steps windows pages fs (suc n) w')) (add-one n)
      (within_states _ _ _ _ (h.next n below) (one_step n below (alike_at n (omega (arith, within)))).states)

  framed_run : FramedRun windows pages sets es fs w w' count
  framed_run = record { states = alike_at; touched = λ n below. (one_step n below (alike_at n (omega (arith, below)))).touched }

pub runs_frame : RunsFrame
runs_frame = framed_run

-- ---- sets that stay the same

-- what is left of a set is within it
left_within : (windows pages : ℕ) (cells : Cells) (e f : StepEvents) (w : WholeState) → IsWithin (left windows pages cells e f w) cells
left_within windows pages cells e f w c out = ap (λ b. (b && not (both_set (set_to c e) (set_to c f))) && not (is_written (whole_touched windows pages e w) c)) out

fst_true : (a b : Bool) → (a && b) ≡ true → a ≡ true
fst_true true b h = refl
fst_true false b h = h

pub bytes_frame : BytesFrame
bytes_frame windows pages bytes es fs w w' count start events unread =
    runs_frame windows pages (λ n. bytes_in bytes) es fs w w' count start (record {
      events = events;
      next = λ n below. left_within windows pages (bytes_in bytes) (es n) (fs n) (whole_steps windows pages es n w);
      unread = unread;
    })

-- events that differ in the bytes that come in alone set every cell alike
set_same : (e f : StepEvents) → e.pokes ≡ f.pokes → e.requests ≡ f.requests → (c : Cell) → set_to c e ≡ set_to c f
set_same e f pokes requests c =
    ap (λ ps. set_to c (record { pokes = ps; requests = e.requests; bytes = e.bytes })) pokes
    ∙ ap (λ rs. set_to c (record { pokes = f.pokes; requests = rs; bytes = e.bytes })) requests

waiting_unread : (ts : List Touch) (e f : StepEvents) → reads_input ts ≡ false → Unread (unset waiting_only e f) ts
waiting_unread ts e f none (ram_byte i) h = absurd (true≢false (sym h))
waiting_unread ts e f none waiting_bytes h = none
waiting_unread ts e f none (pending_level l) h = absurd (true≢false (sym h))

pub waiting_frames : WaitingFrames
waiting_frames windows pages es fs w w' count start same none =
    runs_frame windows pages (λ n. waiting_only) es fs w w' count start (record {
      events = λ n below. record { set = λ c out. set_same (es n) (fs n) (same n below).0 (same n below).1 c; bytes = λ out. absurd (true≢false out) };
      next = λ n below. left_within windows pages waiting_only (es n) (fs n) (whole_steps windows pages es n w);
      unread = λ n below. waiting_unread (touched_at windows pages es n w) (es n) (fs n) (none n below);
    })

level_unread : (ts : List Touch) (level : ℕ) (e f : StepEvents) → is_read ts (pending_level level) ≡ false → Unread (unset (level_only level) e f) ts
level_unread ts level e f none (ram_byte i) h = absurd (true≢false (sym h))
level_unread ts level e f none waiting_bytes h = absurd (true≢false (sym h))
level_unread ts level e f none (pending_level l) h =
    let test : (level == l) ≡ true = fst_true _ _ h in
    let it : level ≡ l = grind (arith, nat_tests, test) in
    subst (λ k. is_read ts (pending_level k) ≡ false) it none

pub levels_frame : LevelsFrame
levels_frame windows pages level es fs w w' count start events none =
    runs_frame windows pages (λ n. level_only level) es fs w w' count start (record {
      events = events;
      next = λ n below. left_within windows pages (level_only level) (es n) (fs n) (whole_steps windows pages es n w);
      unread = λ n below. level_unread (touched_at windows pages es n w) level (es n) (fs n) (none n below);
    })

-- ---- a level that both events request

-- outsides that differ in no cell are the same
nowhere : (cells : Cells) (o o' : Outside) → Alike cells o o' → ((c : Cell) → cells c ≡ false) → o ≡ o'
nowhere cells o o' h none =
    let but : Alike (only waiting_bytes) o o' = record { size = h.size; levels = h.levels; output = h.output; same = λ c out. h.same c (none c) } in
    sym (cells_hold.put_there waiting_bytes o o' but ∙ ap (λ v. put waiting_bytes v o) (sym (h.same waiting_bytes (none waiting_bytes))) ∙ cells_hold.unchanged waiting_bytes o)

none_unset : (level : ℕ) (e f : StepEvents) → set_to (pending_level level) e ≡ Some (held true) → set_to (pending_level level) f ≡ Some (held true)
    → (c : Cell) → unset (level_only level) e f c ≡ false
none_unset level e f p q (ram_byte i) = refl
none_unset level e f p q waiting_bytes = refl
none_unset level e f p q (pending_level l) = by_case (level == l) refl
  where
    by_case : (b : Bool) → (level == l) ≡ b → (b && not (both_set (set_to (pending_level l) e) (set_to (pending_level l) f))) ≡ false
    by_case false test = refl
    by_case true test =
        let it : level ≡ l = grind (arith, nat_tests, test) in
        let first : set_to (pending_level l) e ≡ Some (held true) = subst (λ k. set_to (pending_level k) e ≡ Some (held true)) it p in
        let second : set_to (pending_level l) f ≡ Some (held true) = subst (λ k. set_to (pending_level k) f ≡ Some (held true)) it q in
        ap (λ x. not (both_set x (set_to (pending_level l) f))) first ∙ ap (λ x. not (both_set (Some (held true)) x)) second

pub requested_levels_agree : RequestedLevelsAgree
requested_levels_agree windows pages level e f w w' h k p q =
    let o' = behind f w'.outside in
    let same = nowhere (unset (level_only level) e f) (behind e w.outside) o' (behind_alike (level_only level) e f w.outside w'.outside h.outside k) (none_unset level e f p q) in (
      ap (λ o. touches (action windows (ram_size pages) w.inner) o) same ∙ ap (λ m. touches (action windows (ram_size pages) m) o') h.inner,
      ap {A = Outside} {B = WholeState} (λ o. record { inner = result_of (action windows (ram_size pages) w.inner) o; outside = after (action windows (ram_size pages) w.inner) o }) same
          ∙ ap {A = Inner} {B = WholeState} (λ m. record { inner = result_of (action windows (ram_size pages) m) o'; outside = after (action windows (ram_size pages) m) o' }) h.inner,
    )
