-- The rest of a step, behind its event: it neither depends on a cell that it does not read nor changes it. Nothing here looks into the action of a step.
use Rattle.std.proofs.Common.{◌≡◌, ℕ, ◌+◌, ◌-◌, Bool, true, false, List, length, drop, cond, refl, sym, ◌∙◌, ap, subst, arith}
use Rattle.std.specs.Prelude.{not, ◌&&◌}
use Rattle.std.proofs.Math.Bool.{and-false}
use Rattle.sv8_model.specs.declared.touch.Touch.{Touch}
use Rattle.sv8_model.specs.Outside.{Outside}
use Rattle.sv8_model.specs.Action.{Action, result_of, after, touches}
use Rattle.sv8_model.specs.Cells as cells
use Rattle.sv8_model.specs.Cells.{Cell, ram_byte, waiting_bytes, pending_level, Value, queue, same_cell, Fits, is_read, is_written}
use Rattle.sv8_model.specs.Frame as frame
use Rattle.sv8_model.specs.Frame.{Alike, Unread, remaining, Framed, only}
use Rattle.sv8_model.proofs.Common.{cells_hold, framed as action_framed, sound as action_sound, stays as action_stays}
use Rattle.sv8_history.specs.Machine.{SameFootprint}
use Rattle.sv8_history.specs.Framed.{AreCells, IsFramed}
use Rattle.sv8_history.specs.Acting.{IsActing}
use Rattle.sv8_history.proofs.Common.{acting_frames}
use Rattle.sv8_phys.specs.Contents.{Contents, outside_of}
use Rattle.sv8_cpu.specs.Step.{Inner}
use Rattle.sv8_cpu.specs.State.{State, left_by}
use Rattle.sv8_cpu.specs.Run.{step_action, touched}
use Rattle.sv8_cpu.specs.Recorded.{put, IsSound, Holds, Has, Ready, come, act, footprint_of, footprint_of_act, machine, acting}
use Rattle.sv8_cpu.proofs.RecordedCells.{same_is, sound_outside, has_outside, put-get, put-put, get-put, get-put_other, get_fits, has_put}
use Rattle.sv8_cpu.proofs.RecordedEvents.{are_events, sound_come, has_come, comes, delivers}

-- ---- any action, of two outsides that differ in a cell which it does not read

unread_only : (c : Cell) (ts : List Touch) → is_read ts c ≡ false → Unread (only c) ts
unread_only c ts unread d e = subst (λ x. is_read ts x ≡ false) (same_is c d e) unread

framed_put : {R : Type 0} (c : Cell) (v : Value) (a : Action R) (o : Outside) → is_read (touches a o) c ≡ false → Framed (only c) a o (cells.put c v o)
framed_put c v a o unread = action_framed (only c) a o (cells.put c v o) (cells_hold.alike c v o) (unread_only c (touches a o) unread)

result_put : {R : Type 0} (c : Cell) (v : Value) (a : Action R) (o : Outside) → is_read (touches a o) c ≡ false → result_of a (cells.put c v o) ≡ result_of a o
result_put c v a o unread = sym (framed_put c v a o unread).result

touches_put : {R : Type 0} (c : Cell) (v : Value) (a : Action R) (o : Outside) → is_read (touches a o) c ≡ false → touches a (cells.put c v o) ≡ touches a o
touches_put c v a o unread = sym (framed_put c v a o unread).touched

only_remaining : (c : Cell) (ts : List Touch) (p q : Outside) → Alike (remaining (only c) ts) p q → Alike (only c) p q
only_remaining c ts p q h = record { size = h.size; levels = h.levels; output = h.output; same = λ d n. h.same d (ap (λ b. b && not (is_written ts d)) n) }

-- where it wrote the cell, what it leaves is the same
written_same : (c : Cell) (ts : List Touch) (p q : Outside) → Alike (remaining (only c) ts) p q → is_written ts c ≡ true → q ≡ p
written_same c ts p q h written =
    let gone : (same_cell c c && not (is_written ts c)) ≡ false = ap (λ b. same_cell c c && not b) written ∙ and-false (same_cell c c) in
    cells_hold.put_there c p q (only_remaining c ts p q h) ∙ ap (λ v. cells.put c v p) (sym (h.same c gone)) ∙ cells_hold.unchanged c p

-- where it did not, what was put there stands there
unwritten_there : {R : Type 0} (c : Cell) (v : Value) (a : Action R) (o : Outside) → frame.IsSound o → cells.Has c o → Fits c v
    → is_read (touches a o) c ≡ false → is_written (touches a o) c ≡ false → cells.get c (after a (cells.put c v o)) ≡ v
unwritten_there c v a o sound has fits unread unwritten =
    let same = touches_put c v a o unread in
    (action_stays a (cells.put c v o) (cells_hold.sound c v o sound has fits)).same c (ap (λ ts. is_read ts c) same ∙ unread) (ap (λ ts. is_written ts c) same ∙ unwritten)
    ∙ cells_hold.got c v o has fits

after_put : {R : Type 0} (c : Cell) (v : Value) (a : Action R) (o : Outside) → frame.IsSound o → cells.Has c o → Fits c v → is_read (touches a o) c ≡ false
    → after a (cells.put c v o) ≡ cond (is_written (touches a o) c) (after a o) (cells.put c v (after a o))
after_put c v a o sound has fits unread = by_case (is_written (touches a o) c) refl
  where
    by_case : (test : Bool) → is_written (touches a o) c ≡ test → after a (cells.put c v o) ≡ cond test (after a o) (cells.put c v (after a o))
    by_case true e = written_same c (touches a o) _ _ (framed_put c v a o unread).alike e
    by_case false e =
        cells_hold.put_there c _ _ (only_remaining c (touches a o) _ _ (framed_put c v a o unread).alike)
        ∙ ap (λ x. cells.put c x (after a o)) (unwritten_there c v a o sound has fits unread e)

-- ---- the act, with something else in a cell

same_touches : (ts us : List Touch) → ts ≡ us → SameFootprint (footprint_of ts) (footprint_of us)
same_touches ts us e = record {
  reads = λ c. ap (λ ts. (footprint_of ts).reads c) e;
  writes = λ c. ap (λ ts. (footprint_of ts).writes c) e;
  uses = λ c. ap (λ ts. (footprint_of ts).uses c) e;
  takes = ap (λ ts. (footprint_of ts).takes) e;
}

-- what stands in a cell is outside alone, so the action is the same
act_put : (windows pages : ℕ) (c : Cell) (v : Value) (r : Ready) → Holds c r.state → act windows pages (record r { state = put c v r.state }) ≡
    left_by (result_of (step_action windows pages r.state) (cells.put c v (outside_of r.state.memory r.arrived))) r.state.memory (outside_of r.state.memory r.arrived)
    (after (step_action windows pages r.state) (cells.put c v (outside_of r.state.memory r.arrived)))
act_put windows pages (ram_byte i) v r has = refl
act_put windows pages waiting_bytes v r has = absurd has
act_put windows pages (pending_level l) v r has = refl

touched_put : (windows pages : ℕ) (c : Cell) (v : Value) (r : Ready) → Holds c r.state
    → touched windows pages r.arrived (put c v r.state) ≡ touches (step_action windows pages r.state) (cells.put c v (outside_of r.state.memory r.arrived))
touched_put windows pages (ram_byte i) v r has = refl
touched_put windows pages waiting_bytes v r has = absurd has
touched_put windows pages (pending_level l) v r has = refl

left_put : (c : Cell) (v : Value) (s : State) (x : Inner) (o p : Outside) → Holds c s → (test : Bool)
    → left_by x s.memory o (cond test p (cells.put c v p)) ≡ cond test (left_by x s.memory o p) (put c v (left_by x s.memory o p))
left_put c v s x o p has true = refl
left_put (ram_byte i) v s x o p has false = refl
left_put waiting_bytes v s x o p has false = absurd has
left_put (pending_level l) v s x o p has false = refl

quiet : (windows pages : ℕ) (c : Cell) (v : Value) (r : Ready) → Has pages c r.state → Fits c v → (footprint_of_act windows pages r).reads c ≡ false
    → act windows pages (record r { state = put c v r.state }) ≡ cond ((footprint_of_act windows pages r).writes c) (act windows pages r) (put c v (act windows pages r))
quiet windows pages c v r has fits unread =
    let a = step_action windows pages r.state in
    let o = outside_of r.state.memory r.arrived in
    act_put windows pages c v r has.1
    ∙ ap (λ x. left_by x r.state.memory o (after a (cells.put c v o))) (result_put c v a o unread)
    ∙ ap (λ q. left_by (result_of a o) r.state.memory o q)
    (after_put c v a o (sound_outside pages r.state.memory r.arrived has.0) (has_outside c r.state r.arrived has.1) fits unread)
    ∙ left_put c v r.state (result_of a o) o (after a o) has.1 (is_written (touches a o) c)

quiet_footprint : (windows pages : ℕ) (c : Cell) (v : Value) (r : Ready) → Has pages c r.state → (footprint_of_act windows pages r).reads c ≡ false
    → SameFootprint (footprint_of_act windows pages (record r { state = put c v r.state })) (footprint_of_act windows pages r)
quiet_footprint windows pages c v r has unread =
    same_touches _ _ (touched_put windows pages c v r has.1 ∙ touches_put c v (step_action windows pages r.state) (outside_of r.state.memory r.arrived) unread)

-- ---- the act, with other bytes waiting

left_waiting : (m : Contents) (x : Inner) (o p : Outside) (bytes : List ℕ) → p.waiting ≡ o.waiting
    → left_by x m (record o { waiting = bytes }) (record p { waiting = bytes }) ≡ left_by x m o p
left_waiting m x o p bytes e =
    let none : m.taken + (length bytes - length bytes) ≡ m.taken + (length o.waiting - length o.waiting) = omega arith in
    let old : m.taken + (length o.waiting - length o.waiting) ≡ m.taken + (length o.waiting - length p.waiting) = ap (λ bs. m.taken + (length o.waiting - length bs)) (sym e) in
    ap {A = ℕ} {B = State} (λ n. record (left_by x m o p) { memory = record (left_by x m o p).memory { taken = n } }) (none ∙ old)

untaken : (windows pages : ℕ) (bytes : List ℕ) (r : Ready) → IsSound pages r.state → (footprint_of_act windows pages r).takes ≡ false
    → act windows pages (record r { arrived = bytes }) ≡ act windows pages r
untaken windows pages bytes r sound none =
    let a = step_action windows pages r.state in
    let o = outside_of r.state.memory r.arrived in
    let left = drop r.state.memory.taken bytes in
    let there = sound_outside pages r.state.memory r.arrived sound in
    ap (λ x. left_by x r.state.memory (cells.put waiting_bytes (queue left) o) (after a (cells.put waiting_bytes (queue left) o))) (result_put waiting_bytes (queue left) a o none)
    ∙ ap (λ q. left_by (result_of a o) r.state.memory (cells.put waiting_bytes (queue left) o) q) (after_put waiting_bytes (queue left) a o there tt tt none)
    ∙ left_waiting r.state.memory (result_of a o) o (after a o) left (ap cells.queue_of ((action_stays a o there).same waiting_bytes none refl))

untaken_footprint : (windows pages : ℕ) (bytes : List ℕ) (r : Ready) → (footprint_of_act windows pages r).takes ≡ false
    → SameFootprint (footprint_of_act windows pages (record r { arrived = bytes })) (footprint_of_act windows pages r)
untaken_footprint windows pages bytes r none =
    same_touches _ _ (touches_put waiting_bytes (queue (drop r.state.memory.taken bytes)) (step_action windows pages r.state) (outside_of r.state.memory r.arrived) none)

-- ---- the act keeps what is sound

sound_act : (windows pages : ℕ) (r : Ready) → IsSound pages r.state → IsSound pages (act windows pages r)
sound_act windows pages r h =
    let a = step_action windows pages r.state in
    let o = outside_of r.state.memory r.arrived in
    let there = sound_outside pages r.state.memory r.arrived h in
    let left = action_sound a o there in
    record { size = (action_stays a o there).size ∙ h.size; bytes = left.bytes; levels = record { count = left.count; none_at_zero = left.none_at_zero } }

holds_act : (windows pages : ℕ) (c : Cell) (r : Ready) → IsSound pages r.state → Holds c r.state → Holds c (act windows pages r)
holds_act windows pages (ram_byte i) r h has =
    omega (arith, has, (action_stays (step_action windows pages r.state) (outside_of r.state.memory r.arrived) (sound_outside pages r.state.memory r.arrived h)).size)
holds_act windows pages waiting_bytes r h has = has
holds_act windows pages (pending_level l) r h has =
    (has.0, omega (arith, has.1, (action_stays (step_action windows pages r.state) (outside_of r.state.memory r.arrived) (sound_outside pages r.state.memory r.arrived h)).levels))

has_act : (windows pages : ℕ) (c : Cell) (r : Ready) → Has pages c r.state → Has pages c (act windows pages r)
has_act windows pages c r h = (sound_act windows pages r h.0, holds_act windows pages c r h.0 h.1)

-- ---- the frame law

are_cells : (windows pages : ℕ) → AreCells (machine windows pages)
are_cells windows pages = record {
  same_is = same_is;
  put-get = put-get;
  put-put = put-put;
  get-put = λ c v s has. get-put c v s has.1;
  get-put_other = get-put_other;
  get_fits = λ c s has. get_fits pages c s has.0;
  sound_step = λ e s valid sound. sound_act windows pages (come e s) (sound_come pages e s valid sound);
  has_step = λ c e s valid has. has_act windows pages c (come e s) (has_come pages c e s valid has);
  has_put = has_put pages;
}

is_acting : (windows pages : ℕ) → IsActing (acting windows pages)
is_acting windows pages = record {
  step_is = λ e s. refl;
  footprint_is = λ e s. refl;
  sound_come = sound_come pages;
  has_come = has_come pages;
  comes = λ c v e f s valid too has fits alike. comes c v e f s has.1 fits alike;
  delivers = λ e f s valid too alike. (f.arrived, delivers e f s alike);
  quiet = quiet windows pages;
  quiet_footprint = λ c v r has fits unread. quiet_footprint windows pages c v r has unread;
  untaken = untaken windows pages;
  untaken_footprint = λ bytes r sound none. untaken_footprint windows pages bytes r none;
}

pub framed : (windows pages : ℕ) → IsFramed (machine windows pages)
framed windows pages = acting_frames (acting windows pages) (are_cells windows pages) (are_events windows pages) (is_acting windows pages)
