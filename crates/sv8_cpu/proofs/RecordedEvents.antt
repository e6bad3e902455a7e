-- The event of a step comes: each cell then holds what it was set to, or else what it had.
use Rattle.std.proofs.Common.{◌≡◌, ◌≢◌, ℕ, ◌<◌, ◌==◌, Bool, true, false, List, [], ◌∷◌, length, get_or, set, Option, Some, None, unwrap_or, option_map, refl, sym, ◌∙◌, ap, subst, arith, inl, inr}
use Rattle.std.specs.Prelude.{◌||◌, if◌then◌else◌}
use Rattle.std.specs.List.{list_any}
use Rattle.std.proofs.lemmas.List.{length-set, get_or-set_same, get_or-set_other, get_or_past}
use Rattle.std.proofs.lemmas.Bool.{cases_eq, cases_lt}
use Rattle.std.proofs.lemmas.Bool.Decides.{nat_tests}
use Rattle.sv8_model.specs.Outside.{Outside}
use Rattle.sv8_model.specs.Cells as cells
use Rattle.sv8_model.specs.Cells.{Cell, ram_byte, waiting_bytes, pending_level, Value, byte, held, same_cell, Fits}
use Rattle.sv8_model.specs.Frame.{Alike, only}
use Rattle.sv8_model.proofs.Common.{IsByte, set_each, cells_hold}
use Rattle.sv8_history.specs.Framed as framed
use Rattle.sv8_time.specs.Order.{Each}
use Rattle.sv8_time.specs.Schedule.{Schedule, BytePoke, IsTimeline, IsPokePlace, IsRequestPlace}
use Rattle.sv8_time.specs.declared.requests.Request.{Request}
use Rattle.sv8_time.proofs.Common.{each_filter, each_map}
use Rattle.sv8_phys.specs.Memory.{ram_size}
use Rattle.sv8_memory.specs.Events.{poked, marked}
use Rattle.sv8_cpu.specs.State.{State}
use Rattle.sv8_cpu.specs.Recorded.{Event, IsPoke, IsRequest, IsEvent, value_poked, poke_of, AlikeBut, AlikeInput, cells_of, with_cells, put, IsSound, Holds, Has, Ready, come, AreEvents, machine}
use Rattle.sv8_cpu.proofs.RecordedCells.{has_outside}

-- ---- pokes

pub length-poked : (ps : List BytePoke) (ram : List ℕ) → length (poked ps ram) ≡ length ram
length-poked [] ram = refl
length-poked (p ∷ ps) ram = length-poked ps _ ∙ length-set ram p.address p.value

-- one poke more
found_next : (p : BytePoke) (ram : List ℕ) (i had : ℕ) (found : Option ℕ) → i < length ram → unwrap_or found had ≡ get_or ram i 0
    → unwrap_or (if p.address == i then Some p.value else found) had ≡ get_or (set ram p.address p.value) i 0
found_next p ram i had found within e = elim (cases_eq i p.address) [ inl same ↦ here same | inr other ↦ there other ]
  where
    here : i ≡ p.address → unwrap_or (if p.address == i then Some p.value else found) had ≡ get_or (set ram p.address p.value) i 0
    here same =
        let test : (p.address == i) ≡ true = grind (arith, nat_tests, same) in
        rw test (rw same (sym (get_or-set_same ram p.address p.value 0 (omega (arith, within, same)))))

    there : i ≢ p.address → unwrap_or (if p.address == i then Some p.value else found) had ≡ get_or (set ram p.address p.value) i 0
    there other =
        let test : (p.address == i) ≡ false = grind (arith, nat_tests, other) in
        rw test (e ∙ sym (get_or-set_other ram p.address i p.value 0 other))

get_poked : (ps : List BytePoke) (ram : List ℕ) (i had : ℕ) (found : Option ℕ) → i < length ram → unwrap_or found had ≡ get_or ram i 0
    → unwrap_or (value_poked i ps found) had ≡ get_or (poked ps ram) i 0
get_poked [] ram i had found within e = e
get_poked (p ∷ ps) ram i had found within e =
    get_poked ps (set ram p.address p.value) i had _ (omega (arith, within, length-set ram p.address p.value)) (found_next p ram i had found within e)

poked_bytes : (pages : ℕ) (ps : List BytePoke) (ram : List ℕ) → Each (IsPoke pages) ps → ((i : ℕ) → IsByte (get_or ram i 0)) → (i : ℕ) → IsByte (get_or (poked ps ram) i 0)
poked_bytes pages [] ram valid all = all
poked_bytes pages (p ∷ ps) ram valid all = poked_bytes pages ps _ valid.1 (set_each IsByte ram 0 p.address p.value all valid.0.1)

-- ---- requests

pub length-marked : (rs : List Request) (pending : List Bool) → length (marked rs pending) ≡ length pending
length-marked [] pending = refl
length-marked (r ∷ rs) pending = length-marked rs _ ∙ length-set pending r.level true

or_true : (b : Bool) → (b || true) ≡ true
or_true true = refl
or_true false = refl

get_marked : (rs : List Request) (pending : List Bool) (l : ℕ) → l < length pending → get_or (marked rs pending) l false ≡ (list_any (λ r. r.level == l) rs || get_or pending l false)
get_marked [] pending l within = refl
get_marked (r ∷ rs) pending l within =
    get_marked rs (set pending r.level true) l (omega (arith, within, length-set pending r.level true))
    ∙ elim (cases_eq l r.level) [ inl same ↦ here same | inr other ↦ there other ]
  where
    here : l ≡ r.level → (list_any (λ r. r.level == l) rs || get_or (set pending r.level true) l false) ≡ (list_any (λ r. r.level == l) (r ∷ rs) || get_or pending l false)
    here same =
        let test : (r.level == l) ≡ true = grind (arith, nat_tests, same) in
        let value : get_or (set pending r.level true) l false ≡ true = rw same (get_or-set_same pending r.level true false (omega (arith, within, same))) in
        rw (value, test) (or_true _)

    there : l ≢ r.level → (list_any (λ r. r.level == l) rs || get_or (set pending r.level true) l false) ≡ (list_any (λ r. r.level == l) (r ∷ rs) || get_or pending l false)
    there other =
        let test : (r.level == l) ≡ false = grind (arith, nat_tests, other) in
        let value = get_or-set_other pending r.level l true false other in
        rw (value, test) refl

-- level 0 is not requested
marked_zero : (rs : List Request) (pending : List Bool) → Each IsRequest rs → get_or pending 0 false ≡ false → get_or (marked rs pending) 0 false ≡ false
marked_zero [] pending valid e = e
marked_zero (r ∷ rs) pending valid e = marked_zero rs _ valid.1 (get_or-set_other pending r.level 0 true false (λ z. omega (arith, valid.0.0, z)) ∙ e)

-- ---- what stands in a cell behind an event

-- the outside to which the event has come
abbrev pub after_event : Event → Outside → Outside
after_event e o = record o { ram = poked e.pokes o.ram; pending = marked e.requests o.pending }

byte_of_option : (found : Option ℕ) (b : ℕ) → byte (unwrap_or found b) ≡ unwrap_or (option_map byte found) (byte b)
byte_of_option None b = refl
byte_of_option (Some c) b = refl

held_of_test : (test b : Bool) → held (test || b) ≡ unwrap_or (if test then Some (held true) else None) (held b)
held_of_test true b = refl
held_of_test false b = refl

-- a cell holds what it was set to, or else what it had
pub byte_comes : (i : ℕ) (e : Event) (o : Outside) → i < length o.ram → cells.get (ram_byte i) (after_event e o) ≡ unwrap_or (poke_of (ram_byte i) e) (cells.get (ram_byte i) o)
byte_comes i e o within = ap byte (sym (get_poked e.pokes o.ram i (get_or o.ram i 0) None within refl)) ∙ byte_of_option (value_poked i e.pokes None) (get_or o.ram i 0)

pub level_comes : (l : ℕ) (e : Event) (o : Outside) → l < length o.pending → cells.get (pending_level l) (after_event e o) ≡ unwrap_or (poke_of (pending_level l) e) (cells.get (pending_level l) o)
level_comes l e o within = ap held (get_marked e.requests o.pending l within) ∙ held_of_test (list_any (λ r. r.level == l) e.requests) (get_or o.pending l false)

cell_comes : (c : Cell) (e : Event) (o : Outside) → cells.Has c o → cells.get c (after_event e o) ≡ unwrap_or (poke_of c e) (cells.get c o)
cell_comes (ram_byte i) e o has = byte_comes i e o has
cell_comes waiting_bytes e o has = refl
cell_comes (pending_level l) e o has = level_comes l e o has.1

-- a cell that held the same, and is set alike
pub comes_alike : (c : Cell) (e f : Event) (o o' : Outside) → length o.ram ≡ length o'.ram → length o.pending ≡ length o'.pending
    → poke_of c f ≡ poke_of c e → cells.get c o ≡ cells.get c o' → cells.get c (after_event e o) ≡ cells.get c (after_event f o')
comes_alike (ram_byte i) e f o o' size levels poke same = elim (cases_lt i (length o.ram)) [
  | inl within ↦ byte_comes i e o within ∙ ap (unwrap_or (poke_of (ram_byte i) e)) same ∙ ap (λ p. unwrap_or p (cells.get (ram_byte i) o')) (sym poke)
      ∙ sym (byte_comes i f o' (omega (arith, within, size)))
  | inr beyond ↦ ap byte (get_or_past (poked e.pokes o.ram) i 0 (omega (arith, beyond, length-poked e.pokes o.ram))
      ∙ sym (get_or_past (poked f.pokes o'.ram) i 0 (omega (arith, beyond, size, length-poked f.pokes o'.ram))))
]
comes_alike waiting_bytes e f o o' size levels poke same = same
comes_alike (pending_level l) e f o o' size levels poke same = elim (cases_lt l (length o.pending)) [
  | inl within ↦ level_comes l e o within ∙ ap (unwrap_or (poke_of (pending_level l) e)) same ∙ ap (λ p. unwrap_or p (cells.get (pending_level l) o')) (sym poke)
      ∙ sym (level_comes l f o' (omega (arith, within, levels)))
  | inr beyond ↦ ap held (get_or_past (marked e.requests o.pending) l false (omega (arith, beyond, length-marked e.requests o.pending))
      ∙ sym (get_or_past (marked f.requests o'.pending) l false (omega (arith, beyond, levels, length-marked f.requests o'.pending))))
]

-- ---- the laws of events

abbrev Below : Option ℕ → Type 0
Below None = Unit {0}
Below (Some b) = b < 256

value_below : (pages : ℕ) (ps : List BytePoke) (i : ℕ) (found : Option ℕ) → Each (IsPoke pages) ps → Below found → Below (value_poked i ps found)
value_below pages [] i found valid h = h
value_below pages (p ∷ ps) i found valid h = value_below pages ps i _ valid.1 (by_case (p.address == i))
  where
    by_case : (test : Bool) → Below (if test then Some p.value else found)
    by_case true = valid.0.1
    by_case false = h

byte_fits : (i : ℕ) (found : Option ℕ) (v : Value) → Below found → option_map byte found ≡ Some v → Fits (ram_byte i) v
byte_fits i None v h e = let never : ⊥ = cc in absurd never
byte_fits i (Some b) v h e = subst (Fits (ram_byte i)) (ap (λ o. unwrap_or o v) e) h

held_fits : (l : ℕ) (test : Bool) (v : Value) → (if test then Some (held true) else None) ≡ Some v → Fits (pending_level l) v
held_fits l true v e = subst (Fits (pending_level l)) (ap (λ o. unwrap_or o v) e) tt
held_fits l false v e = let never : ⊥ = cc in absurd never

poke_fits : (pages : ℕ) (c : Cell) (v : Value) (e : Event) → IsEvent pages e → poke_of c e ≡ Some v → Fits c v
poke_fits pages (ram_byte i) v e valid h = byte_fits i (value_poked i e.pokes None) v (value_below pages e.pokes i None valid.pokes tt) h
poke_fits pages waiting_bytes v e valid h = let never : ⊥ = cc in absurd never
poke_fits pages (pending_level l) v e valid h = held_fits l (list_any (λ r. r.level == l) e.requests) v h

input_poke : (c : Cell) (e f : Event) → AlikeInput e f → poke_of c f ≡ poke_of c e
input_poke (ram_byte i) e f h = ap (λ ps. option_map byte (value_poked i ps None)) h.pokes
input_poke waiting_bytes e f h = refl
input_poke (pending_level l) e f h = ap (λ (rs : List Request). if list_any (λ r. r.level == l) rs then Some (held true) else None) h.requests

pub are_events : (windows pages : ℕ) → framed.AreEvents (machine windows pages)
are_events windows pages = record {
  alike_self = λ c e. record { others = λ d n. refl; arrived = refl };
  alike_back = λ c e f h. record { others = λ d n. sym (h.others d n); arrived = sym h.arrived };
  poke_fits = poke_fits pages;
  alike_poke = λ c d e f h. h.others d;
  input_back = λ e f h. record { pokes = sym h.pokes; requests = sym h.requests };
  input_poke = input_poke;
}

-- ---- an event comes

pub sound_come : (pages : ℕ) (e : Event) (s : State) → IsEvent pages e → IsSound pages s → IsSound pages (come e s).state
sound_come pages e s valid h = record {
  size = length-poked e.pokes s.memory.ram ∙ h.size;
  bytes = poked_bytes pages e.pokes s.memory.ram valid.pokes h.bytes;
  levels = record {
    count = length-marked e.requests s.memory.pending ∙ h.levels.count;
    none_at_zero = marked_zero e.requests s.memory.pending valid.requests h.levels.none_at_zero;
  };
}

holds_come : (c : Cell) (e : Event) (s : State) → Holds c s → Holds c (come e s).state
holds_come (ram_byte i) e s has = omega (arith, has, length-poked e.pokes s.memory.ram)
holds_come waiting_bytes e s has = has
holds_come (pending_level l) e s has = (has.0, omega (arith, has.1, length-marked e.requests s.memory.pending))

pub has_come : (pages : ℕ) (c : Cell) (e : Event) (s : State) → IsEvent pages e → Has pages c s → Has pages c (come e s).state
has_come pages c e s valid has = (sound_come pages e s valid has.0, holds_come c e s has.1)

-- two outsides that differ in a cell, behind two events that differ there
differ_there : (c : Cell) (v : Value) (e f : Event) (o : Outside) → AlikeBut c e f → Alike (only c) (after_event e o) (after_event f (cells.put c v o))
differ_there c v e f o h =
    let before = cells_hold.alike c v o in
    record {
      size = length-poked e.pokes o.ram ∙ before.size ∙ sym (length-poked f.pokes (cells.put c v o).ram);
      levels = length-marked e.requests o.pending ∙ before.levels ∙ sym (length-marked f.requests (cells.put c v o).pending);
      output = before.output;
      same = λ d n. comes_alike d e f o (cells.put c v o) before.size before.levels (h.others d n) (before.same d n);
    }

comes_there : (c : Cell) (v : Value) (e f : Event) (o : Outside) → cells.Has c o → Fits c v → AlikeBut c e f
    → after_event f (cells.put c v o) ≡ cells.put c (unwrap_or (poke_of c f) v) (after_event e o)
comes_there c v e f o has fits h =
    cells_hold.put_there c _ _ (differ_there c v e f o h)
    ∙ ap (λ x. cells.put c x (after_event e o)) (cell_comes c f (cells.put c v o) (cells_hold.has c c v o has) ∙ ap (unwrap_or (poke_of c f)) (cells_hold.got c v o has fits))

pub comes : (c : Cell) (v : Value) (e f : Event) (s : State) → Holds c s → Fits c v → AlikeBut c e f
    → come f (put c v s) ≡ record (come e s) { state = put c (unwrap_or (poke_of c f) v) (come e s).state }
comes c v e f s has fits h =
    ap {A = Outside} {B = Ready} (λ o. record { state = with_cells s o; arrived = f.arrived }) (comes_there c v e f (cells_of s) (has_outside c s [] has) fits h)
    ∙ ap {A = List ℕ} {B = Ready} (λ bytes. record { state = put c (unwrap_or (poke_of c f) v) (come e s).state; arrived = bytes }) h.arrived

pub delivers : (e f : Event) (s : State) → AlikeInput e f → come f s ≡ record (come e s) { arrived = f.arrived }
delivers e f s h =
    ap {A = List BytePoke} {B = Ready} (λ ps. come (record { pokes = ps; requests = f.requests; arrived = f.arrived }) s) h.pokes
    ∙ ap {A = List Request} {B = Ready} (λ rs. come (record { pokes = e.pokes; requests = rs; arrived = f.arrived }) s) h.requests

-- ---- the events of a timeline

pokes_in : (pages limit : ℕ) (ps : List BytePoke) → limit ≡ ram_size pages → Each (IsPokePlace limit) ps → Each (IsPoke pages) ps
pokes_in pages limit [] same places = tt
pokes_in pages limit (p ∷ ps) same places = ((omega (arith, same, places.0.1), places.0.2), pokes_in pages limit ps same places.1)

pub serves : (pages : ℕ) (schedule : Schedule) → IsTimeline schedule → schedule.limit ≡ ram_size pages → AreEvents pages schedule
serves pages schedule timeline same n = record {
  pokes = each_filter (IsPoke pages) (λ p. p.step == n) schedule.pokes (pokes_in pages schedule.limit schedule.pokes same timeline.poke_places);
  requests = each_filter IsRequest (λ r. r.step == n) schedule.requests (each_map IsRequestPlace IsRequest (λ r h. (h.1, h.2)) schedule.requests timeline.request_places);
}
