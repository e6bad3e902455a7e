-- What is seen of an action is touched.
use Rattle.std.proofs.Common.{◌≡◌, ◌⊎◌, inl, inr, ℕ, zero, suc, ◌+◌, ◌*◌, ◌/◌, ◌%◌, ◌<◌, ◌≤◌, ◌==◌, Bool, true, false, cond, nat_lt, Result, Ok, Err, Option, Some, None, List, [], ◌∷◌, ◌++◌, refl, sym, ◌∙◌, ap, subst, arith}
use Rattle.std.specs.Prelude.{◌&&◌}
use Rattle.std.proofs.lemmas.Bool.{cases_lt, ltb-false, false≢true}
use Rattle.std.proofs.lemmas.Bool.Decides.{nat_tests}
use Rattle.sv8_isa.specs.declared.instr.Instr.{Instr}
use Rattle.sv8_isa.specs.declared.instr.Instr.TheVariants as row
use Rattle.sv8_isa.specs.declared.instr.Operand.TheVariants.{Register}
use Rattle.sv8_model.specs.declared.touch.Touch.{Touch}
use Rattle.sv8_model.specs.declared.touch.Touch.TheVariants.{Read, Write, Input}
use Rattle.sv8_model.specs.declared.observation.AccessKind.{AccessKind}
use Rattle.sv8_model.specs.declared.observation.AccessKind.TheVariants as kind
use Rattle.sv8_model.specs.declared.observation.Observation.TheVariants as seen
use Rattle.sv8_model.specs.Outside.{Outside, word_address}
use Rattle.sv8_model.specs.Action.{Action, done, load_word, store_word, take_input, count_waiting, observe, ◌>>=◌, result_of, after, touches, observations}
use Rattle.sv8_model.proofs.Actions.{result_of-then, touches-then, observations-then}
use Rattle.sv8_time.specs.Order.{Each}
use Rattle.sv8_time.proofs.Parts.{each_map, each_append}
use Rattle.sv8_model.specs.declared.size.Size.{Size}
use Rattle.sv8_model.specs.declared.size.Size.TheVariants.{Byte, Half, Word, Double}
use Rattle.sv8_model.specs.Size.{bytes_in}
use Rattle.sv8_phys.specs.declared.timer.Timer.{Timer}
use Rattle.sv8_phys.specs.Memory.{ram_size}
use Rattle.sv8_time.specs.Schedule.{arrived}
use Rattle.sv8_phys.specs.Contents.{outside_of}
use Rattle.sv8_model.specs.Devices.{input_address, waiting_address, output_address, count_address, reload_address, pending_address}
use Rattle.sv8_phys.specs.Devices.{stored_with, answered as device_answered, ram_load, ram_store, device_load, device_store, outside_load, outside_store, tick}
use Rattle.sv8_mmu.specs.declared.access_type.AccessType.{AccessType}
use Rattle.sv8_mmu.specs.declared.fault_type.FaultType.{FaultType}
use Rattle.sv8_mmu.specs.declared.registers.Mmu.{Mmu}
use Rattle.sv8_mmu.specs.declared.table_level.TableLevel.{TableLevel}
use Rattle.sv8_mmu.specs.declared.table_level.TableLevel.TheVariants as level
use Rattle.sv8_mmu.specs.declared.walk.TableIndex.{TableIndex}
use Rattle.sv8_mmu.specs.declared.walk.Walked.{Walked}
use Rattle.sv8_mmu.specs.declared.walk.Walked.TheVariants.{Page, Fault}
use Rattle.sv8_mmu.specs.declared.translation.Reach.{Reach}
use Rattle.sv8_mmu.specs.declared.translation.Reach.TheVariants as reach
use Rattle.sv8_mmu.specs.declared.translation.Translated.{Translated}
use Rattle.sv8_mmu.specs.declared.translation.Translated.TheVariants as translated
use Rattle.sv8_mmu.specs.Registers.{translates}
use Rattle.sv8_mmu.specs.Walk.{is_invalid, is_pointer, is_page_entry, table_of, entry_at, indices_of, root_of, met, below_pointer, looked_up, walk}
use Rattle.sv8_mmu.specs.Translation.{fault_type, marked, physical_address, is_served, with_marks, unless_refused, settled, translate}
use Rattle.sv8_mmu.specs.Probe.{probe_type, sought, probe}
use Rattle.sv8_trap.specs.declared.table.Trap.{Trap}
use Rattle.sv8_trap.specs.Table.{taken}
use Rattle.sv8_trap.specs.Processor.{Processor}
use Rattle.sv8_trap.specs.Interrupt.{highest}
use Rattle.sv8_trap.specs.declared.request.AccessRequest.{AccessRequest}
use Rattle.sv8_trap.specs.declared.request.AccessRequest.TheVariants as request
use Rattle.sv8_trap.specs.declared.request.Response.{Response}
use Rattle.sv8_trap.specs.declared.request.Response.TheVariants.{Value, Refused}
use Rattle.sv8_trap.specs.declared.request.Space.{Space}
use Rattle.sv8_trap.specs.declared.request.Space.TheVariants as space
use Rattle.sv8_trap.specs.Requests.{IsAligned, space_of}
use Rattle.sv8_iu.specs.Operands.{sum_of_sources}
use Rattle.sv8_iu.specs.Instruction.{raised, asked, data_space}
use Rattle.sv8_iu.proofs.Choices.{aligned_request, aligned_alternate}
use Rattle.sv8_memory.specs.Units.{Units, Served, served}
use Rattle.sv8_memory.specs.Access.{access_seen, observed, takes_byte, counts_bytes, is_word, fetched_from, load_answer, plainly_loaded, loaded_from, store_answer, stored_at, exchanged_at, located, at_virtual, reach_of, loaded_in, stored_in, exchanged_in, access, physical_place}
use Rattle.sv8_cpu.specs.Step.{Inner, observed_trap, executed, fetched, instruction, continued, requested, interruptible, awake, action}
use Rattle.sv8_cpu.specs.State.{inner_of}
use Rattle.sv8_cpu.specs.Run as run
use Rattle.sv8_cpu.specs.Touching.{touches_byte, IsTouched, AccessesTouch, StepsTouch}
use Rattle.sv8_step_laws.proofs.Touched.{read_here, write_here, touched_behind, front_touched, behind_touched}
use Rattle.sv8_memory.proofs.Pages.{place_aligned}

-- ---- actions of which nothing is seen

pub record Silent {R : Type 0} (a : Action R) : Type 0 where
  pub none : (o : Outside) → observations a o ≡ []

pub silent_done : {R : Type 0} (x : R) → Silent (done x)
silent_done x = record { none = λ o. refl }

pub silent_if : {R : Type 0} (b : Bool) (x y : Action R) → Silent x → Silent y → Silent (cond b x y)
silent_if true x y p q = p
silent_if false x y p q = q

silent_load : {R : Type 0} (k : ℕ) (g : ℕ → Action R) → ((v : ℕ) → Silent (g v)) → Silent (load_word k g)
silent_load k g h = record { none = λ o. (h _).none o }

silent_store : {R : Type 0} (k v : ℕ) (a : Action R) → Silent a → Silent (store_word k v a)
silent_store k v a h = record { none = λ o. h.none _ }

pub silent_then : {A B : Type 0} (a : Action A) (f : A → Action B) → Silent a → ((x : A) → Silent (f x)) → Silent (a >>= f)
silent_then a f p q = record { none = λ o. observations-then a f o ∙ ap (λ os. os ++ observations (f (result_of a o)) (after a o)) (p.none o) ∙ (q (result_of a o)).none (after a o) }

-- ---- walks, translations and probes

silent_entry : {R : Type 0} (limit at : ℕ) (outside : R) (g : ℕ → Action R) → ((v : ℕ) → Silent (g v)) → Silent (entry_at limit at outside g)
silent_entry limit at outside g h = silent_if (nat_lt at limit) _ _ (silent_load (at / 4) g h) (silent_done outside)

silent_met : (level : TableLevel) (at : ℕ) (deeper : ℕ → Action Walked) (e : ℕ) → Silent (deeper e) → Silent (met level at deeper e)
silent_met level at deeper e h = silent_if (is_pointer e) _ _ h (silent_if (is_page_entry e) _ _ (silent_done _) (silent_if (is_invalid e) _ _ (silent_done _) (silent_done _)))

silent_look : (limit : ℕ) (level : TableLevel) (at : ℕ) (deeper : ℕ → Action Walked) → ((e : ℕ) → Silent (deeper e)) → Silent (looked_up limit level at deeper)
silent_look limit level at deeper h = silent_entry limit at _ (met level at deeper) (λ e. silent_met level at deeper e (h e))

silent_below : (limit : ℕ) (level : TableLevel) (below : List TableIndex) (e : ℕ) → Silent (below_pointer limit level below e)
unfolding below_pointer
silent_below limit level [] e = silent_done _
silent_below limit level (to ∷ below) e = silent_look limit to.level (table_of e + 4 * to.index) _ (λ next. silent_below limit to.level below next)

silent_walk : (limit table_pointer context va : ℕ) → Silent (walk limit table_pointer context va)
unfolding walk
silent_walk limit table_pointer context va = silent_look limit level.Context (root_of table_pointer context) _ (λ e. silent_below limit level.Context (indices_of va) e)

silent_marks : (access_type : AccessType) (e at : ℕ) (answer : Translated) → Silent (with_marks access_type e at answer)
silent_marks access_type e at answer = silent_if (marked access_type e == e) _ _ (silent_done _) (silent_store _ _ _ (silent_done _))

silent_unless : (refusal : Option FaultType) (level : TableLevel) (a : Action Translated) → Silent a → Silent (unless_refused refusal level a)
silent_unless None level a h = h
silent_unless (Some kind) level a h = silent_done _

silent_settled : (limit va : ℕ) (access_type : AccessType) (reach : Reach) (w : Walked) → Silent (settled limit va access_type reach w)
unfolding settled
silent_settled limit va access_type reach (Fault kind level) = silent_done _
silent_settled limit va access_type reach (Page e level at) =
    silent_unless (fault_type access_type e) level _ (silent_if (is_served limit reach (physical_address e level va)) _ _ (silent_marks access_type e at _) (silent_done _))

pub silent_translate : (limit : ℕ) (r : Mmu) (va : ℕ) (access_type : AccessType) (reach : Reach) → Silent (translate limit r va access_type reach)
unfolding translate
silent_translate limit r va access_type reach =
    silent_if (translates r) _ _ (silent_then _ _ (silent_walk limit r.table_pointer r.context va) (λ w. silent_settled limit va access_type reach w)) (silent_done _)

silent_sought : (limit depth : ℕ) (below : List TableIndex) (e : ℕ) → Silent (sought limit depth below e)
unfolding sought
silent_sought limit zero below e = silent_done _
silent_sought limit (suc depth) [] e = silent_done _
silent_sought limit (suc depth) (to ∷ below) e =
    silent_if (is_pointer e) _ _ (silent_entry limit (table_of e + 4 * to.index) 0 _ (λ v. silent_sought limit depth below v)) (silent_done _)

pub silent_probe : (limit : ℕ) (r : Mmu) (va : ℕ) → Silent (probe limit r va)
unfolding probe
silent_probe limit r va =
    silent_if (nat_lt (probe_type va) 4) _ _ (silent_entry limit (root_of r.table_pointer r.context) 0 _ (λ v. silent_sought limit _ (indices_of va) v))
    (silent_if (probe_type va == 4) _ _ (silent_then _ _ (silent_walk limit r.table_pointer r.context va) (λ w. silent_done _)) (silent_done _))

pub silent_tick : (timer : Timer) → Silent (tick timer)
unfolding tick
silent_tick timer = silent_if (timer.count == 0) _ _ (silent_done _) (silent_if (timer.count == 1) _ _ (record { none = λ o. refl }) (silent_done _))

-- ---- an address that is translated keeps its place in its page

abbrev KeepsPlace : ℕ → Translated → Type 0
KeepsPlace va (translated.At pa) = pa % 8 ≡ va % 8
KeepsPlace va (translated.Refused kind level) = Unit {0}

address_keeps : (e : ℕ) (at : TableLevel) (va : ℕ) → physical_address e at va % 8 ≡ va % 8
unfolding physical_address
address_keeps e level.Context va = omega arith
address_keeps e level.Level1 va = omega arith
address_keeps e level.Level2 va = omega arith
address_keeps e level.Level3 va = omega arith

marks_keep : (access_type : AccessType) (e at va pa : ℕ) (o : Outside) (b : Bool) → pa % 8 ≡ va % 8
    → KeepsPlace va (result_of (cond b (done (translated.At pa)) (store_word (at / 4) (marked access_type e) (done (translated.At pa)))) o)
marks_keep access_type e at va pa o true h = h
marks_keep access_type e at va pa o false h = h

reached_keeps : (access_type : AccessType) (e at va pa : ℕ) (o : Outside) (b : Bool) (refusal : Translated) → KeepsPlace va refusal → pa % 8 ≡ va % 8
    → KeepsPlace va (result_of (cond b (with_marks access_type e at (translated.At pa)) (done refusal)) o)
reached_keeps access_type e at va pa o true refusal k h = marks_keep access_type e at va pa o (marked access_type e == e) h
reached_keeps access_type e at va pa o false refusal k h = k

unless_keeps : (va : ℕ) (q : Option FaultType) (level : TableLevel) (a : Action Translated) (o : Outside) → KeepsPlace va (result_of a o) → KeepsPlace va (result_of (unless_refused q level a) o)
unless_keeps va None level a o h = h
unless_keeps va (Some kind) level a o h = tt

settled_keeps : (limit va : ℕ) (access_type : AccessType) (reach : Reach) (w : Walked) (o : Outside) → KeepsPlace va (result_of (settled limit va access_type reach w) o)
unfolding settled
settled_keeps limit va access_type reach (Fault kind level) o = tt
settled_keeps limit va access_type reach (Page e level at) o =
    let pa = physical_address e level va in
    unless_keeps va (fault_type access_type e) level _ o (reached_keeps access_type e at va pa o (is_served limit reach pa) _ tt (address_keeps e level va))

translated_if : (va : ℕ) (b : Bool) (x y : Action Translated) (o : Outside) → KeepsPlace va (result_of x o) → KeepsPlace va (result_of y o) → KeepsPlace va (result_of (cond b x y) o)
translated_if va true x y o p q = p
translated_if va false x y o p q = q

translate_keeps : (limit : ℕ) (r : Mmu) (va : ℕ) (access_type : AccessType) (reach : Reach) (o : Outside) → KeepsPlace va (result_of (translate limit r va access_type reach) o)
unfolding translate
translate_keeps limit r va access_type reach o =
    let a = walk limit r.table_pointer r.context va in
    translated_if va (translates r) _ _ o
    (subst (KeepsPlace va) (sym (result_of-then a (settled limit va access_type reach) o)) (settled_keeps limit va access_type reach (result_of a o) (after a o))) refl

aligned_there : (size : Size) (pa va : ℕ) → pa % 8 ≡ va % 8 → va % bytes_in size ≡ 0 → pa % bytes_in size ≡ 0
aligned_there Byte pa va e h = omega arith
aligned_there Half pa va e h = omega (arith, e, h)
aligned_there Word pa va e h = omega (arith, e, h)
aligned_there Double pa va e h = omega (arith, e, h)

-- ---- actions of which all that is seen is touched

pub record Shows {R : Type 0} (limit : ℕ) (a : Action R) : Type 0 where
  pub touched : (o : Outside) → Each (IsTouched limit (touches a o)) (observations a o)

shows_silent : {R : Type 0} (limit : ℕ) (a : Action R) → Silent a → Shows limit a
shows_silent limit a s = record { touched = λ o. subst (Each (IsTouched limit (touches a o))) (sym (s.none o)) tt }

shows_done : {R : Type 0} (limit : ℕ) (x : R) → Shows limit (done x)
shows_done limit x = record { touched = λ o. tt }

shows_if : {R : Type 0} (limit : ℕ) (b : Bool) (x y : Action R) → Shows limit x → Shows limit y → Shows limit (cond b x y)
shows_if limit true x y p q = p
shows_if limit false x y p q = q

-- what follows may depend on what the first led to
shows_then : {A B : Type 0} (limit : ℕ) (a : Action A) (f : A → Action B) → Shows limit a → ((o : Outside) → Shows limit (f (result_of a o))) → Shows limit (a >>= f)
shows_then limit a f p q = record {
  touched = λ o.
      let b = f (result_of a o) in
      let ts = touches a o in
      let us = touches b (after a o) in
      subst (λ vs. Each (IsTouched limit vs) (observations (a >>= f) o)) (sym (touches-then a f o))
      (subst (Each (IsTouched limit (ts ++ us))) (sym (observations-then a f o))
      (each_append (IsTouched limit (ts ++ us)) (observations a o) (observations b (after a o))
      (each_map (IsTouched limit ts) (IsTouched limit (ts ++ us)) (front_touched limit ts us) (observations a o) (p.touched o))
      (each_map (IsTouched limit us) (IsTouched limit (ts ++ us)) (behind_touched limit ts us) (observations b (after a o)) ((q o).touched (after a o)))));
}

-- a trap is no access
shows_trap : {R : Type 0} (limit type : ℕ) (x : R) → Shows limit (observe (seen.Trap type) (done x))
shows_trap limit type x = record { touched = λ o. (tt, tt) }

-- ---- accesses at a physical address

-- an access beyond RAM
beyond : (limit : ℕ) (kind : AccessKind) (size : Size) (va pa : ℕ) (ts : List Touch) → limit ≤ pa → IsTouched limit ts (access_seen kind size va pa)
beyond limit kind Byte va pa ts h = (omega arith, λ inside i low high. absurd (omega (arith, h, inside)))
beyond limit kind Half va pa ts h = (omega arith, λ inside i low high. absurd (omega (arith, h, inside)))
beyond limit kind Word va pa ts h = (omega arith, λ inside i low high. absurd (omega (arith, h, inside)))
beyond limit kind Double va pa ts h = (omega arith, λ inside i low high. absurd (omega (arith, h, inside)))

-- the words of an access are touched by a load from RAM, and by a store to it
read_in : (limit : ℕ) (kind : AccessKind) (size : Size) (va pa : ℕ) (o : Outside) (us : List Touch) → pa % bytes_in size ≡ 0
    → IsTouched limit (touches (ram_load size pa) o ++ us) (access_seen kind size va pa)
read_in limit kind Byte va pa o us h = (omega arith, λ inside i low high. read_here (word_address pa) i us (omega (arith, low, high)))
read_in limit kind Half va pa o us h = (omega arith, λ inside i low high. read_here (word_address pa) i (Read (word_address (pa + 1)) ∷ us) (omega (arith, h, low, high)))
read_in limit kind Word va pa o us h = (omega arith, λ inside i low high. read_here (4 * (pa / 4)) i us (omega (arith, h, low, high)))
read_in limit kind Double va pa o us h = (omega arith, λ inside i low high. at i low high (cases_lt i (pa + 4)))
  where
    at : (i : ℕ) → pa ≤ i → i < pa + 8 → (i < pa + 4) ⊎ (pa + 4 ≤ i) → touches_byte (Read (4 * (pa / 4)) ∷ Read (4 * (pa / 4 + 1)) ∷ us) i ≡ true
    at i low high (inl below) = read_here (4 * (pa / 4)) i (Read (4 * (pa / 4 + 1)) ∷ us) (omega (arith, h, low, below))
    at i low high (inr above) = touched_behind (Read (4 * (pa / 4)) ∷ []) (Read (4 * (pa / 4 + 1)) ∷ us) i (read_here (4 * (pa / 4 + 1)) i us (omega (arith, h, above, high)))

written_in : {R : Type 0} (limit : ℕ) (kind : AccessKind) (size : Size) (va pa value : ℕ) (x : R) (o : Outside) (us : List Touch) → pa % bytes_in size ≡ 0
    → IsTouched limit (touches (ram_store size pa value x) o ++ us) (access_seen kind size va pa)
written_in limit kind Byte va pa value x o us h = (omega arith, λ inside i low high. read_here (word_address pa) i us (omega (arith, low, high)))
written_in limit kind Half va pa value x o us h = (omega arith, λ inside i low high. read_here (word_address pa) i (Read (word_address (pa + 1)) ∷ us) (omega (arith, h, low, high)))
written_in limit kind Word va pa value x o us h = (omega arith, λ inside i low high. write_here (4 * (pa / 4)) i us (omega (arith, h, low, high)))
written_in limit kind Double va pa value x o us h = (omega arith, λ inside i low high. at i low high (cases_lt i (pa + 4)))
  where
    at : (i : ℕ) → pa ≤ i → i < pa + 8 → (i < pa + 4) ⊎ (pa + 4 ≤ i) → touches_byte (Write (4 * (pa / 4)) ∷ Write (4 * (pa / 4 + 1)) ∷ us) i ≡ true
    at i low high (inl below) = write_here (4 * (pa / 4)) i (Write (4 * (pa / 4 + 1)) ∷ us) (omega (arith, h, low, below))
    at i low high (inr above) = touched_behind (Write (4 * (pa / 4)) ∷ []) (Write (4 * (pa / 4 + 1)) ∷ us) i (write_here (4 * (pa / 4 + 1)) i us (omega (arith, h, above, high)))

silent_device_load : (timer : Timer) (pa : ℕ) → Silent (device_load timer pa)
unfolding device_load
silent_device_load timer pa =
    silent_if (pa == output_address) _ _ (silent_done _) (silent_if (pa == count_address) _ _ (silent_done _) (silent_if (pa == reload_address) _ _ (silent_done _)
    (silent_if (pa == pending_address) _ _ (record { none = λ o. refl }) (silent_done _))))

pub silent_outside_load : (timer : Timer) (size : Size) (pa : ℕ) → Silent (outside_load timer size pa)
silent_outside_load timer Byte pa = silent_done _
silent_outside_load timer Half pa = silent_done _
silent_outside_load timer Word pa = silent_device_load timer pa
silent_outside_load timer Double pa = silent_done _

silent_device_store : (timer : Timer) (pa value : ℕ) → Silent (device_store timer pa value)
unfolding device_store
silent_device_store timer pa value =
    silent_if (pa == output_address) _ _ (record { none = λ o. refl }) (silent_if (pa == count_address) _ _ (silent_done _) (silent_if (pa == reload_address) _ _ (silent_done _)
    (silent_if (pa == pending_address) _ _ (record { none = λ o. refl }) (silent_if (pa == input_address) _ _ (silent_done _) (silent_if (pa == waiting_address) _ _ (silent_done _) (silent_done _))))))

pub silent_outside_store : (timer : Timer) (size : Size) (pa value : ℕ) → Silent (outside_store timer size pa value)
silent_outside_store timer Byte pa value = silent_done _
silent_outside_store timer Half pa value = silent_done _
silent_outside_store timer Word pa value = silent_device_store timer pa value
silent_outside_store timer Double pa value = silent_done _

-- an access beyond RAM is seen where a device answers it
beyond_shows : {A E R : Type 0} (limit : ℕ) (kind : AccessKind) (size : Size) (va pa : ℕ) (answer : Result A E) (x : R) → limit ≤ pa
    → Shows limit (observed answer (access_seen kind size va pa) (done x))
beyond_shows limit kind size va pa (Ok value) x h = record { touched = λ o. (beyond limit kind size va pa [] h, tt) }
beyond_shows limit kind size va pa (Err e) x h = shows_done limit x

-- ---- loads, stores and exchanges

module _ (limit : ℕ) (u : Units) (asi va pa : ℕ) where
  load_shows : (size : Size) (inside : Bool) → nat_lt pa limit ≡ inside → pa % bytes_in size ≡ 0
      → Shows limit (cond inside (ram_load size pa >>= device_answered) (outside_load u.timer size pa) >>= λ answer. observed answer (access_seen kind.Load size va pa) (done (load_answer u asi va answer)))
  unfolding ◌>>=◌
  load_shows Byte true e h = record { touched = λ o. (read_in limit kind.Load Byte va pa o [] h, tt) }
  load_shows Half true e h = record { touched = λ o. (read_in limit kind.Load Half va pa o [] h, tt) }
  load_shows Word true e h = record { touched = λ o. (read_in limit kind.Load Word va pa o [] h, tt) }
  load_shows Double true e h = record { touched = λ o. (read_in limit kind.Load Double va pa o [] h, tt) }
  load_shows size false e h =
      shows_then limit (outside_load u.timer size pa) _ (shows_silent limit _ (silent_outside_load u.timer size pa))
      (λ o. beyond_shows limit kind.Load size va pa (result_of (outside_load u.timer size pa) o) _ (ltb-false pa limit e))

  plain_shows : (size : Size) → pa % bytes_in size ≡ 0 → Shows limit (plainly_loaded limit u size asi va pa)
  unfolding plainly_loaded
  plain_shows size h = load_shows size (nat_lt pa limit) refl h

  second_true : (a b : Bool) → (a && b) ≡ true → b ≡ true
  second_true true b h = h
  second_true false b h = absurd (false≢true h)

  at_device : (size : Size) (address : ℕ) → limit ≤ input_address → input_address ≤ address → (is_word size && pa == address) ≡ true → limit ≤ pa
  at_device size address low up e =
      let test : (pa == address) ≡ true = second_true (is_word size) (pa == address) e in
      let same : pa ≡ address = grind (arith, nat_tests, test) in
      omega (arith, same, low, up)

  console_shows : (size : Size) (takes counts : Bool) → takes_byte size pa ≡ takes → counts_bytes size pa ≡ counts → limit ≤ input_address → pa % bytes_in size ≡ 0
      → Shows limit (cond takes (take_input (λ byte. done byte) >>= λ byte. observe (access_seen kind.Load size va pa) (done (served u byte)))
      (cond counts (count_waiting (λ count. done count) >>= λ count. observe (access_seen kind.Load size va pa) (done (served u count))) (plainly_loaded limit u size asi va pa)))
  unfolding ◌>>=◌
  console_shows size true counts e f low h = record { touched = λ o. (beyond limit kind.Load size va pa (Input ∷ []) (at_device size input_address low (omega arith) e), tt) }
  console_shows size false true e f low h = record { touched = λ o. (beyond limit kind.Load size va pa (Input ∷ []) (at_device size waiting_address low (omega arith) f), tt) }
  console_shows size false false e f low h = plain_shows size h

  loaded_shows : (size : Size) → limit ≤ input_address → pa % bytes_in size ≡ 0 → Shows limit (loaded_from limit u size asi va pa)
  unfolding loaded_from
  loaded_shows size low h = console_shows size (takes_byte size pa) (counts_bytes size pa) refl refl low h

  module _ (value : ℕ) where
    store_shows : (size : Size) (inside : Bool) → nat_lt pa limit ≡ inside → pa % bytes_in size ≡ 0
        → Shows limit (cond inside (ram_store size pa value (stored_with u.timer)) (outside_store u.timer size pa value) >>= λ s. observed s.answer (access_seen kind.Store size va pa) (done (store_answer u asi va s)))
    unfolding ◌>>=◌
    store_shows Byte true e h = record { touched = λ o. (written_in limit kind.Store Byte va pa value (stored_with u.timer) o [] h, tt) }
    store_shows Half true e h = record { touched = λ o. (written_in limit kind.Store Half va pa value (stored_with u.timer) o [] h, tt) }
    store_shows Word true e h = record { touched = λ o. (written_in limit kind.Store Word va pa value (stored_with u.timer) o [] h, tt) }
    store_shows Double true e h = record { touched = λ o. (written_in limit kind.Store Double va pa value (stored_with u.timer) o [] h, tt) }
    store_shows size false e h =
        shows_then limit (outside_store u.timer size pa value) _ (shows_silent limit _ (silent_outside_store u.timer size pa value))
        (λ o. beyond_shows limit kind.Store size va pa (result_of (outside_store u.timer size pa value) o).answer _ (ltb-false pa limit e))

    stored_shows : (size : Size) → pa % bytes_in size ≡ 0 → Shows limit (stored_at limit u size asi value va pa)
    unfolding stored_at
    stored_shows size h = store_shows size (nat_lt pa limit) refl h

    exchange_shows : (size : Size) → pa % bytes_in size ≡ 0 → Shows limit (observe (access_seen kind.Exchange size va pa) (ram_load size pa >>= λ old. ram_store size pa value (served u old)))
    unfolding ◌>>=◌
    exchange_shows Byte h = record { touched = λ o. (read_in limit kind.Exchange Byte va pa o (Read (word_address pa) ∷ []) h, tt) }
    exchange_shows Half h = record { touched = λ o. (read_in limit kind.Exchange Half va pa o (Read (word_address pa) ∷ Read (word_address (pa + 1)) ∷ []) h, tt) }
    exchange_shows Word h = record { touched = λ o. (read_in limit kind.Exchange Word va pa o (Write (4 * (pa / 4)) ∷ []) h, tt) }
    exchange_shows Double h = record { touched = λ o. (read_in limit kind.Exchange Double va pa o (Write (4 * (pa / 4)) ∷ Write (4 * (pa / 4 + 1)) ∷ []) h, tt) }

    exchanged_shows : (size : Size) → pa % bytes_in size ≡ 0 → Shows limit (exchanged_at limit u size asi value va pa)
    unfolding exchanged_at
    exchanged_shows size h = shows_if limit (nat_lt pa limit) _ _ (exchange_shows size h) (shows_done limit _)

  fetch_shows : Shows limit (fetched_from limit u asi va pa)
  unfolding fetched_from ◌>>=◌
  fetch_shows = shows_if limit (nat_lt pa limit) _ _ (record { touched = λ o. (read_here (4 * (pa / 4)) pa [] refl, tt) }) (shows_done limit _)

-- ---- accesses at a virtual address

module _ (limit : ℕ) (u : Units) (trap : Trap) (asi : ℕ) (access_type : AccessType) (va : ℕ) (use_address : ℕ → Action Served) (use_shows : (pa : ℕ) → pa % 8 ≡ va % 8 → Shows limit (use_address pa)) where
  located_shows : (t : Translated) → KeepsPlace va t → Shows limit (located u trap asi access_type va use_address t)
  located_shows (translated.At pa) k = use_shows pa k
  located_shows (translated.Refused kind level) k = shows_done limit _

  virtual_shows : (reach : Reach) → Shows limit (at_virtual limit u trap asi access_type reach va use_address)
  unfolding at_virtual
  virtual_shows reach =
      shows_then limit (translate limit u.mmu va access_type reach) _ (shows_silent limit _ (silent_translate limit u.mmu va access_type reach))
      (λ o. located_shows (result_of (translate limit u.mmu va access_type reach) o) (translate_keeps limit u.mmu va access_type reach o))

-- ---- accesses by the space

module _ (limit : ℕ) (u : Units) (size : Size) (asi at : ℕ) (h : at % bytes_in size ≡ 0) where
  load_in_shows : limit ≤ input_address → (s : Space) → Shows limit (loaded_in limit u size asi at s)
  load_in_shows low space.Virtual = virtual_shows limit u _ asi _ at _ (λ pa e. loaded_shows limit u asi at pa size low (aligned_there size pa at e h)) (reach_of size)
  load_in_shows low (space.Physical high) = loaded_shows limit u asi at (physical_place high at) size low (place_aligned size high at h)
  load_in_shows low space.Probing = shows_silent limit _ (silent_if (is_word size) _ _ (silent_then _ _ (silent_probe limit u.mmu at) (λ entry. silent_done _)) (silent_done _))
  load_in_shows low space.Registers = shows_done limit _
  load_in_shows low space.Unassigned = shows_done limit _

  store_in_shows : (value : ℕ) (s : Space) → Shows limit (stored_in limit u size asi at value s)
  store_in_shows value space.Virtual = virtual_shows limit u _ asi _ at _ (λ pa e. stored_shows limit u asi at pa value size (aligned_there size pa at e h)) (reach_of size)
  store_in_shows value (space.Physical high) = stored_shows limit u asi at (physical_place high at) value size (place_aligned size high at h)
  store_in_shows value space.Probing = shows_done limit _
  store_in_shows value space.Registers = shows_done limit _
  store_in_shows value space.Unassigned = shows_done limit _

  exchange_in_shows : (value : ℕ) (s : Space) → Shows limit (exchanged_in limit u size asi at value s)
  exchange_in_shows value space.Virtual = virtual_shows limit u _ asi _ at _ (λ pa e. exchanged_shows limit u asi at pa value size (aligned_there size pa at e h)) reach.Ram
  exchange_in_shows value (space.Physical high) = exchanged_shows limit u asi at (physical_place high at) value size (place_aligned size high at h)
  exchange_in_shows value space.Probing = shows_done limit _
  exchange_in_shows value space.Registers = shows_done limit _
  exchange_in_shows value space.Unassigned = shows_done limit _

-- a fetch, whatever its address
fetch_access_shows : (limit : ℕ) (u : Units) (supervisor : Bool) (at : ℕ) → Shows limit (access limit u (request.Fetch supervisor at))
unfolding access
fetch_access_shows limit u supervisor at = virtual_shows limit u _ _ _ at _ (λ pa e. fetch_shows limit u _ at pa) reach.Ram

access_shows : (limit : ℕ) (u : Units) (r : AccessRequest) → limit ≤ input_address → IsAligned r → Shows limit (access limit u r)
unfolding access
access_shows limit u request.Nothing low h = shows_done limit _
access_shows limit u (request.Fetch supervisor at) low h = fetch_access_shows limit u supervisor at
access_shows limit u (request.Load size asi at) low h = load_in_shows limit u size asi at h low (space_of asi)
access_shows limit u (request.Store size asi at value) low h = store_in_shows limit u size asi at h value (space_of asi)
access_shows limit u (request.Exchange size asi at value) low h = exchange_in_shows limit u size asi at h value (space_of asi)

pub accesses_touch : AccessesTouch
accesses_touch limit u r o low h = (access_shows limit u r low h).touched o

-- ---- the steps of an instruction

-- the address of the access of an instruction that raises no trap
aligned_asked : (windows : ℕ) (p : Processor) (i : Instr) → taken (raised windows p i) ≡ None → IsAligned (asked windows p i)
aligned_asked windows p (row.Unimp imm22) e = tt
aligned_asked windows p (row.Bicc condition annul disp22) e = tt
aligned_asked windows p (row.Sethi imm22 rd) e = tt
aligned_asked windows p (row.Call disp30) e = tt
aligned_asked windows p (row.Arith op cc rd rs1 operand) e = tt
aligned_asked windows p (row.Tagged op rd rs1 operand) e = tt
aligned_asked windows p (row.Mulscc rd rs1 operand) e = tt
aligned_asked windows p (row.Shift op rd rs1 count) e = tt
aligned_asked windows p (row.ReadState register rd) e = tt
aligned_asked windows p row.Stbar e = tt
aligned_asked windows p (row.WriteState register rs1 operand) e = tt
aligned_asked windows p (row.Jmpl rd rs1 operand) e = tt
aligned_asked windows p (row.Rett rs1 operand) e = tt
aligned_asked windows p (row.Ticc condition rs1 operand) e = tt
aligned_asked windows p (row.Flush rs1 operand) e = tt
aligned_asked windows p (row.Save rd rs1 operand) e = tt
aligned_asked windows p (row.Restore rd rs1 operand) e = tt
aligned_asked windows p (row.Memory op rd rs1 operand) e = aligned_request windows p op (data_space p) rd (sum_of_sources windows p rs1 operand) e
aligned_asked windows p (row.Alternate op rd rs1 rs2 asi) e = aligned_alternate windows p op asi rd (sum_of_sources windows p rs1 (Register rs2)) e
aligned_asked windows p (row.Fp word) e = tt
aligned_asked windows p (row.Cp word) e = tt
aligned_asked windows p row.AltImm e = tt
aligned_asked windows p row.Illegal e = tt

module _ (windows limit : ℕ) (low : limit ≤ input_address) where
  answer_shows : (r : Response) (x : Inner) → Shows limit (observed_trap r (done x))
  answer_shows (Value value) x = shows_done limit x
  answer_shows (Refused t) x = shows_trap limit _ x

  executed_shows : (m : Inner) (i : Instr) (t : Option Trap) → taken (raised windows m.processor i) ≡ t → Shows limit (executed windows limit m i t)
  unfolding executed
  executed_shows m i (Some t) e = shows_trap limit _ _
  executed_shows m i None e =
      shows_then limit _ _ (access_shows limit m.units (asked windows m.processor i) low (aligned_asked windows m.processor i e)) (λ o. answer_shows _ _)

  pub fetched_shows : (p : Processor) (r : Response) (u : Units) → Shows limit (fetched windows limit p r u)
  fetched_shows p (Refused t) u = shows_trap limit _ _
  fetched_shows p (Value value) u = executed_shows _ _ _ refl

  instruction_shows : (m : Inner) → Shows limit (instruction windows limit m)
  unfolding instruction
  instruction_shows m = shows_then limit _ _ (fetch_access_shows limit m.units m.processor.registers.psr.s m.processor.pc) (λ o. fetched_shows m.processor _ _)

  continued_shows : (m : Inner) → Shows limit (continued windows limit m)
  unfolding continued
  continued_shows m = shows_if limit m.processor.annul _ _ (shows_done limit _) (instruction_shows m)

  requested_shows : (m : Inner) (word : ℕ) → Shows limit (requested windows limit m word)
  unfolding requested
  requested_shows m word = shows_if limit (highest word == 0) _ _ (continued_shows m) (shows_trap limit _ _)

  interruptible_shows : (m : Inner) → Shows limit (interruptible windows limit m)
  unfolding interruptible
  interruptible_shows m =
      shows_if limit m.processor.registers.psr.et _ _ (shows_then limit _ _ (shows_silent limit _ (record { none = λ o. refl })) (λ o. requested_shows m _)) (continued_shows m)

  action_shows : (m : Inner) → Shows limit (action windows limit m)
  unfolding action awake
  action_shows m =
      shows_if limit m.processor.running _ _ (shows_then limit _ _ (shows_silent limit _ (silent_tick m.units.timer)) (λ o. interruptible_shows _)) (shows_done limit m)

pub steps_touch : StepsTouch
unfolding run.footprint run.observed
steps_touch windows pages schedule n s few =
    let t = run.eventful schedule n s in
    (action_shows windows (ram_size pages) (omega (arith, few)) (inner_of t)).touched (outside_of t.memory (arrived (n + 1) schedule))
