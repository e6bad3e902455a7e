-- What a step touches as data: the accesses of its instruction, and each byte that it changes. The first word that it touches it loads, to fetch.
use Rattle.std.proofs.Common.{◌≡◌, ℕ, ◌+◌, ◌<◌, ◌≤◌, ◌==◌, Bool, true, false, cond, nat_lt, Option, Some, None, List, [], ◌∷◌, ◌++◌, length, slice_set, get_or, refl, sym, ◌∙◌, ap, subst, arith}
use Rattle.std.specs.Prelude.{◌||◌}
use Rattle.std.proofs.lemmas.Bool.{false≢true}
use Rattle.std.proofs.lemmas.List.Folds.{list_any-append}
use Rattle.std.proofs.Math.Bool.{or-true}
use Rattle.sv8_model.specs.declared.touch.Touch.{Touch}
use Rattle.sv8_model.specs.declared.touch.TouchKind.TheVariants.{Any, Data}
use Rattle.sv8_model.specs.declared.observation.Observation.{Observation}
use Rattle.sv8_model.specs.declared.observation.Observation.TheVariants as seen
use Rattle.sv8_model.specs.Words.{field}
use Rattle.sv8_model.specs.Outside.{Outside, word_address, oldest, without_oldest}
use Rattle.sv8_model.specs.Levels.{asked, cleared, timer_level}
use Rattle.sv8_model.specs.Footprint.{is_touch_of}
use Rattle.sv8_model.specs.Action.{Action, done, load_word, store_word, load_byte, store_byte, take_input, count_waiting, emit, ask_levels, clear_levels, expire, observe, ◌>>=◌, result_of, after, touches, observations}
use Rattle.sv8_model.proofs.Actions.{result_of-then, touches-then, observations-then}
use Rattle.sv8_time.specs.Order.{Each}
use Rattle.sv8_time.proofs.Parts.{each_map, each_append}
use Rattle.sv8_phys.specs.declared.timer.Timer.{Timer}
use Rattle.sv8_phys.specs.Memory.{ram_size}
use Rattle.sv8_time.specs.Schedule.{arrived}
use Rattle.sv8_phys.specs.Contents.{outside_of}
use Rattle.sv8_model.specs.Devices.{input_address}
use Rattle.sv8_phys.specs.Devices.{tick}
use Rattle.sv8_mmu.specs.declared.access_type.AccessType.{AccessType}
use Rattle.sv8_mmu.specs.declared.registers.Mmu.{Mmu}
use Rattle.sv8_mmu.specs.declared.registers.Fault.{Fault}
use Rattle.sv8_mmu.specs.declared.walk.Walked.{Walked}
use Rattle.sv8_mmu.specs.declared.walk.Walked.TheVariants as walked
use Rattle.sv8_mmu.specs.declared.translation.Reach.{Reach}
use Rattle.sv8_mmu.specs.declared.translation.Reach.TheVariants as reach
use Rattle.sv8_mmu.specs.declared.translation.Translated.{Translated}
use Rattle.sv8_mmu.specs.declared.translation.Translated.TheVariants as translated
use Rattle.sv8_mmu.specs.Registers.{translates}
use Rattle.sv8_mmu.specs.Walk.{root_of, walk}
use Rattle.sv8_mmu.specs.Translation.{settled, translate}
use Rattle.sv8_isa.specs.Table.{meaning}
use Rattle.sv8_trap.specs.declared.table.Trap.{Trap}
use Rattle.sv8_trap.specs.declared.table.Trap.TheVariants.{IllegalInstruction}
use Rattle.sv8_trap.specs.Table.{taken}
use Rattle.sv8_trap.specs.Processor.{Processor}
use Rattle.sv8_trap.specs.Interrupt.{unmasked, highest}
use Rattle.sv8_trap.specs.declared.request.AccessRequest.TheVariants.{Fetch}
use Rattle.sv8_trap.specs.declared.request.Response.{Response}
use Rattle.sv8_trap.specs.declared.request.Response.TheVariants.{Value, Refused}
use Rattle.sv8_iu.specs.Instruction.{raised}
use Rattle.sv8_memory.specs.Units.{Units, Served, is_hidden, failed}
use Rattle.sv8_memory.specs.Access.{located, at_virtual, fetched_from, access}
use Rattle.sv8_cpu.specs.State.{inner_of}
use Rattle.sv8_cpu.specs.Step.{Inner, executed, fetched, instruction, continued, requested, interruptible, awake, with_timer, action}
use Rattle.sv8_cpu.specs.Run as run
use Rattle.sv8_cpu.specs.Touching.{IsTouched, IsOfData, SparedBytesStay, AccessesAreData}
use Rattle.sv8_step_laws.proofs.Touched.{touched_is}
use Rattle.sv8_step_laws.proofs.FirstTouch.{rest, wordless, rest_past, rest_before, wordless_behind, of, no_data, is_data_behind}
use Rattle.sv8_step_laws.proofs.Spared.{stays, spared_by_any, unpoked_stays}
use Rattle.sv8_step_laws.proofs.Seen.{Silent, silent_tick, silent_translate, fetched_shows}

-- ---- actions that load the first word that they touch

abbrev Opens : {R : Type 0} → Action R → Outside → Type 0
Opens (done x) o = Unit {0}
Opens (load_word k g) o = Unit {0}
Opens (store_word k v a) o = ⊥
Opens (load_byte i g) o = Unit {0}
Opens (store_byte i v a) o = ⊥
Opens (take_input g) o = Opens (g (oldest o.waiting)) (record o { waiting = without_oldest o.waiting })
Opens (count_waiting g) o = Opens (g (length o.waiting)) o
Opens (emit b a) o = Opens a (record o { output = o.output ++ b ∷ [] })
Opens (ask_levels w g) o = Opens (g (asked w o.pending)) o
Opens (clear_levels w a) o = Opens a (record o { pending = cleared w o.pending })
Opens (expire a) o = Opens a (record o { pending = slice_set o.pending timer_level true })
Opens (observe s a) o = Opens a o

-- a byte whose word is not touched behind that word stays
opened_stays : {R : Type 0} (a : Action R) (o : Outside) (i : ℕ) → Opens a o → of (word_address i) (rest (touches a o)) ≡ false → get_or (after a o).ram i 0 ≡ get_or o.ram i 0
opened_stays (done x) o i p h = refl
opened_stays (load_word k g) o i p h = stays (g _) o i h
opened_stays (store_word k v a) o i p h = absurd p
opened_stays (load_byte j g) o i p h = stays (g _) o i h
opened_stays (store_byte j v a) o i p h = absurd p
opened_stays (take_input g) o i p h = opened_stays (g _) _ i p h
opened_stays (count_waiting g) o i p h = opened_stays (g _) o i p h
opened_stays (emit b a) o i p h = opened_stays a _ i p h
opened_stays (ask_levels w g) o i p h = opened_stays (g _) o i p h
opened_stays (clear_levels w a) o i p h = opened_stays a _ i p h
opened_stays (expire a) o i p h = opened_stays a _ i p h
opened_stays (observe s a) o i p h = opened_stays a o i p h

opens_if : {R : Type 0} (b : Bool) (x y : Action R) (o : Outside) → Opens x o → Opens y o → Opens (cond b x y) o
opens_if true x y o p q = p
opens_if false x y o p q = q

-- one action after another: the second has to where the first touches no word
opens_then : {A B : Type 0} (a : Action A) (f : A → Action B) (o : Outside) → Opens a o → (wordless (touches a o) ≡ true → Opens (f (result_of a o)) (after a o)) → Opens (a >>= f) o
unfolding ◌>>=◌
opens_then (done x) f o p q = q refl
opens_then (load_word k g) f o p q = tt
opens_then (store_word k v a) f o p q = absurd p
opens_then (load_byte i g) f o p q = tt
opens_then (store_byte i v a) f o p q = absurd p
opens_then (take_input g) f o p q = opens_then (g _) f _ p q
opens_then (count_waiting g) f o p q = opens_then (g _) f o p q
opens_then (emit b a) f o p q = opens_then a f _ p q
opens_then (ask_levels w g) f o p q = opens_then (g _) f o p q
opens_then (clear_levels w a) f o p q = opens_then a f _ p q
opens_then (expire a) f o p q = opens_then a f _ p q
opens_then (observe s a) f o p q = opens_then a f o p q

-- ---- a fetch

-- no access is seen
abbrev NoAccess : Observation → Type 0
NoAccess (seen.Fetch from word) = Unit {0}
NoAccess (seen.Access kind bytes va pa) = ⊥
NoAccess (seen.Trap type) = Unit {0}

-- the fetch gives no instruction, or the word 0, which is one that traps
abbrev Dud : Response → Type 0
Dud (Value value) = value ≡ 0
Dud (Refused t) = Unit {0}

record Fetches (a : Action Served) : Type 0 where
  pub opens : (o : Outside) → Opens a o
  pub dud : (o : Outside) → wordless (touches a o) ≡ true → Dud (result_of a o).response
  pub unseen : (o : Outside) → Each NoAccess (observations a o)

failed_dud : (u : Units) (trap : Trap) (asi : ℕ) (f : Fault) → Dud (failed u trap asi f).response
unfolding failed
failed_dud u trap asi f = by_case (is_hidden u.mmu asi)
  where
    by_case : (b : Bool) → Dud (cond b (Value 0) (Refused trap))
    by_case true = refl
    by_case false = tt

fetches_failed : (u : Units) (trap : Trap) (asi : ℕ) (f : Fault) → Fetches (done (failed u trap asi f))
fetches_failed u trap asi f = record { opens = λ o. tt; dud = λ o h. failed_dud u trap asi f; unseen = λ o. tt }

fetches_if : (b : Bool) (x y : Action Served) → Fetches x → Fetches y → Fetches (cond b x y)
fetches_if true x y p q = p
fetches_if false x y p q = q

fetched_fetches : (limit : ℕ) (u : Units) (asi va pa : ℕ) → Fetches (fetched_from limit u asi va pa)
unfolding fetched_from ◌>>=◌
fetched_fetches limit u asi va pa =
    fetches_if (nat_lt pa limit) _ _ (record { opens = λ o. tt; dud = λ o h. absurd (false≢true h); unseen = λ o. (tt, tt) }) (fetches_failed u _ asi _)

-- a walk that touches no word ends in a fault
abbrev IsFault : Walked → Type 0
IsFault (walked.Page e level at) = ⊥
IsFault (walked.Fault kind level) = Unit {0}

walk_opens : (limit table_pointer context va : ℕ) (o : Outside) → Opens (walk limit table_pointer context va) o
unfolding walk
walk_opens limit table_pointer context va o = opens_if (nat_lt (root_of table_pointer context) limit) _ _ o tt tt

walk_faults : (limit table_pointer context va : ℕ) (o : Outside) → wordless (touches (walk limit table_pointer context va) o) ≡ true → IsFault (result_of (walk limit table_pointer context va) o)
unfolding walk
walk_faults limit table_pointer context va o h = by_case (nat_lt (root_of table_pointer context) limit) _ _ _ tt h
  where
    by_case : (b : Bool) (k : ℕ) (g : ℕ → Action Walked) (outside : Walked) → IsFault outside → wordless (touches (cond b (load_word k g) (done outside)) o) ≡ true
        → IsFault (result_of (cond b (load_word k g) (done outside)) o)
    by_case true k g outside it e = absurd (false≢true e)
    by_case false k g outside it e = it

settled_opens : (limit va : ℕ) (access_type : AccessType) (reach : Reach) (w : Walked) (o : Outside) → IsFault w → Opens (settled limit va access_type reach w) o
unfolding settled
settled_opens limit va access_type reach (walked.Page e level at) o h = absurd h
settled_opens limit va access_type reach (walked.Fault kind level) o h = tt

translate_opens : (limit : ℕ) (r : Mmu) (va : ℕ) (access_type : AccessType) (reach : Reach) (o : Outside) → Opens (translate limit r va access_type reach) o
unfolding translate
translate_opens limit r va access_type reach o =
    opens_if (translates r) _ _ o
    (opens_then (walk limit r.table_pointer r.context va) (λ w. settled limit va access_type reach w) o (walk_opens limit r.table_pointer r.context va o)
    (λ h. settled_opens limit va access_type reach _ _ (walk_faults limit r.table_pointer r.context va o h)))
    tt

module _ (limit : ℕ) (u : Units) (trap : Trap) (asi : ℕ) (access_type : AccessType) (va : ℕ) (use_address : ℕ → Action Served) (uses : (pa : ℕ) → Fetches (use_address pa)) where
  located_fetches : (t : Translated) → Fetches (located u trap asi access_type va use_address t)
  located_fetches (translated.At pa) = uses pa
  located_fetches (translated.Refused kind level) = fetches_failed u trap asi _

  virtual_fetches : (reach : Reach) → Fetches (at_virtual limit u trap asi access_type reach va use_address)
  unfolding at_virtual
  virtual_fetches reach =
      let a = translate limit u.mmu va access_type reach in
      let f = located u trap asi access_type va use_address in
      record {
        opens = λ o. opens_then a f o (translate_opens limit u.mmu va access_type reach o) (λ h. (located_fetches (result_of a o)).opens (after a o));
        dud = λ o h.
            let both = subst (λ ts. wordless ts ≡ true) (touches-then a f o) h in
            subst (λ (s : Served). Dud s.response) (sym (result_of-then a f o))
            ((located_fetches (result_of a o)).dud (after a o) (wordless_behind (touches a o) (touches (f (result_of a o)) (after a o)) both));
        unseen = λ o.
            subst (Each NoAccess) (sym (observations-then a f o ∙ ap (λ os. os ++ observations (f (result_of a o)) (after a o)) ((silent_translate limit u.mmu va access_type reach).none o)))
            ((located_fetches (result_of a o)).unseen (after a o));
      }

access_fetches : (limit : ℕ) (u : Units) (supervisor : Bool) (at : ℕ) → Fetches (access limit u (Fetch supervisor at))
unfolding access
access_fetches limit u supervisor at = virtual_fetches limit u _ _ _ at _ (λ pa. fetched_fetches limit u _ at pa) reach.Ram

-- ---- what comes behind a fetch that gave no instruction

-- the word 0 is an illegal instruction
zero_traps : (windows : ℕ) (p : Processor) → raised windows p (meaning 0) ≡ IllegalInstruction ∷ []
unfolding meaning field
zero_traps windows p = refl

zero_ends : (windows limit : ℕ) (p : Processor) (u : Units) (o : Outside) (t : Option Trap) → t ≡ taken (IllegalInstruction ∷ [])
    → Opens (executed windows limit (record { processor = p; units = u }) (meaning 0) t) o × Each NoAccess (observations (executed windows limit (record { processor = p; units = u }) (meaning 0) t) o)
unfolding executed
zero_ends windows limit p u o (Some t) e = (tt, (tt, tt))
zero_ends windows limit p u o None e = absurd cc

dud_ends : (windows limit : ℕ) (p : Processor) (r : Response) (u : Units) (o : Outside) → Dud r
    → Opens (fetched windows limit p r u) o × Each NoAccess (observations (fetched windows limit p r u) o)
dud_ends windows limit p (Refused t) u o h = (tt, (tt, tt))
dud_ends windows limit p (Value value) u o h =
    subst (λ v. Opens (fetched windows limit p (Value v) u) o × Each NoAccess (observations (fetched windows limit p (Value v) u) o)) (sym h)
    (zero_ends windows limit p u o (taken (raised windows p (meaning 0))) (ap taken (zero_traps windows p)))

-- ---- a step opens with a load

module _ (windows limit : ℕ) where
  instruction_opens : (m : Inner) (o : Outside) → Opens (instruction windows limit m) o
  unfolding instruction
  instruction_opens m o =
      let fetch = access_fetches limit m.units m.processor.registers.psr.s m.processor.pc in
      opens_then (access limit m.units (Fetch m.processor.registers.psr.s m.processor.pc)) (λ s. fetched windows limit m.processor s.response s.units) o (fetch.opens o)
      (λ h. (dud_ends windows limit m.processor _ _ _ (fetch.dud o h)).0)

  continued_opens : (m : Inner) (o : Outside) → Opens (continued windows limit m) o
  unfolding continued
  continued_opens m o = opens_if m.processor.annul _ _ o tt (instruction_opens m o)

  requested_opens : (m : Inner) (word : ℕ) (o : Outside) → Opens (requested windows limit m word) o
  unfolding requested
  requested_opens m word o = opens_if (highest word == 0) _ _ o (continued_opens m o) tt

  interruptible_opens : (m : Inner) (o : Outside) → Opens (interruptible windows limit m) o
  unfolding interruptible
  interruptible_opens m o =
      opens_if m.processor.registers.psr.et _ _ o
      (opens_then (ask_levels (unmasked m.processor.registers.psr.pil) (λ word. done word)) (requested windows limit m) o tt (λ h. requested_opens m _ o))
      (continued_opens m o)

  tick_opens : (timer : Timer) (o : Outside) → Opens (tick timer) o
  unfolding tick
  tick_opens timer o = opens_if (timer.count == 0) _ _ o tt (opens_if (timer.count == 1) _ _ o tt tt)

  action_opens : (m : Inner) (o : Outside) → Opens (action windows limit m) o
  unfolding action awake
  action_opens m o =
      opens_if m.processor.running _ _ o
      (opens_then (tick m.units.timer) (λ timer. interruptible windows limit (with_timer m timer)) o (tick_opens m.units.timer o) (λ h. interruptible_opens _ _))
      tt

pub spared_bytes_stay : SparedBytesStay
unfolding run.step run.footprint
spared_bytes_stay Any windows pages schedule n s address count spared = spared_by_any windows pages schedule n s address count spared
spared_bytes_stay Data windows pages schedule n s address count spared = λ i low high.
    let t = run.eventful schedule n s in
    let o = outside_of t.memory (arrived (n + 1) schedule) in
    opened_stays (run.step_action windows pages t) o i (action_opens windows (ram_size pages) (inner_of t) o) (no_data (word_address i) (touches (run.step_action windows pages t) o) (spared.touched i low high))
    ∙ unpoked_stays schedule n s address count i low high spared.poked

-- ---- each access is late

-- its bytes lie in words that are touched behind the first one
abbrev IsLate : ℕ → List Touch → Observation → Type 0
IsLate limit ts (seen.Fetch from word) = Unit {0}
IsLate limit ts (seen.Access kind bytes va pa) = (1 ≤ bytes) × (pa < limit → (i : ℕ) → pa ≤ i → i < pa + bytes → of (word_address i) (rest ts) ≡ true)
IsLate limit ts (seen.Trap type) = Unit {0}

record Late {R : Type 0} (limit : ℕ) (a : Action R) : Type 0 where
  pub late : (o : Outside) → Each (IsLate limit (touches a o)) (observations a o)

late_if : {R : Type 0} (limit : ℕ) (b : Bool) (x y : Action R) → Late limit x → Late limit y → Late limit (cond b x y)
late_if limit true x y p q = p
late_if limit false x y p q = q

-- none is seen
unseen_late : (limit : ℕ) (ts : List Touch) (s : Observation) → NoAccess s → IsLate limit ts s
unseen_late limit ts (seen.Fetch from word) h = tt
unseen_late limit ts (seen.Access kind bytes va pa) h = absurd h
unseen_late limit ts (seen.Trap type) h = tt

-- behind touches of no word
past_late : (limit : ℕ) (ts us : List Touch) → wordless ts ≡ true → (s : Observation) → IsLate limit us s → IsLate limit (ts ++ us) s
past_late limit ts us none (seen.Fetch from word) h = tt
past_late limit ts us none (seen.Access kind bytes va pa) h = (h.0, λ inside i low high. ap (of (word_address i)) (rest_past ts us none) ∙ h.1 inside i low high)
past_late limit ts us none (seen.Trap type) h = tt

-- behind touches of some word all that is touched is
or_behind : (a b : Bool) → b ≡ true → (a || b) ≡ true
or_behind a b h = ap (λ x. a || x) h ∙ or-true a

touched_late : (limit : ℕ) (ts us : List Touch) → wordless ts ≡ false → (s : Observation) → IsTouched limit us s → IsLate limit (ts ++ us) s
touched_late limit ts us some (seen.Fetch from word) h = tt
touched_late limit ts us some (seen.Access kind bytes va pa) h = (
  h.0,
  λ inside i low high.
      ap (of (word_address i)) (rest_before ts us some) ∙ list_any-append (is_touch_of (word_address i)) (rest ts) us
      ∙ or_behind (of (word_address i) (rest ts)) (of (word_address i) us) (sym (touched_is us i) ∙ h.1 inside i low high),
)
touched_late limit ts us some (seen.Trap type) h = tt

-- behind something that is not seen and touches no word
late_past : {A B : Type 0} (limit : ℕ) (a : Action A) (f : A → Action B) → Silent a → ((o : Outside) → wordless (touches a o) ≡ true) → ((x : A) → Late limit (f x)) → Late limit (a >>= f)
late_past limit a f silent none p = record {
  late = λ o.
      let b = f (result_of a o) in
      let ts = touches a o in
      let us = touches b (after a o) in
      subst (λ vs. Each (IsLate limit vs) (observations (a >>= f) o)) (sym (touches-then a f o))
      (subst (Each (IsLate limit (ts ++ us))) (sym (observations-then a f o ∙ ap (λ os. os ++ observations b (after a o)) (silent.none o)))
      (each_map (IsLate limit us) (IsLate limit (ts ++ us)) (past_late limit ts us (none o)) (observations b (after a o)) ((p (result_of a o)).late (after a o))));
}

module _ (windows limit : ℕ) (low : limit ≤ input_address) where
  instruction_late : (m : Inner) → Late limit (instruction windows limit m)
  unfolding instruction
  instruction_late m = record {
    late = λ o.
        let a = access limit m.units (Fetch m.processor.registers.psr.s m.processor.pc) in
        let f : Served → Action Inner = λ s. fetched windows limit m.processor s.response s.units in
        let fetch = access_fetches limit m.units m.processor.registers.psr.s m.processor.pc in
        let r = result_of a o in
        let ts = touches a o in
        let us = touches (f r) (after a o) in
        subst (λ vs. Each (IsLate limit vs) (observations (a >>= f) o)) (sym (touches-then a f o))
        (subst (Each (IsLate limit (ts ++ us))) (sym (observations-then a f o))
        (each_append (IsLate limit (ts ++ us)) (observations a o) (observations (f r) (after a o))
        (each_map NoAccess (IsLate limit (ts ++ us)) (unseen_late limit (ts ++ us)) (observations a o) (fetch.unseen o))
        (behind_fetched m.processor r.response r.units (after a o) ts (wordless ts) refl (fetch.dud o))));
  }
    where
      behind_fetched : (p : Processor) (r : Response) (u : Units) (o : Outside) (ts : List Touch) (b : Bool) → wordless ts ≡ b → (wordless ts ≡ true → Dud r)
          → Each (IsLate limit (ts ++ touches (fetched windows limit p r u) o)) (observations (fetched windows limit p r u) o)
      behind_fetched p r u o ts true e dud =
          let us = touches (fetched windows limit p r u) o in
          each_map NoAccess (IsLate limit (ts ++ us)) (unseen_late limit (ts ++ us)) (observations (fetched windows limit p r u) o) (dud_ends windows limit p r u o (dud e)).1
      behind_fetched p r u o ts false e dud =
          let us = touches (fetched windows limit p r u) o in
          each_map (IsTouched limit us) (IsLate limit (ts ++ us)) (touched_late limit ts us e) (observations (fetched windows limit p r u) o) ((fetched_shows windows limit low p r u).touched o)

  continued_late : (m : Inner) → Late limit (continued windows limit m)
  unfolding continued
  continued_late m = late_if limit m.processor.annul _ _ (record { late = λ o. tt }) (instruction_late m)

  requested_late : (m : Inner) (word : ℕ) → Late limit (requested windows limit m word)
  unfolding requested
  requested_late m word = late_if limit (highest word == 0) _ _ (continued_late m) (record { late = λ o. (tt, tt) })

  interruptible_late : (m : Inner) → Late limit (interruptible windows limit m)
  unfolding interruptible
  interruptible_late m =
      late_if limit m.processor.registers.psr.et _ _ (late_past limit _ _ (record { none = λ o. refl }) (λ o. refl) (λ word. requested_late m word)) (continued_late m)

  tick_wordless : (timer : Timer) (o : Outside) → wordless (touches (tick timer) o) ≡ true
  unfolding tick
  tick_wordless timer o = by_case (timer.count == 0) (timer.count == 1) _ _ _
    where
      by_case : (b c : Bool) (x y z : Timer) → wordless (touches (cond b (done x) (cond c (expire (done y)) (done z))) o) ≡ true
      by_case true c x y z = refl
      by_case false true x y z = refl
      by_case false false x y z = refl

  action_late : (m : Inner) → Late limit (action windows limit m)
  unfolding action awake
  action_late m =
      late_if limit m.processor.running _ _ (late_past limit _ _ (silent_tick m.units.timer) (tick_wordless m.units.timer) (λ timer. interruptible_late _)) (record { late = λ o. tt })

-- what is late is data
late_is_data : (limit : ℕ) (ts : List Touch) (s : Observation) → IsLate limit ts s → IsOfData limit ts s
late_is_data limit ts (seen.Fetch from word) h = tt
late_is_data limit ts (seen.Access kind bytes va pa) h = (h.0, λ inside i low high. is_data_behind (word_address i) ts (h.1 inside i low high))
late_is_data limit ts (seen.Trap type) h = tt

pub accesses_are_data : AccessesAreData
unfolding run.footprint run.observed
accesses_are_data windows pages schedule n s few =
    let t = run.eventful schedule n s in
    let o = outside_of t.memory (arrived (n + 1) schedule) in
    let a = run.step_action windows pages t in
    each_map (IsLate (ram_size pages) (touches a o)) (IsOfData (ram_size pages) (touches a o)) (late_is_data (ram_size pages) (touches a o)) (observations a o)
    ((action_late windows (ram_size pages) (omega (arith, few)) (inner_of t)).late o)
