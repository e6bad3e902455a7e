-- A step takes an interrupt, or it touches the word at PC.
use Rattle.std.proofs.Common.{◌≡◌, ◌⊎◌, inl, inr, ℕ, zero, suc, ◌+◌, ◌*◌, ◌/◌, ◌≤◌, ◌==◌, Bool, true, false, cond, nat_lt, List, [], ◌∷◌, ◌++◌, refl, sym, ◌∙◌, ap, subst, arith}
use Rattle.std.proofs.lemmas.Bool.Decides.{nat_tests}
use Rattle.sv8_model.specs.declared.touch.Touch.{Touch}
use Rattle.sv8_model.specs.declared.observation.Observation.{Observation}
use Rattle.sv8_model.specs.declared.observation.Observation.TheVariants as seen
use Rattle.sv8_model.specs.Words.{bit}
use Rattle.sv8_model.specs.Outside.{Outside}
use Rattle.sv8_model.specs.Action.{Action, done, observe, ◌>>=◌, result_of, after, touches, observations}
use Rattle.sv8_model.proofs.Actions.{touches-then, observations-then}
use Rattle.sv8_phys.specs.declared.timer.Timer.{Timer}
use Rattle.sv8_phys.specs.Memory.{ram_size}
use Rattle.sv8_time.specs.Schedule.{arrived}
use Rattle.sv8_phys.specs.Contents.{outside_of}
use Rattle.sv8_mmu.specs.declared.access_type.AccessType.{AccessType}
use Rattle.sv8_mmu.specs.declared.registers.Mmu.{Mmu}
use Rattle.sv8_mmu.specs.declared.translation.Reach.{Reach}
use Rattle.sv8_mmu.specs.declared.translation.Translated.TheVariants.{At}
use Rattle.sv8_mmu.specs.Registers.{translates}
use Rattle.sv8_mmu.specs.Translation.{translate}
use Rattle.sv8_trap.specs.declared.table.Trap.TheVariants.{Interrupt}
use Rattle.sv8_trap.specs.Table.{row_of}
use Rattle.sv8_trap.specs.Processor.{slot_skipped}
use Rattle.sv8_trap.specs.Entry.{interrupted}
use Rattle.sv8_trap.specs.Interrupt.{highest_from, highest}
use Rattle.sv8_trap.specs.declared.request.AccessRequest.TheVariants.{Fetch}
use Rattle.sv8_memory.specs.Units.{Units, Served}
use Rattle.sv8_memory.specs.Access.{at_virtual, fetched_from, access}
use Rattle.sv8_iu.specs.Seen.{trap_seen}
use Rattle.sv8_cpu.specs.Step.{Inner, fetched, with_timer, instruction, continued, requested, interruptible, awake, action}
use Rattle.sv8_cpu.specs.State.{inner_of}
use Rattle.sv8_cpu.specs.Run as run
use Rattle.sv8_cpu.specs.Touching.{touches_byte, IsInterrupted, FetchesTouch, AnnulledStepsPass}
use Rattle.sv8_step_laws.proofs.Touched.{read_here, touched_front, touched_behind}
use Rattle.sv8_step_laws.proofs.Seen.{Silent, silent_tick}

-- ---- a fetch with no translation

untranslated : (limit : ℕ) (r : Mmu) (va : ℕ) (access_type : AccessType) (reach : Reach) → translates r ≡ false → translate limit r va access_type reach ≡ done (At va)
unfolding translate
untranslated limit r va access_type reach off = rw off refl

fetch_touches : (limit : ℕ) (u : Units) (supervisor : Bool) (pc : ℕ) (o : Outside) → translates u.mmu ≡ false → nat_lt pc limit ≡ true
    → touches_byte (touches (access limit u (Fetch supervisor pc)) o) pc ≡ true
unfolding access at_virtual fetched_from ◌>>=◌
fetch_touches limit u supervisor pc o off inside = rw (untranslated limit u.mmu pc _ _ off, inside) (read_here (4 * (pc / 4)) pc [] refl)

-- ---- a step

-- what is touched and what is seen is as wanted, or an interrupt is seen
record Leads {R : Type 0} (Wanted : List Touch → List Observation → Type 0) (a : Action R) : Type 0 where
  pub either : (o : Outside) → Wanted (touches a o) (observations a o) ⊎ IsInterrupted (observations a o)

leads_if : {R : Type 0} (Wanted : List Touch → List Observation → Type 0) (b : Bool) (x y : Action R) → (b ≡ true → Leads Wanted x) → (b ≡ false → Leads Wanted y) → Leads Wanted (cond b x y)
leads_if Wanted true x y p q = p refl
leads_if Wanted false x y p q = q refl

-- behind something of which nothing is seen, where more touches make no difference
module _ {A B : Type 0} (Wanted : List Touch → List Observation → Type 0) (stays : (ts us : List Touch) (os : List Observation) → Wanted us os → Wanted (ts ++ us) os) (a : Action A) (f : A → Action B) (silent : Silent a) where
  seen_last : (o : Outside) → observations (a >>= f) o ≡ observations (f (result_of a o)) (after a o)
  seen_last o = observations-then a f o ∙ ap (λ os. os ++ observations (f (result_of a o)) (after a o)) (silent.none o)

  leads_at : (o : Outside) → Wanted (touches (f (result_of a o)) (after a o)) (observations (f (result_of a o)) (after a o)) ⊎ IsInterrupted (observations (f (result_of a o)) (after a o))
      → Wanted (touches (a >>= f) o) (observations (a >>= f) o) ⊎ IsInterrupted (observations (a >>= f) o)
  leads_at o (inl it) =
      inl (subst (λ os. Wanted (touches (a >>= f) o) os) (sym (seen_last o))
      (subst (λ ts. Wanted ts (observations (f (result_of a o)) (after a o))) (sym (touches-then a f o)) (stays (touches a o) _ _ it)))
  leads_at o (inr it) = inr (subst IsInterrupted (sym (seen_last o)) it)

  leads_then : ((x : A) → Leads Wanted (f x)) → Leads Wanted (a >>= f)
  leads_then h = record { either = λ o. leads_at o ((h (result_of a o)).either (after a o)) }

choose_below : (b : Bool) (l k : ℕ) → k ≤ l → cond b (suc l) k ≤ suc l
choose_below true l k h = omega arith
choose_below false l k h = omega (arith, h)

below : (l word : ℕ) → highest_from l word ≤ l
below zero word = omega arith
below (suc l) word = choose_below (bit word (suc l)) l (highest_from l word) (below l word)

some_level : (level : ℕ) → (level == 0) ≡ false → 1 ≤ level
some_level level h = grind (arith, nat_tests, h)

-- the type of an interrupt
interrupt_type : (level : ℕ) → level ≤ 15 → (row_of (Interrupt level)).trap_type ≡ 0x10 + level
unfolding row_of
interrupt_type level most = omega (arith, most)

interrupt_leads : (Wanted : List Touch → List Observation → Type 0) (windows : ℕ) (m : Inner) (word : ℕ) → (highest word == 0) ≡ false
    → Leads Wanted (observe (trap_seen (Interrupt (highest word))) (done (record m { processor = interrupted windows m.processor (highest word) })))
interrupt_leads Wanted windows m word some = record {
  either = λ o. inr (record {
    level = highest word;
    some = some_level (highest word) some;
    most = below 15 word;
    seen = ap (λ type. seen.Trap type ∷ []) (interrupt_type (highest word) (below 15 word));
  });
}

-- a step that runs, from what it does where it takes no interrupt
module _ (Wanted : List Touch → List Observation → Type 0) (stays : (ts us : List Touch) (os : List Observation) → Wanted us os → Wanted (ts ++ us) os) (windows limit : ℕ) where
  requested_leads : (m : Inner) → Leads Wanted (continued windows limit m) → (word : ℕ) → Leads Wanted (requested windows limit m word)
  unfolding requested
  requested_leads m goes word = leads_if Wanted (highest word == 0) _ _ (λ none. goes) (λ some. interrupt_leads Wanted windows m word some)

  interruptible_leads : (m : Inner) → Leads Wanted (continued windows limit m) → Leads Wanted (interruptible windows limit m)
  unfolding interruptible
  interruptible_leads m goes =
      leads_if Wanted m.processor.registers.psr.et _ _ (λ on. leads_then Wanted stays _ _ (record { none = λ o. refl }) (requested_leads m goes)) (λ off. goes)

  awake_leads : (m : Inner) → ((timer : Timer) → Leads Wanted (continued windows limit (with_timer m timer))) → Leads Wanted (awake windows limit m)
  unfolding awake
  awake_leads m goes = leads_then Wanted stays _ _ (silent_tick m.units.timer) (λ timer. interruptible_leads (with_timer m timer) (goes timer))

  action_leads : (m : Inner) → m.processor.running ≡ true → ((timer : Timer) → Leads Wanted (continued windows limit (with_timer m timer))) → Leads Wanted (action windows limit m)
  unfolding action
  action_leads m running goes = subst (λ b. Leads Wanted (cond b (awake windows limit m) (done m))) (sym running) (awake_leads m goes)

-- ---- no annulled slot

abbrev AtPc : ℕ → List Touch → List Observation → Type 0
AtPc pc ts os = touches_byte ts pc ≡ true

instruction_leads : (windows limit : ℕ) (m : Inner) → translates m.units.mmu ≡ false → nat_lt m.processor.pc limit ≡ true → Leads (AtPc m.processor.pc) (instruction windows limit m)
unfolding instruction
instruction_leads windows limit m off inside =
    let pc = m.processor.pc in
    let a = access limit m.units (Fetch m.processor.registers.psr.s pc) in
    let f : Served → Action Inner = λ s. fetched windows limit m.processor s.response s.units in
    record {
      either = λ o.
          inl (ap (λ ts. touches_byte ts pc) (touches-then a f o)
          ∙ touched_front (touches a o) (touches (f (result_of a o)) (after a o)) pc (fetch_touches limit m.units m.processor.registers.psr.s pc o off inside));
    }

continued_leads : (windows limit : ℕ) (m : Inner) → m.processor.annul ≡ false → translates m.units.mmu ≡ false → nat_lt m.processor.pc limit ≡ true
    → Leads (AtPc m.processor.pc) (continued windows limit m)
unfolding continued
continued_leads windows limit m annul off inside =
    subst (λ b. Leads (AtPc m.processor.pc) (cond b (done (record m { processor = slot_skipped m.processor })) (instruction windows limit m))) (sym annul)
    (instruction_leads windows limit m off inside)

pub fetches_touch : FetchesTouch
unfolding run.footprint run.observed
fetches_touch windows pages schedule n s running annul off inside =
    let t = run.eventful schedule n s in
    let limit = ram_size pages in
    let within : nat_lt s.processor.pc limit ≡ true = grind (arith, nat_tests, inside) in
    (action_leads (AtPc s.processor.pc) (λ ts us os h. touched_behind ts us s.processor.pc h) windows limit (inner_of t) running
    (λ timer. continued_leads windows limit (with_timer (inner_of t) timer) annul off within)).either (outside_of t.memory (arrived (n + 1) schedule))

-- ---- an annulled slot

abbrev Unseen : List Touch → List Observation → Type 0
Unseen ts os = os ≡ []

skipped_leads : (windows limit : ℕ) (m : Inner) → m.processor.annul ≡ true → Leads Unseen (continued windows limit m)
unfolding continued
skipped_leads windows limit m annul =
    subst (λ b. Leads Unseen (cond b (done (record m { processor = slot_skipped m.processor })) (instruction windows limit m))) (sym annul)
    (record { either = λ o. inl refl })

pub annulled_steps_pass : AnnulledStepsPass
unfolding run.footprint run.observed
annulled_steps_pass windows pages schedule n s running annul =
    let t = run.eventful schedule n s in
    let limit = ram_size pages in
    (action_leads Unseen (λ ts us os h. h) windows limit (inner_of t) running
    (λ timer. skipped_leads windows limit (with_timer (inner_of t) timer) annul)).either (outside_of t.memory (arrived (n + 1) schedule))
