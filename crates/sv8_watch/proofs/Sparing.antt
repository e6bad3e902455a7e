-- A step that spares the bytes of a condition does not meet it.
use Rattle.std.proofs.Common.{◌≡◌, inl, inr, ℕ, zero, suc, ◌+◌, ◌%◌, ◌<◌, ◌≤◌, ◌==◌, Bool, true, false, cond, nat_lt, Some, None, List, [], ◌∷◌, length, take, drop, get_or, refl, sym, ◌∙◌, ap, subst, arith}
use Rattle.std.specs.Prelude.{not, ◌&&◌, ◌||◌}
use Rattle.std.proofs.Math.Bool.{and-false}
use Rattle.std.proofs.Math.Seq.{drop-cons}
use Rattle.std.proofs.Math.ListN.{drop_of_length-le}
use Rattle.std.proofs.lemmas.Bool.{true≢false, false≢true, cases_lt}
use Rattle.std.proofs.lemmas.Bool.Decides.{nat_tests}
use Rattle.sv8_model.specs.declared.touch.Touch.{Touch}
use Rattle.sv8_model.specs.declared.touch.TouchKind.TheVariants.{Any, Data}
use Rattle.sv8_model.specs.declared.observation.AccessKind.{AccessKind}
use Rattle.sv8_model.specs.declared.observation.Observation.{Observation}
use Rattle.sv8_model.specs.declared.observation.Observation.TheVariants as seen
use Rattle.sv8_model.specs.Outside.{word_address}
use Rattle.sv8_time.specs.Order.{Each}
use Rattle.sv8_time.specs.Schedule.{Schedule}
use Rattle.sv8_phys.specs.Memory.{ram_size}
use Rattle.sv8_cpu.specs.State.{State}
use Rattle.sv8_cpu.specs.Run.{step, footprint, observed}
use Rattle.sv8_cpu.specs.Touching.{touches_byte, AreUntouched, SparesBytes, IsOfData, IsUntranslated, IsInterrupted}
use Rattle.sv8_step_laws.proofs.Common.{touched_is, spared_bytes_stay, accesses_are_data, fetches_touch, annulled_steps_pass}
use Rattle.sv8_watch.specs.declared.condition.Condition.TheVariants as condition
use Rattle.sv8_watch.specs.declared.span.Span.{Span}
use Rattle.sv8_watch.specs.Happening.{access_in, trap_in, outcome_of, happening}
use Rattle.sv8_watch.specs.Conditions.{overlap, loads, stores, accesses, is_touched, differ_from, is_changed, is_interrupt, is_reached}
use Rattle.sv8_watch.specs.Touching.{some_bytes, word_span, SparedStepsMiss, SparedPcsMiss}

-- ---- accesses

and_first : (a b : Bool) → (a && b) ≡ true → a ≡ true
and_first true b h = refl
and_first false b h = absurd (false≢true h)

and_second : (a b : Bool) → (a && b) ≡ true → b ≡ true
and_second true b h = h
and_second false b h = absurd (false≢true h)

never : {b : Bool} → b ≡ true → b ≡ false → ⊥
never h k = true≢false (sym h ∙ k)

-- an access in RAM that has a byte in common with bytes that are not touched
module _ (limit : ℕ) (ts : List Touch) (address count : ℕ) (some : 1 ≤ count) (inside : address + count ≤ limit) (untouched : AreUntouched Data address count ts) where
  apart : (kind : AccessKind) (bytes va pa : ℕ) → IsOfData limit ts (seen.Access kind bytes va pa) → overlap pa bytes address count ≡ true → ⊥
  apart kind bytes va pa h e =
      let first : nat_lt pa (address + count) ≡ true = and_first (nat_lt pa (address + count)) (nat_lt address (pa + bytes)) e in
      let second : nat_lt address (pa + bytes) ≡ true = and_second (nat_lt pa (address + count)) (nat_lt address (pa + bytes)) e in
      let below : pa < address + count = grind (arith, nat_tests, first) in
      let above : address < pa + bytes = grind (arith, nat_tests, second) in
      let in_ram : pa < limit = omega (arith, below, inside) in
      elim (cases_lt pa address) [
        | inl lower ↦ never (h.1 in_ram address (omega (arith, lower)) above) (untouched address (omega arith) (omega (arith, some)))
        | inr higher ↦ never (h.1 in_ram pa (omega arith) (omega (arith, h.0))) (untouched pa higher below)
      ]

  no_overlap : (kind : AccessKind) (bytes va pa : ℕ) → IsOfData limit ts (seen.Access kind bytes va pa) → overlap pa bytes address count ≡ false
  no_overlap kind bytes va pa h = by_case (overlap pa bytes address count) refl
    where
      by_case : (b : Bool) → overlap pa bytes address count ≡ b → b ≡ false
      by_case true e = absurd (apart kind bytes va pa h e)
      by_case false e = refl

  accesses_miss : (kinds : AccessKind → Bool) (os : List Observation) → Each (IsOfData limit ts) os → accesses kinds address count (access_in os) ≡ false
  accesses_miss kinds [] h = refl
  accesses_miss kinds (seen.Fetch from word ∷ os) h = accesses_miss kinds os h.1
  accesses_miss kinds (seen.Access kind bytes va pa ∷ os) h = ap (λ b. kinds kind && b) (no_overlap kind bytes va pa h.0) ∙ and-false (kinds kind)
  accesses_miss kinds (seen.Trap type ∷ os) h = accesses_miss kinds os h.1

-- ---- bytes that change

same_byte : (a b : ℕ) → b ≡ a → not (a == b) ≡ false
same_byte a b e = grind (arith, nat_tests, e)

both_false : (a b : Bool) → a ≡ false → b ≡ false → (a || b) ≡ false
both_false a b h k = ap (λ x. x || b) h ∙ k

bytes_miss : (count address : ℕ) (ram now : List ℕ) → ((i : ℕ) → address ≤ i → i < address + count → get_or now i 0 ≡ get_or ram i 0)
    → differ_from (take count (drop address ram)) address now ≡ false
bytes_miss zero address ram now same = refl
bytes_miss (suc count) address ram now same =
    let next : address + 1 ≡ suc address = omega arith in
    let rest = bytes_miss count (address + 1) ram now (λ i low high. same i (omega (arith, low)) (omega (arith, high))) in
    let behind = ap (λ at. differ_from (take count (drop at ram)) (address + 1) now) (sym next) ∙ rest in
    elim (cases_lt address (length ram)) [
      | inl within ↦ ap (λ bs. differ_from (take (suc count) bs) address now) (drop-cons ram address 0 within)
          ∙ both_false (not (get_or ram address 0 == get_or now address 0)) _ (same_byte (get_or ram address 0) (get_or now address 0) (same address (omega arith) (omega arith))) behind
      | inr past ↦ ap (λ bs. differ_from (take (suc count) bs) address now) (drop_of_length-le ram past)
    ]

-- ---- words that are touched

word_misses : (ts : List Touch) (address : ℕ) → address % 4 ≡ 0 → touches_byte ts address ≡ false → is_touched address ts ≡ false
word_misses ts address aligned h =
    let word : address ≡ word_address address = omega (arith, aligned) in
    ap (λ a. is_touched a ts) word ∙ sym (touched_is ts address) ∙ h

-- ---- spans

-- there are bytes, and they are the span
record AreBytes (address count : ℕ) (span : Span) : Type 0 where
  pub some : 1 ≤ count
  pub is : span ≡ record { address = address; count = count }

some_span : {x y : Span} → Some x ≡ Some y → y ≡ x
some_span e = cc

no_span : {A : Type 0} {span : Span} → None ≡ Some span → A
no_span e = absurd cc

are_bytes : (address count : ℕ) (span : Span) → some_bytes address count ≡ Some span → AreBytes address count span
are_bytes address count span e = by_case (count == 0) refl e
  where
    by_case : (b : Bool) → (count == 0) ≡ b → cond b None (Some (record { address = address; count = count })) ≡ Some span → AreBytes address count span
    by_case true test f = no_span f
    by_case false test f = record { some = grind (arith, nat_tests, test); is = some_span f }

-- the span of a word is that of its four bytes
record IsWordSpan (address : ℕ) (span : Span) : Type 0 where
  pub aligned : address % 4 ≡ 0
  pub is : span ≡ record { address = address; count = 4 }

is_word_span : (address : ℕ) (span : Span) → word_span address ≡ Some span → IsWordSpan address span
is_word_span address span e = by_case (address % 4 == 0) refl e
  where
    by_case : (b : Bool) → (address % 4 == 0) ≡ b → cond b (some_bytes address 4) None ≡ Some span → IsWordSpan address span
    by_case true test f = record { aligned = grind (arith, nat_tests, test); is = (are_bytes address 4 span f).is }
    by_case false test f = no_span f

-- ---- the law

module _ (windows pages : ℕ) (schedule : Schedule) (n : ℕ) (s : State) (few : pages ≤ 65536) where
  access_misses : (kinds : AccessKind → Bool) (address count : ℕ) (span : Span) → AreBytes address count span → span.address + span.count ≤ ram_size pages
      → SparesBytes Data windows pages schedule n s span.address span.count → accesses kinds address count (access_in (observed windows pages schedule n s)) ≡ false
  access_misses kinds address count span bytes inside spared =
      let within : address + count ≤ ram_size pages = subst (λ x. x.address + x.count ≤ ram_size pages) bytes.is inside in
      let spares : SparesBytes Data windows pages schedule n s address count = subst (λ x. SparesBytes Data windows pages schedule n s x.address x.count) bytes.is spared in
      accesses_miss (ram_size pages) (footprint windows pages schedule n s) address count bytes.some within spares.touched kinds (observed windows pages schedule n s)
      (accesses_are_data windows pages schedule n s few)

  change_misses : (address count : ℕ) → SparesBytes Data windows pages schedule n s address count
      → is_changed address count s.memory.ram (step windows pages schedule n s).memory.ram ≡ false
  change_misses address count spared =
      bytes_miss count address s.memory.ram (step windows pages schedule n s).memory.ram (spared_bytes_stay Data windows pages schedule n s address count spared)

pub spared_steps_miss : SparedStepsMiss
unfolding happening
spared_steps_miss windows pages schedule n s (condition.Pc address) span few e inside spared = no_span e
spared_steps_miss windows pages schedule n s (condition.Load address count) span few e inside spared =
    access_misses windows pages schedule n s few loads address count span (are_bytes address count span e) inside spared
spared_steps_miss windows pages schedule n s (condition.Store address count) span few e inside spared =
    access_misses windows pages schedule n s few stores address count span (are_bytes address count span e) inside spared
spared_steps_miss windows pages schedule n s (condition.Touch address) span few e inside spared =
    let word = is_word_span address span e in
    let spares : SparesBytes Any windows pages schedule n s address 4 = subst (λ x. SparesBytes Any windows pages schedule n s x.address x.count) word.is spared in
    word_misses (footprint windows pages schedule n s) address word.aligned (spares.touched address (omega arith) (omega arith))
spared_steps_miss windows pages schedule n s (condition.Change address count) span few e inside spared =
    let bytes = are_bytes address count span e in
    change_misses windows pages schedule n s few address count (subst (λ x. SparesBytes Data windows pages schedule n s x.address x.count) bytes.is spared)
spared_steps_miss windows pages schedule n s condition.Trap span few e inside spared = no_span e
spared_steps_miss windows pages schedule n s (condition.TrapType type) span few e inside spared = no_span e
spared_steps_miss windows pages schedule n s condition.Error span few e inside spared = no_span e
spared_steps_miss windows pages schedule n s condition.Input span few e inside spared = no_span e
spared_steps_miss windows pages schedule n s condition.Output span few e inside spared = no_span e
spared_steps_miss windows pages schedule n s condition.Event span few e inside spared = no_span e
spared_steps_miss windows pages schedule n s (condition.Every number) span few e inside spared = no_span e

-- ---- PC

-- a step that takes an interrupt reaches no instruction
interrupt_type : (level : ℕ) → 1 ≤ level → level ≤ 15 → not (is_interrupt (0x10 + level)) ≡ false
interrupt_type level some most =
    let low : nat_lt 0x10 (0x10 + level) ≡ true = grind (arith, nat_tests, some) in
    let high : nat_lt (0x10 + level) 0x20 ≡ true = grind (arith, nat_tests, most) in
    ap (λ b. not (b && nat_lt (0x10 + level) 0x20)) low ∙ ap not high

type_misses : (type : ℕ) (annul runs : Bool) → not (is_interrupt type) ≡ false → is_reached (outcome_of true annul runs (Some type)) ≡ false
type_misses type annul true h = h
type_misses type annul false h = h

interrupt_misses : (os : List Observation) (annul runs : Bool) → IsInterrupted os → is_reached (outcome_of true annul runs (trap_in os)) ≡ false
interrupt_misses os annul runs it =
    ap (λ xs. is_reached (outcome_of true annul runs (trap_in xs))) it.seen ∙ type_misses (0x10 + it.level) annul runs (interrupt_type it.level it.some it.most)

module _ (windows pages : ℕ) (schedule : Schedule) (n : ℕ) (s : State) (address : ℕ) (off : IsUntranslated s) (inside : address + 4 ≤ ram_size pages) (spared : SparesBytes Any windows pages schedule n s address 4)
    (here : s.processor.pc ≡ address) where
  abbrev os : List Observation
  os = observed windows pages schedule n s

  unreached : (running annul runs : Bool) → s.processor.running ≡ running → s.processor.annul ≡ annul → is_reached (outcome_of running annul runs (trap_in os)) ≡ false
  unreached false annul runs p q = refl
  unreached true true runs p q = elim (annulled_steps_pass windows pages schedule n s p q) [
    | inl none ↦ ap (λ xs. is_reached (outcome_of true true runs (trap_in xs))) none
    | inr it ↦ interrupt_misses os true runs it
  ]
  unreached true false runs p q = elim (fetches_touch windows pages schedule n s p q off (let at = here in omega (arith, at, inside))) [
    | inl touched ↦ absurd (never (subst (λ a. touches_byte (footprint windows pages schedule n s) a ≡ true) here touched) (spared.touched address (omega arith) (omega arith)))
    | inr it ↦ interrupt_misses os false runs it
  ]

pub spared_pcs_miss : SparedPcsMiss
unfolding happening
spared_pcs_miss windows pages schedule n s address off inside spared = by_case (s.processor.pc == address) refl
  where
    by_case : (b : Bool) → (s.processor.pc == address) ≡ b
        → (b && is_reached (outcome_of s.processor.running s.processor.annul (step windows pages schedule n s).processor.running (trap_in (observed windows pages schedule n s)))) ≡ false
    by_case false test = refl
    by_case true test =
        unreached windows pages schedule n s address off inside spared (grind (arith, nat_tests, test)) s.processor.running s.processor.annul (step windows pages schedule n s).processor.running refl refl
