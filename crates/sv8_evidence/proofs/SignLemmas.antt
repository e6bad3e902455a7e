-- Steps of intervals without a sign, flags of those that have one, and states that show it.
use Rattle.std.proofs.Common.{◌≡◌, ◌⊎◌, inl, inr, ℕ, zero, suc, ◌+◌, ◌-◌, ◌*◌, ◌/◌, ◌%◌, ◌^◌, ◌≤◌, ◌<◌, ◌==◌, Bool, true, false, cond, MatchBool, List, [], ◌∷◌, Some, None, length, refl, sym, ◌∙◌, ap, ap₂, arith, subst, mul_comm, eqb-true, eq-eqb}
use Rattle.std.specs.Prelude.{not, ◌&&◌, ◌||◌, nat_le, nat_lt}
use Rattle.std.specs.List.{list_any}
use Rattle.std.proofs.Math.Bool.{or-false}
use Rattle.std.proofs.Math.Nat.{div-add-mod}
use Rattle.std.proofs.lemmas.Bool.{cases_lt, true≢false, or_parts, and_parts, and_from}
use Rattle.std.proofs.lemmas.Bool.Decides.{nat_tests}
use Rattle.std.proofs.lemmas.List.Folds.{list_any-append}
use Rattle.std.proofs.lemmas.Nat.{div-mul-add, mod-mul-add}
use Rattle.sv8_mmu.specs.Registers.{translates}
use Rattle.sv8_trap.specs.Processor.{Processor}
use Rattle.sv8_cpu.specs.State.{State}
use Rattle.sv8_cpu.specs.Trapping.{is_at_trap, trap_type_of}
use Rattle.sv8_evidence.specs.declared.signs.Sign.{Sign}
use Rattle.sv8_evidence.specs.declared.signs.Sign.TheVariants as sign
use Rattle.sv8_trace.specs.declared.signs.TrapNote.{TrapNote}
use Rattle.sv8_trace.specs.Recording.{Recording, signs_of}
use Rattle.sv8_evidence.specs.Showing.{NoneShows}
use Rattle.sv8_trace.specs.Signs.{Signs, noted_type, with_trap, with_step, signs_among}
use Rattle.sv8_evidence.specs.Signs.{may_be_of, has_sign, is_note_of, is_note_between, has_sign_between, shows}
use Rattle.sv8_notes.specs.Flags.{IsFlagged, IsFlaggedUnless}
use Rattle.sv8_notes.proofs.Common.{flag_unless}

and_true : (b : Bool) → (b && true) ≡ b
and_true true = refl
and_true false = refl

-- ---- notes of traps

-- the test of one step
abbrev pub is_note_at : Sign → ℕ → TrapNote → Bool
is_note_at s j t = t.offset == j && is_note_of s t

none_of : (f g : TrapNote → Bool) → ((t : TrapNote) → f t ≡ false → g t ≡ false) → (ts : List TrapNote) → list_any f ts ≡ false → list_any g ts ≡ false
none_of f g less [] none = refl
none_of f g less (t ∷ ts) none =
    let both = or_parts (f t) (list_any f ts) none in
    ap (λ b. b || list_any g ts) (less t both.0) ∙ none_of f g less ts both.1

-- a note that passes a test
record Passes (f : TrapNote → Bool) (ts : List TrapNote) : Type 0 where
  pub note : TrapNote
  pub is : f note ≡ true
  pub among : (g : TrapNote → Bool) → g note ≡ true → list_any g ts ≡ true

or_true : (b : Bool) → (b || true) ≡ true
or_true true = refl
or_true false = refl

some_of : (f : TrapNote → Bool) (ts : List TrapNote) → list_any f ts ≡ true → Passes f ts
some_of f [] h = absurd (true≢false (sym h))
some_of f (t ∷ ts) h = by_case (f t) refl h (some_of f ts)
  where
    by_case : (b : Bool) → f t ≡ b → (b || list_any f ts) ≡ true → (list_any f ts ≡ true → Passes f ts) → Passes f (t ∷ ts)
    by_case true e h later = record { note = t; is = e; among = λ g yes. ap (λ b. b || list_any g ts) yes }
    by_case false e h later =
        let it = later h in
        record { note = it.note; is = it.is; among = λ g yes. ap (λ b. g t || b) (it.among g yes) ∙ or_true (g t) }

-- ---- one of some steps

module _ (from end j : ℕ) (low : from ≤ j) (high : j < end) where
  within : (at : ℕ) → (at == j) ≡ true → (nat_le from at && nat_lt at end) ≡ true
  within at e =
      let is : at ≡ j = eqb-true at j e in
      let behind : nat_le from at ≡ true = grind (arith, nat_tests, is, low) in
      let before : nat_lt at end ≡ true = grind (arith, nat_tests, is, high) in
      and_from (nat_le from at) (nat_lt at end) behind before

  missed : (at : ℕ) (of : Bool) → ((nat_le from at && nat_lt at end) && of) ≡ false → (at == j && of) ≡ false
  missed at of none = by_case (at == j) refl
    where
      by_case : (b : Bool) → (at == j) ≡ b → (b && of) ≡ false
      by_case false e = refl
      by_case true e = sym (ap (λ b. b && of) (within at e)) ∙ none

  -- where none of the steps has a sign, each of them has none
  none_between : (s : Sign) (signs : Signs) → has_sign_between s from end signs ≡ false → has_sign s j signs ≡ false
  none_between sign.Translation signs none = none
  none_between sign.Trap signs none =
      none_of (is_note_between sign.Trap from end) (λ t. t.offset == j) (λ t h. sym (and_true (t.offset == j)) ∙ missed t.offset true h) signs.traps none
  none_between (sign.TrapType type) signs none =
      none_of (is_note_between (sign.TrapType type) from end) (is_note_at (sign.TrapType type) j) (λ t h. missed t.offset (may_be_of type t.trap_type) h) signs.traps none

-- one of the steps that has a sign
record HasOne (s : Sign) (from end : ℕ) (signs : Signs) : Type 0 where
  pub step : ℕ
  pub behind : from ≤ step
  pub before : step < end
  pub has : has_sign s step signs ≡ true

some_between : (s : Sign) (from end : ℕ) (signs : Signs) → from < end → has_sign_between s from end signs ≡ true → HasOne s from end signs
some_between sign.Translation from end signs some has = record { step = from; behind = omega arith; before = some; has = has }
some_between sign.Trap from end signs some has =
    let it = some_of (is_note_between sign.Trap from end) signs.traps has in
    let at = it.note.offset in
    let both = and_parts (nat_le from at && nat_lt at end) true it.is in
    let range = and_parts (nat_le from at) (nat_lt at end) both.0 in
    record {
      step = at;
      behind = grind (arith, nat_tests, range.0);
      before = grind (arith, nat_tests, range.1);
      has = it.among (λ t. t.offset == at) (eq-eqb at at refl);
    }
some_between (sign.TrapType type) from end signs some has =
    let it = some_of (is_note_between (sign.TrapType type) from end) signs.traps has in
    let at = it.note.offset in
    let of = may_be_of type it.note.trap_type in
    let both = and_parts (nat_le from at && nat_lt at end) of it.is in
    let range = and_parts (nat_le from at) (nat_lt at end) both.0 in
    record {
      step = at;
      behind = grind (arith, nat_tests, range.0);
      before = grind (arith, nat_tests, range.1);
      has = it.among (is_note_at (sign.TrapType type) at) (and_from (at == at) of (eq-eqb at at refl) both.1);
    }

-- ---- the steps of an interval

module _ (s : Sign) (k start : ℕ) (r : Recording) (signs : Signs) (is : signs ≡ signs_of r (start / k)) where
  -- the step behind the checkpoint by so many
  at : (j n : ℕ) → j < k → k * (start / k) + j ≡ n → has_sign s (n % k) (signs_of r (n / k)) ≡ has_sign s j signs
  at j n few e =
      let i = start / k in
      let turned : k * i + j ≡ i * k + j = ap (λ x. x + j) (mul_comm k i) in
      let place : n / k ≡ i = ap (λ x. x / k) (sym e ∙ turned) ∙ div-mul-add i k j few in
      let offset : n % k ≡ j = ap (λ x. x % k) (sym e ∙ turned) ∙ mod-mul-add i k j few in
      ap₂ (λ x y. has_sign s x (signs_of r y)) offset place ∙ ap (has_sign s j) (sym is)

  module _ (stop : ℕ) (few : stop ≤ k) (from : ℕ) where
    -- none of the steps from the first on and below one in the interval has it
    pub none_so_far : NoneShows s k r from start → has_sign_between s (start % k) stop signs ≡ false → NoneShows s k r from (k * (start / k) + stop)
    none_so_far before none n a b = go (cases_lt n start)
      where
        go : (n < start) ⊎ (start ≤ n) → has_sign s (n % k) (signs_of r (n / k)) ≡ false
        go (inl l) = before n a l
        go (inr l) =
            let split = div-add-mod start k in
            let j = n - k * (start / k) in
            let e : k * (start / k) + j ≡ n = omega (arith, split, l) in
            let high : j < stop = omega (arith, split, l, b) in
            at j n (omega (arith, high, few)) e ∙ none_between (start % k) stop j (omega (arith, split, l)) high s signs none

    -- one of them has it
    pub some_there : (to : ℕ) → from ≤ start → start % k < stop → k * (start / k) + stop ≤ to → has_sign_between s (start % k) stop signs ≡ true → NoneShows s k r from to → ⊥
    some_there to le some fits has none =
        let it = some_between s (start % k) stop signs some has in
        let split = div-add-mod start k in
        let behind = it.behind in
        let before = it.before in
        let n = k * (start / k) + it.step in
        true≢false (sym (at it.step n (omega (arith, before, few)) refl ∙ it.has) ∙ none n (omega (arith, le, split, behind)) (omega (arith, fits, before)))

-- ---- flags

-- those of the steps of an interval
pub flags_shown : (s : Sign) (k from : ℕ) (r : Recording) (signs : Signs) → signs ≡ signs_of r (from / k) → (xs ys : List Bool) → from % k + length xs ≤ k
    → IsFlagged (λ i. has_sign s (from % k + i) signs) xs ys → IsFlaggedUnless (λ i. NoneShows s k r (from + i) (from + i + 1)) xs ys
flags_shown s k from r signs is xs ys few h =
    flag_unless xs ys (λ i. has_sign s (from % k + i) signs) (λ i. NoneShows s k r (from + i) (from + i + 1)) h (λ i inside. by_sign i inside (has_sign s (from % k + i) signs) refl)
  where
    there : (i n : ℕ) → from + i ≤ n → n < from + i + 1 → k * (from / k) + (from % k + i) ≡ n
    there i n a b = let split = div-add-mod from k in omega (arith, split, a, b)

    by_sign : (i : ℕ) → i < length xs → (b : Bool) → has_sign s (from % k + i) signs ≡ b
        → MatchBool b (NoneShows s k r (from + i) (from + i + 1) → ⊥) (NoneShows s k r (from + i) (from + i + 1))
    by_sign i inside true has = λ none.
        true≢false
        (sym (at s k from r signs is (from % k + i) (from + i) (omega (arith, few, inside)) (there i (from + i) (omega arith) (omega arith)) ∙ has)
        ∙ none (from + i) (omega arith) (omega arith))
    by_sign i inside false none = λ n a b. at s k from r signs is (from % k + i) n (omega (arith, few, inside)) (there i n a b) ∙ none

-- ---- one step more

module _ (count : ℕ) (p : Processor) where
  abbrev ended : Bool → Signs → Signs
  ended here s = cond here (with_trap s count p) s

  ended_translation : (here : Bool) (s : Signs) → (ended here s).translation ≡ s.translation
  ended_translation true s = refl
  ended_translation false s = refl

  abbrev last_note : TrapNote
  last_note = record { offset = count; trap_type = noted_type p }

  ended_traps : (f : TrapNote → Bool) (here : Bool) (s : Signs) → list_any f (ended here s).traps ≡ (list_any f s.traps || (here && f last_note))
  ended_traps f true s = list_any-append f s.traps (last_note ∷ []) ∙ ap (λ b. list_any f s.traps || b) (or-false (f last_note))
  ended_traps f false s = sym (or-false (list_any f s.traps))

-- no trap in the step that is asked for
not_here : (here asked : Bool) → (here && asked) ≡ false → asked ≡ true → here ≡ false
not_here here true none e = sym (and_true here) ∙ none
not_here here false none e = absurd (true≢false (sym e))

of_noted : (type there : ℕ) (runs : Bool) → may_be_of type (cond runs (Some there) None) ≡ cond runs (there == type % 2 ^ 8) true
of_noted type there true = refl
of_noted type there false = refl

-- and none of a type
not_of_type : (ran runs at of asked : Bool) → ((ran && (not runs || at)) && (asked && cond runs of true)) ≡ false → asked ≡ true → (ran && (not runs || (at && of))) ≡ false
not_of_type ran runs at of false none e = absurd (true≢false (sym e))
not_of_type false runs at of true none e = refl
not_of_type true false at of true none e = none
not_of_type true true at of true none e = none

-- where the signs of one step more leave a step out, those of the others do, and the last one does not show it if it is that step
both_missed : (s : Sign) (signs : Signs) (count j : ℕ) (before after : State) → has_sign s j (with_step signs count before after) ≡ false
    → (has_sign s j signs ≡ false) × (count ≡ j → shows s before after ≡ false)
both_missed sign.Translation signs count j before after none =
    let p = after.processor in
    let own = signs.translation || translates before.mmu in
    let it : own ≡ false = sym (ended_translation count p (before.processor.running && is_at_trap p) (record signs { translation = own })) ∙ none in
    let both = or_parts signs.translation (translates before.mmu) it in
    (both.0, λ e. both.1)
both_missed sign.Trap signs count j before after none =
    let p = after.processor in
    let own = signs.translation || translates before.mmu in
    let here = before.processor.running && is_at_trap p in
    let it = sym (ended_traps count p (λ t. t.offset == j) here (record signs { translation = own })) ∙ none in
    let both = or_parts (list_any (λ t. t.offset == j) signs.traps) (here && (count == j)) it in
    (both.0, λ e. not_here here (count == j) both.1 (eq-eqb count j e))
both_missed (sign.TrapType type) signs count j before after none =
    let p = after.processor in
    let own = signs.translation || translates before.mmu in
    let here = before.processor.running && is_at_trap p in
    let there = trap_type_of p.registers.tbr in
    let it = sym (ended_traps count p (is_note_at (sign.TrapType type) j) here (record signs { translation = own })) ∙ none in
    let both = or_parts (list_any (is_note_at (sign.TrapType type) j) signs.traps) (here && (count == j && may_be_of type (noted_type p))) it in
    let last = sym (ap (λ b. here && (count == j && b)) (of_noted type there p.running)) ∙ both.1 in
    (both.0, λ e. not_of_type before.processor.running p.running (p.pc == p.registers.tbr) (there == type % 2 ^ 8) (count == j) last (eq-eqb count j e))

at_last : (j count : ℕ) → j < suc count → count ≤ j → count ≡ j
at_last j count l last = omega (arith, l, last)

-- a step that has no sign does not show it
pub each_shows_none : (s : Sign) (f : ℕ → State) (count j : ℕ) → has_sign s j (signs_among f count) ≡ false → j < count → shows s (f j) (f (suc j)) ≡ false
each_shows_none s f zero j none l = absurd (omega (arith, l))
each_shows_none s f (suc count) j none l =
    let both = both_missed s (signs_among f count) count j (f count) (f (suc count)) none in
    elim (cases_lt j count) [
      | inl below ↦ each_shows_none s f count j both.0 below
      | inr last ↦ let e = at_last j count l last in subst (λ i. shows s (f i) (f (suc i)) ≡ false) e (both.1 e)
    ]
