-- One step more in the record.
use Rattle.std.proofs.Common.{add-one, ◌≡◌, ◌≢◌, ℕ, suc, ◌+◌, ◌≤◌, ◌<◌, List, [], ◌==◌, Bool, true, false, not, ◌&&◌, ◌||◌, leb, ltb, cond, Option, Some, None, is_some, refl, sym, ◌∙◌, ap, ap₂, arith, inl, inr, ◌⊎◌, eq-eqb, ne_eqb, lt-ltb, le-ltb, le-leb}
use Rattle.std.proofs.lemmas.Bool.{cases_order, cases_lt}
use Rattle.sv8_model.specs.declared.touch.Touch.{Touch}
use Rattle.sv8_model.specs.Footprint.{reads_input, data_touches}
use Rattle.sv8_model.specs.Cells.{Cell, Value, ram_byte, waiting_bytes, pending_level, is_read, is_written, is_data}
use Rattle.sv8_history.specs.Machine.{Footprint, SameFootprint}
use Rattle.sv8_history.specs.Trace.{some_from}
use Rattle.sv8_history.proofs.Common.{none_from}
use Rattle.sv8_time.specs.Schedule.{Schedule}
use Rattle.sv8_touches.specs.Told.{told}
use Rattle.sv8_notes.specs.Kept.{kept_in}
use Rattle.sv8_notes.specs.Touched.{is_touched}
use Rattle.sv8_notes.specs.Steps.{no_steps, footprint_in, reads_in, writes_in, data_in, are_of, is_among}
use Rattle.sv8_notes.proofs.Common.{touched_told, told_read, told_written}
use Rattle.sv8_cpu.specs.State.{State}
use Rattle.sv8_cpu.specs.Run.{step, footprint}
use Rattle.sv8_cpu.specs.Recorded.{event_at, poke_of, get}
use Rattle.sv8_trace.specs.declared.interval.Interval.{Interval}
use Rattle.sv8_mmu.specs.Registers.{translates}
use Rattle.sv8_trace.specs.Signs.{Signs, no_signs, with_end, with_step}
use Rattle.sv8_trace.specs.Recorder.{steps_on, footprint_on, touches_on, IsRecorded, HasOneMore}

-- no steps are recorded
none_read : (c : Cell) (j : ℕ) → reads_in no_steps c j ≡ false
none_read (ram_byte i) j = refl
none_read waiting_bytes j = refl
none_read (pending_level l) j = refl

none_data : (c : Cell) (j : ℕ) → data_in no_steps c j ≡ false
none_data (ram_byte i) j = refl
none_data waiting_bytes j = refl
none_data (pending_level l) j = refl

-- the data of a step, by what it touches as such
data_is : (ts : List Touch) (c : Cell) → are_of (data_touches ts) c ≡ is_data ts c
data_is ts (ram_byte i) = refl
data_is ts waiting_bytes = refl
data_is ts (pending_level l) = refl

none_written : (c : Cell) (j : ℕ) → writes_in no_steps c j ≡ false
none_written (ram_byte i) j = refl
none_written waiting_bytes j = refl
none_written (pending_level l) j = none (l == 10)
  where
    none : (b : Bool) → (b && false) ≡ false
    none true = refl
    none false = refl

module _ (windows pages : ℕ) (schedule : Schedule) (n : ℕ) (s : State) where
  at : ℕ → List Touch
  at j = footprint windows pages schedule (n + j) (steps_on windows pages schedule n s j)

  pub recorded_none : IsRecorded windows pages schedule n s 0 (record { notes = no_steps; kept = []; signs = no_signs })
  recorded_none = record {
    footprints = λ j h. absurd (omega arith);
    nothing_later = λ j h. record { reads = λ c. refl; writes = λ c. refl; uses = λ c. refl; takes = refl };
    kept = λ j c. sym (ap (λ b. cond (b && is_some (poke_of c (event_at schedule (n + j))) && not (some_from j 0 (touches_on windows pages schedule n s c))) (Some (get c (steps_on windows pages schedule n s j))) None) (le-ltb j 0 (omega arith)));
    signs = refl;
  }

  -- ---- the footprints

  other : (x o a : Bool) → o ≡ false → (x || (o && a)) ≡ x
  other true o a e = refl
  other false o a e = rw e

  here : (x o a : Bool) → x ≡ false → o ≡ true → (x || (o && a)) ≡ a
  here x o a e f = rw (e, f)

  module _ (count : ℕ) (old new : Interval) (h : IsRecorded windows pages schedule n s count old)
      (more : HasOneMore windows pages schedule (n + count) count (steps_on windows pages schedule n s count) (steps_on windows pages schedule n s (suc count)) old new) where
    not_here : (j : ℕ) → j ≢ count → SameFootprint (footprint_in new.notes j) (footprint_in old.notes j)
    not_here j e =
        let no : (j == count) ≡ false = ne_eqb j count e in
        record {
          reads = λ c. more.gained.reads c j ∙ other (reads_in old.notes c j) (j == count) _ no;
          writes = λ c. more.gained.writes c j ∙ other (writes_in old.notes c j) (j == count) _ no;
          uses = λ c. more.gained.uses c j ∙ other (data_in old.notes c j) (j == count) _ no;
          takes = more.gained.takes j ∙ other (is_among j old.notes.inputs) (j == count) _ no;
        }

    at_count : (j : ℕ) → j ≡ count → SameFootprint (footprint_in new.notes j) (footprint_on windows pages schedule n s j)
    at_count j e =
        let yes : (j == count) ≡ true = eq-eqb j count e in
        let later = h.nothing_later j (omega arith) in
        let same : footprint windows pages schedule (n + count) (steps_on windows pages schedule n s count) ≡ footprint windows pages schedule (n + j) (steps_on windows pages schedule n s j) = ap (λ x. footprint windows pages schedule (n + x) (steps_on windows pages schedule n s x)) (sym e) in
        record {
          reads = λ c. more.gained.reads c j ∙ here (reads_in old.notes c j) (j == count) _ (later.reads c ∙ none_read c j) yes ∙ told_read _ c ∙ ap (λ ts. is_read ts c) same;
          writes = λ c. more.gained.writes c j ∙ here (writes_in old.notes c j) (j == count) _ (later.writes c ∙ none_written c j) yes ∙ told_written _ c ∙ ap (λ ts. is_written ts c) same;
          uses = λ c. more.gained.uses c j ∙ here (data_in old.notes c j) (j == count) _ (later.uses c ∙ none_data c j) yes ∙ data_is (footprint windows pages schedule (n + count) (steps_on windows pages schedule n s count)) c ∙ ap (λ ts. is_data ts c) same;
          takes = more.gained.takes j ∙ here (is_among j old.notes.inputs) (j == count) _ later.takes yes ∙ told_read _ waiting_bytes ∙ ap reads_input same;
        }

    then : (x y z : Footprint Cell) → SameFootprint x y → SameFootprint y z → SameFootprint x z
    then x y z p q = record { reads = λ c. p.reads c ∙ q.reads c; writes = λ c. p.writes c ∙ q.writes c; uses = λ c. p.uses c ∙ q.uses c; takes = p.takes ∙ q.takes }

    -- ---- the kept values

    earlier : (p f t l : Bool) (o : Bool) (g x : Value) → l ≡ true → o ≡ false → cond t None (cond o (Some x) (cond (true && p && not f) (Some g) None)) ≡ cond (true && p && not (f || (l && t))) (Some g) None
    earlier true true true l o g x e q = refl
    earlier true true false l o g x e q = rw q
    earlier true false true l o g x e q = rw e
    earlier true false false l o g x e q = rw (e, q)
    earlier false f true l o g x e q = refl
    earlier false f false l o g x e q = rw q

    now : (p f t l : Bool) (g : Value) (x : Option Value) → l ≡ true → f ≡ false → x ≡ None → cond t None (cond (true && p) (Some g) x) ≡ cond (true && p && not (f || (l && t))) (Some g) None
    now true f true l g x e q r = rw (e, q)
    now true f false l g x e q r = rw (e, q)
    now false f true l g x e q r = refl
    now false f false l g x e q r = r

    later : (t o : Bool) (x : Value) (k : Option Value) → o ≡ false → k ≡ None → cond t None (cond o (Some x) k) ≡ None
    later true o x k e f = refl
    later false o x k e f = rw (e, f)

    kept_more : (j : ℕ) (c : Cell) → (j ≡ count) ⊎ ((j < count) ⊎ (count < j)) → kept_in j c new.kept
        ≡ cond (ltb j (suc count) && is_some (poke_of c (event_at schedule (n + j))) && not (some_from j (suc count) (touches_on windows pages schedule n s c))) (Some (get c (steps_on windows pages schedule n s j))) None
    kept_more j c (inl e) =
        let none : some_from j count (touches_on windows pages schedule n s c) ≡ false = none_from j count (touches_on windows pages schedule n s c) (λ x a b. absurd (omega arith)) in
        let gone : kept_in j c old.kept ≡ None = h.kept j c ∙ ap (λ b. cond (b && is_some (poke_of c (event_at schedule (n + j))) && not (some_from j count (touches_on windows pages schedule n s c))) (Some (get c (steps_on windows pages schedule n s j))) None) (le-ltb j count (omega arith)) in
        more.kept j c
        ∙ ap₂ (λ t o. cond t None (cond (o && is_some (poke_of c (event_at schedule (n + count)))) (Some (get c (steps_on windows pages schedule n s count))) (kept_in j c old.kept))) (touched_told (footprint windows pages schedule (n + count) (steps_on windows pages schedule n s count)) c) (eq-eqb j count e)
        ∙ now (is_some (poke_of c (event_at schedule (n + count)))) (some_from j count (touches_on windows pages schedule n s c)) (touches_on windows pages schedule n s c count) (leb j count) (get c (steps_on windows pages schedule n s count)) (kept_in j c old.kept) (le-leb j count (omega arith)) none gone
        ∙ ap₂ (λ b x. cond (b && is_some (poke_of c (event_at schedule (n + x))) && not (some_from j (suc count) (touches_on windows pages schedule n s c))) (Some (get c (steps_on windows pages schedule n s x))) None) (sym (lt-ltb j (suc count) (omega arith))) (sym e)
    kept_more j c (inr (inl l)) =
        more.kept j c
        ∙ ap₂ (λ t k. cond t None (cond (j == count && is_some (poke_of c (event_at schedule (n + count)))) (Some (get c (steps_on windows pages schedule n s count))) k)) (touched_told (footprint windows pages schedule (n + count) (steps_on windows pages schedule n s count)) c)
        (h.kept j c ∙ ap (λ b. cond (b && is_some (poke_of c (event_at schedule (n + j))) && not (some_from j count (touches_on windows pages schedule n s c))) (Some (get c (steps_on windows pages schedule n s j))) None) (lt-ltb j count l))
        ∙ earlier (is_some (poke_of c (event_at schedule (n + j)))) (some_from j count (touches_on windows pages schedule n s c)) (touches_on windows pages schedule n s c count) (leb j count) (j == count && is_some (poke_of c (event_at schedule (n + count)))) (get c (steps_on windows pages schedule n s j)) (get c (steps_on windows pages schedule n s count)) (le-leb j count (omega arith)) (ap (λ b. b && is_some (poke_of c (event_at schedule (n + count)))) (ne_eqb j count (λ q. omega arith)))
        ∙ ap (λ b. cond (b && is_some (poke_of c (event_at schedule (n + j))) && not (some_from j (suc count) (touches_on windows pages schedule n s c))) (Some (get c (steps_on windows pages schedule n s j))) None) (sym (lt-ltb j (suc count) (omega arith)))
    kept_more j c (inr (inr l)) =
        let gone : kept_in j c old.kept ≡ None = h.kept j c ∙ ap (λ b. cond (b && is_some (poke_of c (event_at schedule (n + j))) && not (some_from j count (touches_on windows pages schedule n s c))) (Some (get c (steps_on windows pages schedule n s j))) None) (le-ltb j count (omega arith)) in
        more.kept j c
        ∙ later (is_touched (told (footprint windows pages schedule (n + count) (steps_on windows pages schedule n s count))) c) (j == count && is_some (poke_of c (event_at schedule (n + count)))) (get c (steps_on windows pages schedule n s count)) (kept_in j c old.kept) (ap (λ b. b && is_some (poke_of c (event_at schedule (n + count)))) (ne_eqb j count (λ q. omega arith))) gone
        ∙ sym (ap (λ b. cond (b && is_some (poke_of c (event_at schedule (n + j))) && not (some_from j (suc count) (touches_on windows pages schedule n s c))) (Some (get c (steps_on windows pages schedule n s j))) None) (le-ltb j (suc count) (omega arith)))

    pub recorded_more : IsRecorded windows pages schedule n s (suc count) new
    recorded_more = record {
      footprints = λ j b. go j b (cases_lt j count);
      nothing_later = λ j b. then (footprint_in new.notes j) (footprint_in old.notes j) (footprint_in no_steps j) (not_here j (λ e. omega arith)) (h.nothing_later j (omega arith));
      kept = λ j c. kept_more j c (cases_order j count);
      signs = more.signs ∙ ap (λ x. with_step x count (steps_on windows pages schedule n s count) (steps_on windows pages schedule n s (suc count))) h.signs;
    }
      where
        go : (j : ℕ) → j < suc count → (j < count) ⊎ (count ≤ j) → SameFootprint (footprint_in new.notes j) (footprint_on windows pages schedule n s j)
        go j b (inl l) = then (footprint_in new.notes j) (footprint_in old.notes j) (footprint_on windows pages schedule n s j) (not_here j (λ e. omega arith)) (h.footprints j l)
        go j b (inr l) = at_count j (omega arith)

-- one step more
pub one_more : (windows pages : ℕ) (schedule : Schedule) (n : ℕ) (first s next : State) (j : ℕ) (old new : Interval) → s ≡ steps_on windows pages schedule n first j
    → next ≡ step windows pages schedule (n + j) s → IsRecorded windows pages schedule n first j old
    → HasOneMore windows pages schedule (n + j) j s next old new
    → (next ≡ steps_on windows pages schedule n first (j + 1)) × IsRecorded windows pages schedule n first (j + 1) new
one_more windows pages schedule n first s next j old new is stepped recorded more =
    let m = rw (stepped, is) at more in
    rw (add-one, stepped, is) (refl, recorded_more windows pages schedule n first j old new recorded m)

-- ---- a step of a machine that runs, with no address translated

alone : (b : Bool) → (b || false) ≡ b
alone true = refl
alone false = refl

pub ends_untranslated : (s : Signs) (j : ℕ) (before after : State) → before.processor.running ≡ true → translates before.mmu ≡ false → with_end s j true after.processor ≡ with_step s j before after
ends_untranslated s j before after ran off =
    sym (ap (λ b. with_end (record s { translation = s.translation || b }) j before.processor.running after.processor) off
    ∙ ap (λ b. with_end (record s { translation = b }) j before.processor.running after.processor) (alone s.translation)
    ∙ ap (λ b. with_end s j b after.processor) ran)
