-- A range of recorded steps that leaves some bytes of RAM alone.
use Rattle.std.proofs.Common.{◌≡◌, ◌⊎◌, inl, inr, ℕ, suc, ◌+◌, ◌*◌, ◌/◌, ◌%◌, ◌<◌, ◌≤◌, Bool, true, false, not, MatchBool, Option, Some, None, List, [], ◌∷◌, length, get_or, refl, sym, subst, ◌∙◌, ap, ap₂, arith}
use Rattle.std.specs.Prelude.{◌&&◌, ◌||◌, is_some}
use Rattle.std.proofs.lemmas.List.Folds.{list_any-append}
use Rattle.std.proofs.lemmas.Bool.{true≢false, MatchBool-at_false}
use Rattle.std.proofs.Math.Nat.{div-add-mod, div-lt_iff_lt-mul, mod-lt, mul_comm}
use Rattle.sv8_model.specs.declared.touch.TouchKind.{TouchKind}
use Rattle.sv8_model.specs.declared.touch.TouchKind.TheVariants.{Any, Data}
use Rattle.sv8_model.specs.Cells.{ram_byte}
use Rattle.sv8_history.specs.Machine.{state_at}
use Rattle.sv8_time.specs.declared.words.WordPoke.{WordPoke}
use Rattle.sv8_time.specs.Words.{poked_from, poked_bytes, bytes_of_words}
use Rattle.sv8_cpu.specs.State.{State}
use Rattle.sv8_cpu.specs.Recorded.{machine}
use Rattle.sv8_cpu.specs.Run.{footprint}
use Rattle.sv8_cpu.specs.Touching.{touches_byte_as, is_within, pokes_any}
use Rattle.sv8_reset.proofs.Runs.{footprint_is, state_is}
use Rattle.sv8_trace.specs.Recording.{Recording, recorded, trace_of}
use Rattle.sv8_notes.specs.Flags.{IsFlagged, IsFlaggedUnless}
use Rattle.sv8_notes.specs.Touching.{touches_as}
use Rattle.sv8_evidence.specs.Touching.{NoneTouches}
use Rattle.sv8_evidence.specs.Showing.{NoneShows}
use Rattle.sv8_evidence.specs.Signs.{has_sign, shows}
use Rattle.sv8_evidence.specs.declared.signs.Sign.{Sign}
use Rattle.sv8_evidence.specs.declared.signs.Sign.TheVariants as sign
use Rattle.sv8_evidence.proofs.Common.{each_shows_none}
use Rattle.sv8_workbench.specs.Shown.{machine_state}
use Rattle.sv8_bench.specs.Workbench.{Workbench, run_of_kept, IsRun}
use Rattle.sv8_search.specs.Touching.{NonePokes, pokes_at, IsUntouched, IsUnreached, ShowsNone}

-- ---- poked bytes

module _ (address count : ℕ) where
  abbrev is_one : Option ℕ → ℕ → Bool
  is_one b at = is_some b && is_within address count at

  first_byte : (step at : ℕ) (b : Option ℕ) (bs : List (Option ℕ)) → pokes_any address count (poked_from step at (b ∷ bs)) ≡ (is_one b at || pokes_any address count (poked_from step (at + 1) bs))
  first_byte step at None bs = refl
  first_byte step at (Some value) bs = refl

  last_byte : (b : Bool) → (b || false) ≡ b
  last_byte true = refl
  last_byte false = refl

  pub of_four : (step at : ℕ) (a b c d : Option ℕ) → pokes_any address count (poked_from step at (a ∷ b ∷ c ∷ d ∷ [])) ≡ (is_one a at || (is_one b (at + 1) || (is_one c (at + 2) || is_one d (at + 3))))
  of_four step at a b c d =
      let second : at + 1 + 1 ≡ at + 2 = omega arith in
      let third : at + 1 + 1 + 1 ≡ at + 3 = omega arith in
      first_byte step at a (b ∷ c ∷ d ∷ [])
      ∙ ap (λ x. is_one a at || x) (first_byte step (at + 1) b (c ∷ d ∷ [])
      ∙ ap (λ x. is_one b (at + 1) || x) (first_byte step (at + 1 + 1) c (d ∷ [])
      ∙ ap₂ (λ x y. is_one c x || y) second (first_byte step (at + 1 + 1 + 1) d [] ∙ last_byte (is_one d (at + 1 + 1 + 1)) ∙ ap (is_one d) third)))

-- the four bytes of a word
pub four_bytes : (address count : ℕ) (w : WordPoke) → length w.bytes ≡ 4 → pokes_any address count (poked_bytes w)
    ≡ (is_some (get_or w.bytes 0 None) && is_within address count w.address || (is_some (get_or w.bytes 1 None) && is_within address count (w.address + 1)
    || (is_some (get_or w.bytes 2 None) && is_within address count (w.address + 2) || is_some (get_or w.bytes 3 None) && is_within address count (w.address + 3))))
four_bytes address count w e = go w.bytes e
  where
    go : (bytes : List (Option ℕ)) → length bytes ≡ 4 → pokes_any address count (poked_from w.step w.address bytes)
        ≡ (is_some (get_or bytes 0 None) && is_within address count w.address || (is_some (get_or bytes 1 None) && is_within address count (w.address + 1)
        || (is_some (get_or bytes 2 None) && is_within address count (w.address + 2) || is_some (get_or bytes 3 None) && is_within address count (w.address + 3))))
    go (a ∷ b ∷ c ∷ d ∷ []) e = of_four address count w.step w.address a b c d
    go [] e = absurd (omega (arith, e))
    go (a ∷ []) e = absurd (omega (arith, e))
    go (a ∷ b ∷ []) e = absurd (omega (arith, e))
    go (a ∷ b ∷ c ∷ []) e = absurd (omega (arith, e))
    go (a ∷ b ∷ c ∷ d ∷ x ∷ xs) e = absurd (omega (arith, e))

pub more_words : (address count : ℕ) (w : WordPoke) (ws : List WordPoke) → pokes_any address count (bytes_of_words (w ∷ ws)) ≡ (pokes_any address count (poked_bytes w) || pokes_any address count (bytes_of_words ws))
more_words address count w ws = list_any-append (λ p. is_within address count p.address) (poked_bytes w) (bytes_of_words ws)

-- ---- what a call of the recorded run says of the workbench that lends it

pub of_bench : (P : ℕ → ℕ → Recording → Type 0) (w : Workbench) (windows pages : ℕ) (r : Recording) → w.kept.windows ≡ windows → w.kept.pages ≡ pages → r ≡ w.recording
    → P windows pages r → P w.kept.windows w.kept.pages w.recording
of_bench P w windows pages r e f same h =
    subst (λ t. P w.kept.windows w.kept.pages t) same (subst (λ n. P w.kept.windows n r) (sym f) (subst (λ n. P n pages r) (sym e) h))

-- ---- the recorded steps

module _ (kind : TouchKind) (k : ℕ) (w : Workbench) (run : IsRun k w) (address count from to : ℕ) where
  -- the notes of a recorded step are what it touches
  noted : (which : TouchKind) (n i : ℕ) → n < recorded k w.recording
      → touches_as which ((trace_of w.kept.windows w.kept.pages k w.recording).notes n) (ram_byte i)
      ≡ touches_byte_as which (footprint w.kept.windows w.kept.pages w.kept.timeline n (machine_state w.kept n)) i
  noted Any n i below =
      let same = run.record_is.trace.notes n below in
      let it = footprint_is w.kept.windows w.kept.pages w.kept.source w.kept.timeline run.events n in
      ap₂ (λ x y. x || y) (same.reads (ram_byte i) ∙ ap (λ f. f.reads (ram_byte i)) it) (same.writes (ram_byte i) ∙ ap (λ f. f.writes (ram_byte i)) it)
  noted Data n i below =
      let same = run.record_is.trace.notes n below in
      let it = footprint_is w.kept.windows w.kept.pages w.kept.source w.kept.timeline run.events n in
      same.uses (ram_byte i) ∙ ap (λ f. f.uses (ram_byte i)) it

  pub untouched : to ≤ recorded k w.recording → NoneTouches kind w.kept.windows w.kept.pages k w.recording address count from to → NonePokes w.kept.timeline address count from to
      → IsUntouched kind k w address count from to
  untouched within none spared = record {
    recorded = within;
    spared = λ n a b. record { touched = λ i c d. sym (noted kind n i (omega (arith, within, b))) ∙ none n i a b c d; poked = spared n a b };
  }

  pub none_touches : IsUntouched kind k w address count from to → NoneTouches kind w.kept.windows w.kept.pages k w.recording address count from to
  none_touches h n i a b c d = let within = h.recorded in noted kind n i (omega (arith, within, b)) ∙ (h.spared n a b).touched i c d

  pub none_pokes : IsUntouched kind k w address count from to → NonePokes w.kept.timeline address count from to
  none_pokes h n a b = (h.spared n a b).poked

  -- the answer of a search through the notes, and of one through the events
  pub answer_by_pokes : (poked : Bool) → to ≤ recorded k w.recording → NoneTouches kind w.kept.windows w.kept.pages k w.recording address count from to
      → MatchBool poked (NonePokes w.kept.timeline address count from to → ⊥) (NonePokes w.kept.timeline address count from to)
      → MatchBool (not poked) (IsUntouched kind k w address count from to) (IsUntouched kind k w address count from to → ⊥)
  answer_by_pokes true within none h = λ it. h (none_pokes it)
  answer_by_pokes false within none h = untouched within none h

  pub answer_by_touches : (spared : Bool) → spared ≡ false → (NoneTouches kind w.kept.windows w.kept.pages k w.recording address count from to → ⊥)
      → MatchBool spared (IsUntouched kind k w address count from to) (IsUntouched kind k w address count from to → ⊥)
  answer_by_touches true e h = absurd (true≢false e)
  answer_by_touches false e h = λ it. h (none_touches it)

-- ---- the recorded steps that show a sign

module _ (k : ℕ) (w : Workbench) (pos : 0 < k) (run : IsRun k w) (from to : ℕ) (within : to ≤ recorded k w.recording) where
  abbrev state_of : ℕ → State
  state_of = state_at (machine w.kept.windows w.kept.pages) (run_of_kept w.kept run.events)

  state_there : (m n : ℕ) → m ≡ n → state_of m ≡ machine_state w.kept n
  state_there m n e = ap state_of e ∙ state_is w.kept.windows w.kept.pages w.kept.source w.kept.timeline run.events n

  -- those that have none show none
  shown_none : (s : Sign) → NoneShows s k w.recording from to → (n : ℕ) → from ≤ n → n < to → shows s (machine_state w.kept n) (machine_state w.kept (n + 1)) ≡ false
  shown_none s none n low below =
      let i = n / k in
      let j = n % k in
      let split = div-add-mod n k in
      let here : i < length w.recording.intervals =
      (div-lt_iff_lt-mul pos).1 (omega (arith, below, within, mul_comm (length w.recording.intervals) k)) in
      let it = ap (has_sign s j) (sym (run.record_is.signs i here)) ∙ none n low below in
      let before = state_there (k * i + j) n (omega (arith, split)) in
      let after = state_there (k * i + suc j) (n + 1) (omega (arith, split)) in
      sym (ap₂ (shows s) before after) ∙ each_shows_none s (λ x. state_of (k * i + x)) k j it (mod-lt n pos)

  -- the answers by the signs
  pub answer_unreached : (address : ℕ) (none : Bool) → IsUntouched Any k w address 4 from to
      → MatchBool none (NoneShows sign.Translation k w.recording from to) (NoneShows sign.Translation k w.recording from to → ⊥)
      → MatchBool none (IsUnreached k w address from to) (IsUntouched Any k w address 4 from to → NoneShows sign.Translation k w.recording from to → ⊥)
  answer_unreached address true spared h = record { untouched = spared; untranslated = shown_none sign.Translation h }
  answer_unreached address false spared h = λ it none. h none

  pub answer_shown : (s : Sign) (none : Bool) → MatchBool none (NoneShows s k w.recording from to) (NoneShows s k w.recording from to → ⊥)
      → MatchBool none (ShowsNone s k w from to) (to ≤ recorded k w.recording → NoneShows s k w.recording from to → ⊥)
  answer_shown s true h = record { recorded = within; apart = shown_none s h }
  answer_shown s false h = λ it none. h none

-- a step whose flag is not set
pub unflagged : (s : Sign) (k : ℕ) (w : Workbench) → 0 < k → IsRun k w → (from : ℕ) (old new : List Bool) → from + length old ≤ recorded k w.recording
    → IsFlaggedUnless (λ i. NoneShows s k w.recording (from + i) (from + i + 1)) old new
    → (i : ℕ) → i < length old → get_or new i false ≡ false → ShowsNone s k w (from + i) (from + i + 1)
unflagged s k w pos run from old new within h i inside unset =
    let last : from + i + 1 ≤ recorded k w.recording = omega (arith, within, inside) in
    let none = (MatchBool-at_false _ _ unset (h.flags i inside)).1 in
    record { recorded = last; apart = shown_none k w pos run (from + i) (from + i + 1) last s none }

-- ---- the flags of steps that are not spared

module _ (kind : TouchKind) (k : ℕ) (w : Workbench) (run : IsRun k w) (address count from : ℕ) (old mid new : List Bool) (within : from + length old ≤ recorded k w.recording) where
  abbrev Spared : ℕ → Type 0
  Spared i = IsUntouched kind k w address count (from + i) (from + i + 1)

  abbrev Untouching : ℕ → Type 0
  Untouching i = NoneTouches kind w.kept.windows w.kept.pages k w.recording address count (from + i) (from + i + 1)

  poked_nowhere : (i : ℕ) → pokes_at w.kept.timeline address count (from + i) ≡ false → NonePokes w.kept.timeline address count (from + i) (from + i + 1)
  poked_nowhere i none n low high =
      let same : n ≡ from + i = omega (arith, low, high) in
      ap (pokes_at w.kept.timeline address count) same ∙ none

  by_both : (i : ℕ) → i < length old → (touched poked : Bool) → pokes_at w.kept.timeline address count (from + i) ≡ poked
      → MatchBool touched ((get_or old i false ≡ true) ⊎ (Untouching i → ⊥)) ((get_or old i false ≡ false) × Untouching i)
      → MatchBool (touched || poked) ((get_or old i false ≡ true) ⊎ (Spared i → ⊥)) ((get_or old i false ≡ false) × Spared i)
  by_both i inside true poked e (inl was) = inl was
  by_both i inside true poked e (inr touched) = inr (λ it. touched (none_touches kind k w run address count (from + i) (from + i + 1) it))
  by_both i inside false true e h =
      inr (λ it. true≢false (sym e ∙ none_pokes kind k w run address count (from + i) (from + i + 1) it (from + i) (omega arith) (omega arith)))
  by_both i inside false false e h = (h.0, untouched kind k w run address count (from + i) (from + i + 1) (omega (arith, within, inside)) h.1 (poked_nowhere i e))

  -- by their notes, and then by their events
  pub flagged_unless : IsFlaggedUnless Untouching old mid → IsFlagged (λ i. pokes_at w.kept.timeline address count (from + i)) mid new → IsFlaggedUnless Spared old new
  flagged_unless first second = record {
    count = second.count ∙ first.count;
    flags = λ i inside.
        subst (λ b. MatchBool b ((get_or old i false ≡ true) ⊎ (Spared i → ⊥)) ((get_or old i false ≡ false) × Spared i)) (sym (second.flags i (omega (arith, inside, first.count))))
        (by_both i inside (get_or mid i false) (pokes_at w.kept.timeline address count (from + i)) refl (first.flags i inside));
  }

-- what an answer says
pub shown_by : (b : Bool) (P Q : Type 0) → MatchBool b P Q → b ≡ true → P
shown_by true P Q h e = h
shown_by false P Q h e = absurd (true≢false (sym e))

-- a step whose flag is not set reaches no instruction, where no address is translated
pub unreached_flag : (k : ℕ) (w : Workbench) → 0 < k → IsRun k w → (address from : ℕ) (old new : List Bool) → from + length old ≤ recorded k w.recording
    → IsFlaggedUnless (λ i. IsUntouched Any k w address 4 (from + i) (from + i + 1)) old new → NoneShows sign.Translation k w.recording from (from + length old)
    → (i : ℕ) → i < length old → get_or new i false ≡ false → (get_or old i false ≡ false) × IsUnreached k w address (from + i) (from + i + 1)
unreached_flag k w pos run address from old new within h none i inside unset =
    let spared = MatchBool-at_false _ _ unset (h.flags i inside) in (
      spared.0,
      record {
        untouched = spared.1;
        untranslated = λ n low high. shown_none k w pos run from (from + length old) within sign.Translation none n (omega (arith, low)) (omega (arith, high, inside));
      },
    )
