-- Notes of words in a range, and steps that touch some bytes or none of them.
use Rattle.std.proofs.Common.{◌≡◌, ◌⊎◌, inl, inr, ℕ, ◌+◌, ◌%◌, ◌≤◌, ◌<◌, ◌==◌, Bool, true, false, List, [], ◌∷◌, refl, sym, ◌∙◌, ap, subst, arith}
use Rattle.std.specs.Prelude.{nat_le, nat_lt, ◌&&◌, ◌||◌}
use Rattle.std.proofs.lemmas.Bool.{cases_lt, or_parts, true≢false}
use Rattle.std.proofs.lemmas.Bool.Decides.{nat_tests}
use Rattle.sv8_model.specs.Outside.{word_address}
use Rattle.sv8_model.specs.declared.touch.TouchKind.{TouchKind}
use Rattle.sv8_model.specs.declared.touch.TouchKind.TheVariants.{Any, Data}
use Rattle.sv8_model.specs.Cells.{ram_byte}
use Rattle.sv8_notes.specs.declared.notes.WordNote.{WordNote}
use Rattle.sv8_notes.specs.Steps.{Steps, is_word_of, has_word, footprint_in}
use Rattle.sv8_notes.proofs.Common.{or_groups}
use Rattle.sv8_notes.specs.Touching.{is_from_to, is_note_in, are_notes_in, fetches_of, touches_any, touches_as}

both : (a b : Bool) → a ≡ true → b ≡ true → (a && b) ≡ true
both a b p q = ap (λ x. x && b) p ∙ q

neither : (a b : Bool) → a ≡ false → b ≡ false → (a || b) ≡ false
neither a b p q = ap (λ x. x || b) p ∙ q

-- one of two holds
first_or : (a b : Bool) → (a || b) ≡ true → (a ≡ true) ⊎ (b ≡ true)
first_or true b h = inl refl
first_or false b h = inr h

second_or : (a b : Bool) → b ≡ true → (a || b) ≡ true
second_or true b h = refl
second_or false b h = h

-- ---- one note

in_place : (low last from end w j : ℕ) → w % 4 ≡ 0 → low ≤ w → w ≤ last → from ≤ j → j < end
    → ((w % 4 == 0 && is_from_to low last w) && (nat_le from j && nat_lt j end)) ≡ true
in_place low last from end w j aligned a b c d =
    let whole : (w % 4 == 0) ≡ true = ap (λ x. x == 0) aligned in
    let above : nat_le low w ≡ true = grind (arith, nat_tests, a) in
    let below : nat_le w last ≡ true = grind (arith, nat_tests, b) in
    let behind : nat_le from j ≡ true = grind (arith, nat_tests, c) in
    let before : nat_lt j end ≡ true = grind (arith, nat_tests, d) in
    both _ _ (both _ _ whole (both _ _ above below)) (both _ _ behind before)

-- what holds of a note in these ranges
record InPlace (low last from end : ℕ) (note : WordNote) : Type 0 where
  pub aligned : note.address % 4 ≡ 0
  pub above : low ≤ note.address
  pub below : note.address ≤ last
  pub behind : from ≤ note.offset
  pub before : note.offset < end

and_first : (a b : Bool) → (a && b) ≡ true → a ≡ true
and_first true b h = refl
and_first false b h = absurd (true≢false (sym h))

and_second : (a b : Bool) → (a && b) ≡ true → b ≡ true
and_second true b h = h
and_second false b h = absurd (true≢false (sym h))

is_in_place : (low last from end : ℕ) (note : WordNote) → is_note_in low last from end note ≡ true → InPlace low last from end note
is_in_place low last from end note h =
    let word = and_first (note.address % 4 == 0 && is_from_to low last note.address) (nat_le from note.offset && nat_lt note.offset end) h in
    let step = and_second (note.address % 4 == 0 && is_from_to low last note.address) (nat_le from note.offset && nat_lt note.offset end) h in
    let whole = and_first (note.address % 4 == 0) (is_from_to low last note.address) word in
    let range = and_second (note.address % 4 == 0) (is_from_to low last note.address) word in
    let above = and_first (nat_le low note.address) (nat_le note.address last) range in
    let below = and_second (nat_le low note.address) (nat_le note.address last) range in
    let behind = and_first (nat_le from note.offset) (nat_lt note.offset end) step in
    let before = and_second (nat_le from note.offset) (nat_lt note.offset end) step in
    record {
      aligned = grind (arith, nat_tests, whole);
      above = grind (arith, nat_tests, above);
      below = grind (arith, nat_tests, below);
      behind = grind (arith, nat_tests, behind);
      before = grind (arith, nat_tests, before);
    }

-- ---- notes of a word

module _ (low last from end : ℕ) where
  none_of_word : (w j : ℕ) → w % 4 ≡ 0 → low ≤ w → w ≤ last → from ≤ j → j < end → (notes : List WordNote) → are_notes_in low last from end notes ≡ false → has_word notes w j ≡ false
  none_of_word w j aligned a b c d [] h = refl
  none_of_word w j aligned a b c d (note ∷ notes) h =
      neither (is_word_of w j note) (has_word notes w j) (by_case (is_word_of w j note) refl (or_parts (is_note_in low last from end note) (are_notes_in low last from end notes) h).0)
      (none_of_word w j aligned a b c d notes (or_parts (is_note_in low last from end note) (are_notes_in low last from end notes) h).1)
    where
      by_case : (b : Bool) → is_word_of w j note ≡ b → is_note_in low last from end note ≡ false → b ≡ false
      by_case false e n = refl
      by_case true e n =
          let first = and_first (note.address == w) (note.offset == j) e in
          let second = and_second (note.address == w) (note.offset == j) e in
          let word : w ≡ note.address = grind (arith, nat_tests, first) in
          let step : j ≡ note.offset = grind (arith, nat_tests, second) in
          let it = in_place low last from end w j aligned a b c d in
          let there = subst (λ x. ((x % 4 == 0 && is_from_to low last x) && (nat_le from j && nat_lt j end)) ≡ true) word it in
          let here = subst (λ y. ((note.address % 4 == 0 && is_from_to low last note.address) && (nat_le from y && nat_lt y end)) ≡ true) step there in
          absurd (true≢false (sym here ∙ n))

  -- a word that has a note
  record Noted (notes : List WordNote) : Type 0 where
    pub word : ℕ
    pub step : ℕ
    pub aligned : word % 4 ≡ 0
    pub above : low ≤ word
    pub below : word ≤ last
    pub behind : from ≤ step
    pub before : step < end
    pub has : has_word notes word step ≡ true

  some_noted : (notes : List WordNote) → are_notes_in low last from end notes ≡ true → Noted notes
  some_noted [] h = absurd (true≢false (sym h))
  some_noted (note ∷ notes) h = elim (first_or (is_note_in low last from end note) (are_notes_in low last from end notes) h) [
    | inl here ↦ noted_here (is_in_place low last from end note here)
    | inr later ↦ noted_later (some_noted notes later)
  ]
    where
      noted_here : InPlace low last from end note → Noted (note ∷ notes)
      noted_here p =
          let itself : is_word_of note.address note.offset note ≡ true = grind (arith, nat_tests) in
          record {
            word = note.address;
            step = note.offset;
            aligned = p.aligned;
            above = p.above;
            below = p.below;
            behind = p.behind;
            before = p.before;
            has = ap (λ b. b || has_word notes note.address note.offset) itself;
          }

      noted_later : Noted notes → Noted (note ∷ notes)
      noted_later p = record {
        word = p.word;
        step = p.step;
        aligned = p.aligned;
        above = p.above;
        below = p.below;
        behind = p.behind;
        before = p.before;
        has = second_or (is_word_of p.word p.step note) (has_word notes p.word p.step) p.has;
      }

-- ---- the notes of an interval

-- a byte is touched where its word has a note
touched_byte : (kind : TouchKind) (s : Steps) (j i : ℕ)
    → touches_as kind (footprint_in s j) (ram_byte i) ≡ (has_word (fetches_of kind s) (word_address i) j || (has_word s.reads (word_address i) j || has_word s.writes (word_address i) j))
touched_byte Any s j i = sym (or_groups (has_word s.fetches (word_address i) j) (has_word s.reads (word_address i) j) (has_word s.writes (word_address i) j))
touched_byte Data s j i = refl

-- the bytes are from one address to another; their words are those from `low` on
module _ (kind : TouchKind) (address count low last from end : ℕ) (word : low ≡ word_address address) (some : 1 ≤ count) (last_is : last + 1 ≡ address + count) where
  pub none_in : (s : Steps) (j i : ℕ) → touches_any kind low last from end s ≡ false → from ≤ j → j < end → address ≤ i → i < address + count
      → touches_as kind (footprint_in s j) (ram_byte i) ≡ false
  none_in s j i h a b c d =
      let aligned : word_address i % 4 ≡ 0 = omega arith in
      let above : low ≤ word_address i = omega (arith, word, c) in
      let below : word_address i ≤ last = omega (arith, last_is, d) in
      let first = or_parts (are_notes_in low last from end (fetches_of kind s)) (are_notes_in low last from end s.reads || are_notes_in low last from end s.writes) h in
      let others = or_parts (are_notes_in low last from end s.reads) (are_notes_in low last from end s.writes) first.1 in
      touched_byte kind s j i
      ∙ neither (has_word (fetches_of kind s) (word_address i) j) _
      (none_of_word low last from end (word_address i) j aligned above below a b (fetches_of kind s) first.0)
      (neither (has_word s.reads (word_address i) j) (has_word s.writes (word_address i) j)
      (none_of_word low last from end (word_address i) j aligned above below a b s.reads others.0)
      (none_of_word low last from end (word_address i) j aligned above below a b s.writes others.1))

  -- a byte whose word is touched
  pub record Touched (s : Steps) : Type 0 where
    pub byte : ℕ
    pub step : ℕ
    pub above : address ≤ byte
    pub below : byte < address + count
    pub behind : from ≤ step
    pub before : step < end
    pub met : touches_as kind (footprint_in s step) (ram_byte byte) ≡ true

  -- the byte of a word, which is the first one of it or that of the address
  byte_in : (s : Steps) (w j : ℕ) → w % 4 ≡ 0 → low ≤ w → w ≤ last → from ≤ j → j < end
      → (has_word (fetches_of kind s) w j || (has_word s.reads w j || has_word s.writes w j)) ≡ true → Touched s
  byte_in s w j aligned a b c d has = by_case (cases_lt w address)
    where
      there : (i : ℕ) → w ≡ word_address i → touches_as kind (footprint_in s j) (ram_byte i) ≡ true
      there i e = touched_byte kind s j i ∙ subst (λ x. (has_word (fetches_of kind s) x j || (has_word s.reads x j || has_word s.writes x j)) ≡ true) e has

      by_case : (w < address) ⊎ (address ≤ w) → Touched s
      by_case (inl below) = record {
        byte = address;
        step = j;
        above = omega arith;
        below = omega (arith, some);
        behind = c;
        before = d;
        met = there address (omega (arith, word, aligned, a, below));
      }
      by_case (inr above) = record {
        byte = w;
        step = j;
        above = above;
        below = omega (arith, b, last_is);
        behind = c;
        before = d;
        met = there w (omega (arith, aligned));
      }

  pub some_in : (s : Steps) → touches_any kind low last from end s ≡ true → Touched s
  some_in s h = elim (first_or (are_notes_in low last from end (fetches_of kind s)) _ h) [
    | inl fetches ↦ at (fetches_of kind s) fetches (λ w j e. or_first _ _ e)
    | inr others ↦ elim (first_or (are_notes_in low last from end s.reads) (are_notes_in low last from end s.writes) others) [
      | inl reads ↦ at s.reads reads (λ w j e. second_or (has_word (fetches_of kind s) w j) _ (or_first _ _ e))
      | inr writes ↦ at s.writes writes (λ w j e. second_or (has_word (fetches_of kind s) w j) _ (second_or (has_word s.reads w j) _ e))
    ]
  ]
    where
      or_first : (a b : Bool) → a ≡ true → (a || b) ≡ true
      or_first true b h = refl
      or_first false b h = absurd (true≢false (sym h))

      at : (notes : List WordNote) → are_notes_in low last from end notes ≡ true
          → ((w j : ℕ) → has_word notes w j ≡ true → (has_word (fetches_of kind s) w j || (has_word s.reads w j || has_word s.writes w j)) ≡ true) → Touched s
      at notes some among =
          let it = some_noted low last from end notes some in
          byte_in s it.word it.step it.aligned it.above it.below it.behind it.before (among it.word it.step it.has)
