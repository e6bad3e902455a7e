-- Notes of more touches.
use Rattle.std.proofs.Common.{length, get_or, set, suc, zero, arith, ◌≡◌, ℕ, List, [], ◌∷◌, ◌++◌, ◌==◌, Bool, true, false, ◌&&◌, ◌||◌, refl, sym, ◌∙◌, ap, eqb-true, eq-eqb}
use Rattle.std.specs.List.{list_any}
use Rattle.sv8_model.specs.declared.touch.Touch.{Touch}
use Rattle.sv8_model.specs.declared.touch.Touch.TheVariants.{Read, Write, Levels}
use Rattle.sv8_model.specs.Outside.{word_address}
use Rattle.sv8_model.specs.Words.{bit}
use Rattle.sv8_model.specs.Levels.{timer_level}
use Rattle.sv8_model.specs.Footprint.{is_read_of, is_write_of, is_touch_of, is_input, asks, is_expiry, reads_input}
use Rattle.sv8_model.specs.Cells.{Cell, ram_byte, waiting_bytes, pending_level, is_read}
use Rattle.sv8_notes.specs.declared.notes.WordNote.{WordNote}
use Rattle.sv8_notes.specs.Touched.{is_told_written}
use Rattle.sv8_notes.specs.declared.word_run.WordRun.{WordRun}
use Rattle.sv8_notes.specs.WordRuns.{words_of_run}
use Rattle.sv8_notes.specs.Recording.{with_run}
use Rattle.sv8_notes.specs.Steps.{Steps, Gains, is_word_of, has_word, is_asked_in, is_among, reads_in, writes_in, data_in, are_of}

flip : (p q : Bool) → (p ≡ true → q ≡ true) → (q ≡ true → p ≡ true) → p ≡ q
flip true q f g = sym (f refl)
flip false true f g = g refl
flip false false f g = refl

pub swap : (a b : ℕ) → (a == b) ≡ (b == a)
swap a b = flip (a == b) (b == a) (λ e. eq-eqb b a (sym (eqb-true a b e))) (λ e. eq-eqb a b (sym (eqb-true b a e)))

-- nothing more, and three in two groups
pub or_none : (b : Bool) → (b || false) ≡ b
or_none true = refl
or_none false = refl

pub or_groups : (a b c : Bool) → (a || (b || c)) ≡ ((a || b) || c)
or_groups true b c = refl
or_groups false b c = refl

pub any_append : {X : Type 0} (f : X → Bool) (xs ys : List X) → list_any f (xs ++ ys) ≡ (list_any f xs || list_any f ys)
any_append f [] ys = refl
any_append f (x ∷ xs) ys = ap (λ b. f x || b) (any_append f xs ys) ∙ or_groups (f x) (list_any f xs) (list_any f ys)

-- one element more
pub any_one : {X : Type 0} (f : X → Bool) (xs : List X) (x : X) → list_any f (xs ++ x ∷ []) ≡ (list_any f xs || f x)
any_one f xs x = any_append f xs (x ∷ []) ∙ ap (λ b. list_any f xs || b) (or_none (f x))

-- the last element is another, of which more is true
pub any_last : {X : Type 0} (f : X → Bool) (xs : List X) (n : ℕ) (d x : X) (b : Bool) → suc n ≡ length xs → f x ≡ (f (get_or xs n d) || b) → list_any f (set xs n x) ≡ (list_any f xs || b)
any_last f [] n d x b last e = absurd (omega (arith, last))
any_last f (y ∷ []) zero d x b last e = or_none (f x) ∙ e ∙ ap (λ c. c || b) (sym (or_none (f y)))
any_last f (y ∷ z ∷ zs) zero d x b last e = absurd (omega (arith, last))
any_last f (y ∷ []) (suc n) d x b last e = absurd (omega (arith, last))
any_last f (y ∷ z ∷ zs) (suc n) d x b last e = ap (λ c. f y || c) (any_last f (z ∷ zs) n d x b (omega (arith, last)) e) ∙ or_groups (f y) (list_any f (z ∷ zs)) b

-- ---- no gain

none : (x o : Bool) → x ≡ (x || (o && false))
none true o = refl
none false true = refl
none false false = refl

-- no data more
no_data : (offset : ℕ) (s : Steps) (c : Cell) (j : ℕ) → data_in s c j ≡ (data_in s c j || (j == offset && are_of [] c))
no_data offset s (ram_byte i) j = none _ (j == offset)
no_data offset s waiting_bytes j = none _ (j == offset)
no_data offset s (pending_level l) j = none _ (j == offset)

pub gains_nothing : (offset : ℕ) (s : Steps) → Gains offset [] [] s s
gains_nothing offset s = record {
  reads = λ c j. reads c j;
  writes = λ c j. writes c j;
  uses = λ c j. no_data offset s c j;
  takes = λ j. none (is_among j s.inputs) (j == offset);
}
  where
    reads : (c : Cell) (j : ℕ) → reads_in s c j ≡ (reads_in s c j || (j == offset && is_read [] c))
    reads (ram_byte i) j = none _ (j == offset)
    reads waiting_bytes j = none _ (j == offset)
    reads (pending_level l) j = none _ (j == offset)

    writes : (c : Cell) (j : ℕ) → writes_in s c j ≡ (writes_in s c j || (j == offset && is_told_written [] c))
    writes (ram_byte i) j = none _ (j == offset)
    writes waiting_bytes j = none _ (j == offset)
    writes (pending_level l) j = level (l == timer_level) (is_among j s.expiries) (j == offset)
      where
        level : (t x o : Bool) → (t && x) ≡ ((t && x) || (o && (t && false)))
        level true x o = none x o
        level false x true = refl
        level false x false = refl

-- ---- one touch

module _ (offset : ℕ) (s : Steps) where
  abbrev word : ℕ → WordNote
  word a = record { address = a; offset = offset }

  -- the note of a word more
  noted : (notes : List WordNote) (a w j : ℕ) → has_word (notes ++ word a ∷ []) w j ≡ (has_word notes w j || (j == offset && (a == w || false)))
  noted notes a w j = any_one (is_word_of w j) notes (word a) ∙ ap (λ b. has_word notes w j || b) (ap (λ o. a == w && o) (swap offset j) ∙ order (a == w) (j == offset))
    where
      order : (x o : Bool) → (x && o) ≡ (o && (x || false))
      order true true = refl
      order true false = refl
      order false true = refl
      order false false = refl

  turned : (x n y : Bool) → ((x || n) || y) ≡ ((x || y) || n)
  turned true n y = refl
  turned false true true = refl
  turned false true false = refl
  turned false false true = refl
  turned false false false = refl

  -- a read writes nothing
  none_written : (a : ℕ) (c : Cell) (j : ℕ) → writes_in s c j ≡ (writes_in s c j || (j == offset && is_told_written (Read a ∷ []) c))
  none_written a (ram_byte i) j = none _ (j == offset)
  none_written a waiting_bytes j = none _ (j == offset)
  none_written a (pending_level l) j = (gains_nothing offset s).writes (pending_level l) j

  -- the note of a word that is fetched
  pub gains_read : (a : ℕ) → Gains offset (Read a ∷ []) [] s (record s { fetches = s.fetches ++ record { address = a; offset = offset } ∷ [] })
  gains_read a = record {
    reads = λ c j. reads c j;
    writes = λ c j. none_written a c j;
    uses = λ c j. no_data offset s c j;
    takes = λ j. none (is_among j s.inputs) (j == offset);
  }
    where
      reads : (c : Cell) (j : ℕ) → reads_in (record s { fetches = s.fetches ++ word a ∷ [] }) c j ≡ (reads_in s c j || (j == offset && is_read (Read a ∷ []) c))
      reads (ram_byte i) j =
          let w = word_address i in
          ap (λ b. b || has_word s.reads w j) (noted s.fetches a w j) ∙ turned (has_word s.fetches w j) (j == offset && (a == w || false)) (has_word s.reads w j)
      reads waiting_bytes j = none _ (j == offset)
      reads (pending_level l) j = none _ (j == offset)

  -- the note of a word that is read as data
  pub gains_load : (a : ℕ) → Gains offset (Read a ∷ []) (Read a ∷ []) s (record s { reads = s.reads ++ record { address = a; offset = offset } ∷ [] })
  gains_load a = record {
    reads = λ c j. reads c j;
    writes = λ c j. none_written a c j;
    uses = λ c j. uses c j;
    takes = λ j. none (is_among j s.inputs) (j == offset);
  }
    where
      reads : (c : Cell) (j : ℕ) → reads_in (record s { reads = s.reads ++ word a ∷ [] }) c j ≡ (reads_in s c j || (j == offset && is_read (Read a ∷ []) c))
      reads (ram_byte i) j =
          let w = word_address i in
          ap (λ b. has_word s.fetches w j || b) (noted s.reads a w j) ∙ or_groups (has_word s.fetches w j) (has_word s.reads w j) (j == offset && (a == w || false))
      reads waiting_bytes j = none _ (j == offset)
      reads (pending_level l) j = none _ (j == offset)

      uses : (c : Cell) (j : ℕ) → data_in (record s { reads = s.reads ++ word a ∷ [] }) c j ≡ (data_in s c j || (j == offset && are_of (Read a ∷ []) c))
      uses (ram_byte i) j =
          let w = word_address i in
          ap (λ b. b || has_word s.writes w j) (noted s.reads a w j ∙ ap (λ b. has_word s.reads w j || (j == offset && b)) (sym (or_none (a == w || false))))
          ∙ turned (has_word s.reads w j) (j == offset && ((a == w || false) || false)) (has_word s.writes w j)
      uses waiting_bytes j = none _ (j == offset)
      uses (pending_level l) j = none _ (j == offset)

  -- the note of a word that is written
  pub gains_store : (a : ℕ) → Gains offset (Write a ∷ []) (Write a ∷ []) s (record s { writes = s.writes ++ record { address = a; offset = offset } ∷ [] })
  gains_store a = record {
    reads = λ c j. reads c j;
    writes = λ c j. writes c j;
    uses = λ c j. uses c j;
    takes = λ j. none (is_among j s.inputs) (j == offset);
  }
    where
      reads : (c : Cell) (j : ℕ) → reads_in s c j ≡ (reads_in s c j || (j == offset && is_read (Write a ∷ []) c))
      reads (ram_byte i) j = none _ (j == offset)
      reads waiting_bytes j = none _ (j == offset)
      reads (pending_level l) j = none _ (j == offset)

      writes : (c : Cell) (j : ℕ) → writes_in (record s { writes = s.writes ++ word a ∷ [] }) c j ≡ (writes_in s c j || (j == offset && is_told_written (Write a ∷ []) c))
      writes (ram_byte i) j = noted s.writes a (word_address i) j
      writes waiting_bytes j = none _ (j == offset)
      writes (pending_level l) j = (gains_nothing offset s).writes (pending_level l) j

      uses : (c : Cell) (j : ℕ) → data_in (record s { writes = s.writes ++ word a ∷ [] }) c j ≡ (data_in s c j || (j == offset && are_of (Write a ∷ []) c))
      uses (ram_byte i) j =
          let w = word_address i in
          ap (λ b. has_word s.reads w j || b) (noted s.writes a w j) ∙ or_groups (has_word s.reads w j) (has_word s.writes w j) (j == offset && (a == w || false))
      uses waiting_bytes j = none _ (j == offset)
      uses (pending_level l) j = none _ (j == offset)

  -- what touches no word is no data
  abbrev NoWord : Touch → Type 0
  NoWord t = (address : ℕ) → is_touch_of address t ≡ false

  data_stays : (t : Touch) → NoWord t → (c : Cell) (j : ℕ) → data_in s c j ≡ (data_in s c j || (j == offset && are_of (t ∷ []) c))
  data_stays t apart (ram_byte i) j = none _ (j == offset) ∙ ap (λ b. data_in s (ram_byte i) j || (j == offset && (b || false))) (sym (apart (word_address i)))
  data_stays t apart waiting_bytes j = none _ (j == offset)
  data_stays t apart (pending_level l) j = none _ (j == offset)

  pub gains_levels : (levels : ℕ) (new : Steps) → new ≡ record s { levels = new.levels }
      → ((l j : ℕ) → list_any (is_asked_in l j) new.levels ≡ (list_any (is_asked_in l j) s.levels || (j == offset && bit levels l))) → Gains offset (Levels levels ∷ []) (Levels levels ∷ []) s new
  gains_levels levels new rest asked = record {
    reads = λ c j. ap (λ n. reads_in n c j) rest ∙ reads c j;
    writes = λ c j. ap (λ n. writes_in n c j) rest ∙ writes c j;
    uses = λ c j. ap (λ n. data_in n c j) rest ∙ data_stays (Levels levels) (λ w. refl) c j;
    takes = λ j. ap (λ (n : Steps). is_among j n.inputs) rest ∙ none (is_among j s.inputs) (j == offset);
  }
    where
      last : (b : Bool) → b ≡ (b || false)
      last true = refl
      last false = refl

      reads : (c : Cell) (j : ℕ) → reads_in (record s { levels = new.levels }) c j ≡ (reads_in s c j || (j == offset && is_read (Levels levels ∷ []) c))
      reads (ram_byte i) j = none _ (j == offset)
      reads waiting_bytes j = none _ (j == offset)
      reads (pending_level l) j = asked l j ∙ ap (λ b. list_any (is_asked_in l j) s.levels || (j == offset && b)) (last (bit levels l))

      writes : (c : Cell) (j : ℕ) → writes_in s c j ≡ (writes_in s c j || (j == offset && is_told_written (Levels levels ∷ []) c))
      writes (ram_byte i) j = none _ (j == offset)
      writes waiting_bytes j = none _ (j == offset)
      writes (pending_level l) j = (gains_nothing offset s).writes (pending_level l) j

-- ---- one touch after another

gathered : (x o a b : Bool) → ((x || (o && a)) || (o && b)) ≡ (x || (o && (a || b)))
gathered true o a b = refl
gathered false true a b = refl
gathered false false a b = refl

pub read_append : (ts us : List Touch) (c : Cell) → is_read (ts ++ us) c ≡ (is_read ts c || is_read us c)
read_append ts us (ram_byte i) = any_append (is_read_of (word_address i)) ts us
read_append ts us waiting_bytes = any_append is_input ts us
read_append ts us (pending_level l) = any_append (asks l) ts us

pub written_append : (ts us : List Touch) (c : Cell) → is_told_written (ts ++ us) c ≡ (is_told_written ts c || is_told_written us c)
written_append ts us (ram_byte i) = any_append (is_write_of (word_address i)) ts us
written_append ts us waiting_bytes = refl
written_append ts us (pending_level l) = ap (λ b. l == timer_level && b) (any_append is_expiry ts us) ∙ over (l == timer_level) (list_any is_expiry ts) (list_any is_expiry us)
  where
    over : (t a b : Bool) → (t && (a || b)) ≡ ((t && a) || (t && b))
    over true a b = refl
    over false a b = refl

pub are_of_append : (ts us : List Touch) (c : Cell) → are_of (ts ++ us) c ≡ (are_of ts c || are_of us c)
are_of_append ts us (ram_byte i) = any_append (is_touch_of (word_address i)) ts us
are_of_append ts us waiting_bytes = refl
are_of_append ts us (pending_level l) = refl

pub gains_then : (offset : ℕ) (ts us ds es : List Touch) (r s t : Steps) → Gains offset ts ds r s → Gains offset us es s t → Gains offset (ts ++ us) (ds ++ es) r t
gains_then offset ts us ds es r s t p q = record {
  uses = λ c j. q.uses c j ∙ ap (λ b. b || (j == offset && are_of es c)) (p.uses c j) ∙ gathered (data_in r c j) (j == offset) (are_of ds c) (are_of es c) ∙ ap (λ b. data_in r c j || (j == offset && b)) (sym (are_of_append ds es c));
  reads = λ c j. q.reads c j ∙ ap (λ b. b || (j == offset && is_read us c)) (p.reads c j) ∙ gathered (reads_in r c j) (j == offset) (is_read ts c) (is_read us c) ∙ ap (λ b. reads_in r c j || (j == offset && b)) (sym (read_append ts us c));
  writes = λ c j. q.writes c j ∙ ap (λ b. b || (j == offset && is_told_written us c)) (p.writes c j) ∙ gathered (writes_in r c j) (j == offset) (is_told_written ts c) (is_told_written us c) ∙ ap (λ b. writes_in r c j || (j == offset && b)) (sym (written_append ts us c));
  takes = λ j. q.takes j ∙ ap (λ b. b || (j == offset && reads_input us)) (p.takes j) ∙ gathered (is_among j r.inputs) (j == offset) (reads_input ts) (reads_input us) ∙ ap (λ b. is_among j r.inputs || (j == offset && b)) (sym (any_append is_input ts us));
}

-- the same of touches that read, write and take the same, and of data that is of the same words
pub gains_like : (offset : ℕ) (ts us ds es : List Touch) (r s : Steps) → ((c : Cell) → are_of es c ≡ are_of ds c) → ((c : Cell) → is_read us c ≡ is_read ts c) → ((c : Cell) → is_told_written us c ≡ is_told_written ts c) → reads_input us ≡ reads_input ts
    → Gains offset ts ds r s → Gains offset us es r s
gains_like offset ts us ds es r s uses reads writes takes p = record {
  uses = λ c j. p.uses c j ∙ ap (λ b. data_in r c j || (j == offset && b)) (sym (uses c));
  reads = λ c j. p.reads c j ∙ ap (λ b. reads_in r c j || (j == offset && b)) (sym (reads c));
  writes = λ c j. p.writes c j ∙ ap (λ b. writes_in r c j || (j == offset && b)) (sym (writes c));
  takes = λ j. p.takes j ∙ ap (λ b. is_among j r.inputs || (j == offset && b)) (sym takes);
}

-- beside words that are fetched
pub gains_beside : (offset : ℕ) (ts ds : List Touch) (s t : Steps) (run : WordRun) → Gains offset ts ds s t → Gains offset ts ds (with_run s run) (with_run t run)
gains_beside offset ts ds s t run p = record { uses = uses; reads = reads; writes = writes; takes = p.takes }
  where
    ws : List WordNote
    ws = words_of_run run

    uses : (c : Cell) (j : ℕ) → data_in (with_run t run) c j ≡ (data_in (with_run s run) c j || (j == offset && are_of ds c))
    uses (ram_byte i) j = p.uses (ram_byte i) j
    uses waiting_bytes j = p.uses waiting_bytes j
    uses (pending_level l) j = p.uses (pending_level l) j

    beside : (x : Steps) (i j : ℕ) → reads_in (with_run x run) (ram_byte i) j ≡ (reads_in x (ram_byte i) j || has_word ws (word_address i) j)
    beside x i j =
        let w = word_address i in
        ap (λ b. b || has_word x.reads w j) (any_append (is_word_of w j) x.fetches ws) ∙ turned offset x (has_word x.fetches w j) (has_word ws w j) (has_word x.reads w j)

    reads : (c : Cell) (j : ℕ) → reads_in (with_run t run) c j ≡ (reads_in (with_run s run) c j || (j == offset && is_read ts c))
    reads (ram_byte i) j =
        let w = word_address i in
        let more = j == offset && is_read ts (ram_byte i) in
        beside t i j ∙ ap (λ b. b || has_word ws w j) (p.reads (ram_byte i) j) ∙ turned offset s (reads_in s (ram_byte i) j) more (has_word ws w j) ∙ ap (λ b. b || more) (sym (beside s i j))
    reads waiting_bytes j = p.reads waiting_bytes j
    reads (pending_level l) j = p.reads (pending_level l) j

    writes : (c : Cell) (j : ℕ) → writes_in (with_run t run) c j ≡ (writes_in (with_run s run) c j || (j == offset && is_told_written ts c))
    writes (ram_byte i) j = p.writes (ram_byte i) j
    writes waiting_bytes j = p.writes waiting_bytes j
    writes (pending_level l) j = p.writes (pending_level l) j
