-- What the notes of an interval have gained once a step has ended.
use Rattle.std.proofs.Common.{◌≡◌, ℕ, ◌-◌, take, length, arith, List, [], ◌∷◌, ◌++◌, ◌==◌, Bool, true, false, ◌||◌, ◌&&◌, Option, Some, None, if◌then◌else◌, refl, sym, ◌∙◌, ap, subst}
use Rattle.std.proofs.lemmas.Bool.{eqb-false, true≢false}
use Rattle.std.proofs.lemmas.List.{append_assoc, append-nil, length-append}
use Rattle.std.proofs.Math.Seq.{take-append_seam}
use Rattle.std.specs.List.{list_any}
use Rattle.sv8_model.specs.declared.touch.Touch.{Touch}
use Rattle.sv8_model.specs.declared.touch.Touch.TheVariants.{Read, Write, Input, Levels, Expiry}
use Rattle.sv8_model.specs.Outside.{word_address}
use Rattle.sv8_model.specs.Levels.{timer_level}
use Rattle.sv8_model.specs.Footprint.{behind_fetch, data_touches, is_touch_of}
use Rattle.sv8_model.specs.Cells.{Cell, ram_byte, waiting_bytes, pending_level, is_read}
use Rattle.sv8_touches.specs.Told.{told}
use Rattle.sv8_notes.specs.declared.notes.WordNote.{WordNote}
use Rattle.sv8_notes.specs.Touched.{is_told_written}
use Rattle.sv8_notes.specs.Steps.{Steps, Gains, IsAllData, are_of}
use Rattle.sv8_notes.specs.Laws.{EndedStepsAreTold}
use Rattle.sv8_notes.specs.Recording.{HasAsked, HasEnded, Recording, Shape, asked_first, begun, fetched, is_short, loaded, nothing, rare, stored, with_rare, with_touch, with_touches, without_last, without_stored, word_at}
use Rattle.sv8_notes.proofs.Gaining.{gains_load, gains_nothing, gains_read, gains_store, gains_then}
use Rattle.sv8_notes.proofs.Told.{gains_all, gains_levels_first, gains_twice, told_fetch, told_load, told_nothing, told_store}

-- a step so far
abbrev under_way : Steps → ℕ → Option ℕ → Shape → Recording
under_way notes offset asked shape = record { notes = notes; offset = offset; asked = asked; shape = shape }

-- how it ends
abbrev Ends : Recording → Steps → Type 0
Ends r new = HasEnded r.shape r.asked r.offset r.notes new

-- ---- rare steps

module _ (notes : Steps) (offset : ℕ) where
  rare_once : (us : List Touch) (t : Touch) → with_touch (under_way notes offset None (rare us)) t ≡ under_way notes offset None (rare (us ++ t ∷ []))
  rare_once us (Read a) = refl
  rare_once us (Write a) = refl
  rare_once us (Levels w) = refl
  rare_once us Input = refl
  rare_once us Expiry = refl

  -- a rare step stays one
  rare_stays : (us ts : List Touch) → with_touches (under_way notes offset None (rare us)) ts ≡ under_way notes offset None (rare (us ++ ts))
  rare_stays us [] = ap (λ l. under_way notes offset None (rare l)) (sym (append-nil us))
  rare_stays us (t ∷ ts) =
      ap (λ r. with_touches r ts) (rare_once us t) ∙ rare_stays (us ++ t ∷ []) ts ∙ ap (λ l. under_way notes offset None (rare l)) (append_assoc us (t ∷ []) ts)

  loaded_once : (q : Option ℕ) (f a : ℕ) (t : Touch) → with_touch (under_way notes offset q (loaded f a)) t ≡ with_rare (under_way notes offset q (loaded f a)) t
  loaded_once q f a (Read b) = refl
  loaded_once q f a (Write b) = refl
  loaded_once q f a (Levels w) = refl
  loaded_once q f a Input = refl
  loaded_once q f a Expiry = refl

  stored_once : (q : Option ℕ) (f a : ℕ) (t : Touch) → with_touch (under_way notes offset q (stored f a)) t ≡ with_rare (under_way notes offset q (stored f a)) t
  stored_once q f a (Read b) = refl
  stored_once q f a (Write b) = refl
  stored_once q f a (Levels w) = refl
  stored_once q f a Input = refl
  stored_once q f a Expiry = refl

-- the note that was taken last, taken back
taken_back : (notes : List WordNote) (note : WordNote) → without_last (notes ++ note ∷ []) ≡ notes
taken_back notes note =
    let count : length (notes ++ note ∷ []) - 1 ≡ length notes = omega (arith, length-append notes (note ∷ [])) in
    ap (λ n. take n (notes ++ note ∷ [])) count ∙ take-append_seam notes (note ∷ [])

-- ---- what is noted of a rare step before it is known to be one

again : (x r : Bool) → ((x || false) || (x || r)) ≡ (x || r)
again true r = refl
again false r = refl

both_again : (x y r : Bool) → ((x || (y || false)) || (x || (y || r))) ≡ (x || (y || r))
both_again true y r = refl
both_again false true r = refl
both_again false false r = refl

second_again : (x y r : Bool) → ((y || false) || (x || (y || r))) ≡ (x || (y || r))
second_again true true r = refl
second_again true false r = refl
second_again false true r = refl
second_again false false r = refl

never : (b r : Bool) → ((b && false) || r) ≡ r
never true r = refl
never false r = refl

-- a read is no write
unwritten : (f : ℕ) (c : Cell) (b : Bool) → (is_told_written (Read f ∷ []) c || b) ≡ b
unwritten f (ram_byte i) b = refl
unwritten f waiting_bytes b = refl
unwritten f (pending_level l) b = never (l == timer_level) b

both_unwritten : (f a : ℕ) (c : Cell) (b : Bool) → (is_told_written (Read f ∷ Read a ∷ []) c || b) ≡ b
both_unwritten f a (ram_byte i) b = refl
both_unwritten f a waiting_bytes b = refl
both_unwritten f a (pending_level l) b = never (l == timer_level) b

-- behind the levels that were asked first, if any were
module _ (asked : Option ℕ) where
  read_again : (f : ℕ) (ts : List Touch) (c : Cell) → (is_read (Read f ∷ []) c || is_read (asked_first asked ++ Read f ∷ ts) c) ≡ is_read (asked_first asked ++ Read f ∷ ts) c
  read_again f ts c = of asked c
    where
      of : (q : Option ℕ) (c : Cell) → (is_read (Read f ∷ []) c || is_read (asked_first q ++ Read f ∷ ts) c) ≡ is_read (asked_first q ++ Read f ∷ ts) c
      of None (ram_byte i) = again (f == word_address i) _
      of None waiting_bytes = refl
      of None (pending_level l) = refl
      of (Some w) (ram_byte i) = again (f == word_address i) _
      of (Some w) waiting_bytes = refl
      of (Some w) (pending_level l) = refl

  both_read_again : (f a : ℕ) (ts : List Touch) (c : Cell)
      → (is_read (Read f ∷ Read a ∷ []) c || is_read (asked_first asked ++ Read f ∷ Read a ∷ ts) c) ≡ is_read (asked_first asked ++ Read f ∷ Read a ∷ ts) c
  both_read_again f a ts c = of asked c
    where
      of : (q : Option ℕ) (c : Cell) → (is_read (Read f ∷ Read a ∷ []) c || is_read (asked_first q ++ Read f ∷ Read a ∷ ts) c) ≡ is_read (asked_first q ++ Read f ∷ Read a ∷ ts) c
      of None (ram_byte i) = both_again (f == word_address i) (a == word_address i) _
      of None waiting_bytes = refl
      of None (pending_level l) = refl
      of (Some w) (ram_byte i) = both_again (f == word_address i) (a == word_address i) _
      of (Some w) waiting_bytes = refl
      of (Some w) (pending_level l) = refl

-- ---- the end of a step

-- nothing is data of what was fetched alone, and one word of what was loaded is
no_data_again : (ts : List Touch) (c : Cell) → (are_of [] c || are_of ts c) ≡ are_of ts c
no_data_again ts (ram_byte i) = refl
no_data_again ts waiting_bytes = refl
no_data_again ts (pending_level l) = refl

data_again : (asked : Option ℕ) (f a : ℕ) (ts : List Touch) (c : Cell) → (are_of (Read a ∷ []) c || are_of (asked_first asked ++ Read f ∷ Read a ∷ ts) c) ≡ are_of (asked_first asked ++ Read f ∷ Read a ∷ ts) c
data_again None f a ts (ram_byte i) = second_again (f == word_address i || false) (a == word_address i || false) _
data_again (Some w) f a ts (ram_byte i) = second_again (f == word_address i || false) (a == word_address i || false) _
data_again None f a ts waiting_bytes = refl
data_again (Some w) f a ts waiting_bytes = refl
data_again None f a ts (pending_level l) = refl
data_again (Some w) f a ts (pending_level l) = refl

-- all that a step touches is its data, where no word of it was fetched
all_data : (asked : Option ℕ) (us : List Touch) → behind_fetch us ≡ us → data_touches us ≡ behind_fetch us → IsAllData (asked_first asked ++ us)
all_data None us rare_one first = λ address. ap (list_any (is_touch_of address)) (first ∙ rare_one)
all_data (Some w) us rare_one first = λ address. ap (list_any (is_touch_of address)) rare_one

data_behind : (asked : Option ℕ) (us : List Touch) → data_touches us ≡ behind_fetch us → data_touches (asked_first asked ++ us) ≡ behind_fetch us
data_behind None us first = first
data_behind (Some w) us first = refl

list_is : (asked : Option ℕ) (us : List Touch) (t : Touch) (rest : List Touch) → ((asked_first asked ++ us) ++ t ∷ []) ++ rest ≡ asked_first asked ++ (us ++ t ∷ rest)
list_is None us t rest = append_assoc us (t ∷ []) rest
list_is (Some w) us t rest = ap (λ l. Levels w ∷ l) (append_assoc us (t ∷ []) rest)

same_word : (f a : ℕ) (rest : List Touch) → (f == a) ≡ true → behind_fetch (Read f ∷ Write a ∷ rest) ≡ Read f ∷ Write a ∷ rest
same_word f a [] e = ap (λ b. if b then (Read f ∷ Write a ∷ []) else (Write a ∷ [])) e
same_word f a (t ∷ rest) e = refl

module _ (base new : Steps) (offset : ℕ) (asked : Option ℕ) where
  abbrev Gained : List Touch → Type 0
  Gained us = Gains offset (told (asked_first asked ++ us)) (data_touches (asked_first asked ++ us)) base new

  -- the notes with the word that was fetched, and with that of the second access
  abbrev with_fetch : ℕ → Steps
  with_fetch f = record base { fetches = base.fetches ++ word_at f offset }

  abbrev with_load : ℕ → ℕ → Steps
  with_load f a = record (with_fetch f) { reads = base.reads ++ word_at a offset }

  abbrev with_store : ℕ → ℕ → Steps
  with_store f a = record (with_fetch f) { writes = base.writes ++ word_at a offset }

  -- a frequent step: the levels are noted last
  asked_last : (us ds : List Touch) (s : Steps) → data_touches us ≡ behind_fetch us → behind_fetch us ≡ ds → Gains offset (told us) ds base s → HasAsked asked offset s new → Gained us
  asked_last us ds s first is p h =
      subst (λ d. Gains offset (told (asked_first asked ++ us)) d base new) (sym (data_behind asked us first ∙ is)) (of asked h)
    where
      of : (q : Option ℕ) → HasAsked q offset s new → Gains offset (told (asked_first q ++ us)) ds base new
      of None same = subst (λ n. Gains offset (told us) ds base n) (sym same) p
      of (Some w) gained = gains_levels_first w us offset ds base s new p gained

  -- a rare one: what is told of the list
  listed : (notes : Steps) (front rest all : List Touch) → front ++ rest ≡ all → Ends (with_touches (under_way notes offset None (rare front)) rest) new → Gains offset (told all) (told all) notes new
  listed notes front rest all is h =
      subst (λ ts. Gains offset (told ts) (told ts) notes new) is (subst (λ r. Ends r new) (rare_stays notes offset front rest) h)

  rare_first : (t : Touch) (rest : List Touch) → with_touch (under_way base offset asked nothing) t ≡ with_rare (under_way base offset asked nothing) t
      → IsAllData (asked_first asked ++ t ∷ rest) → Ends (with_touches (under_way base offset asked nothing) (t ∷ rest)) new → Gained (t ∷ rest)
  rare_first t rest is all h =
      let ts = asked_first asked ++ t ∷ rest in
      gains_all offset ts (data_touches ts) base new all
      (listed base (asked_first asked ++ t ∷ []) rest ts (append_assoc (asked_first asked) (t ∷ []) rest) (subst (λ r. Ends (with_touches r rest) new) is h))

  rare_fetched : (f : ℕ) (t : Touch) (rest : List Touch) → with_touch (under_way (with_fetch f) offset asked (fetched f)) t ≡ with_rare (under_way (with_fetch f) offset asked (fetched f)) t
      → behind_fetch (Read f ∷ t ∷ rest) ≡ Read f ∷ t ∷ rest → Ends (with_touches (under_way (with_fetch f) offset asked (fetched f)) (t ∷ rest)) new → Gained (Read f ∷ t ∷ rest)
  rare_fetched f t rest is rare_one h =
      let us = Read f ∷ t ∷ rest in
      let ts = asked_first asked ++ us in
      gains_all offset ts (data_touches ts) base new (all_data asked us rare_one refl)
      (gains_twice offset ts (Read f ∷ []) [] base (with_fetch f) new (read_again asked f (t ∷ rest)) (unwritten f) (no_data_again ts) (gains_read offset base f)
      (listed (with_fetch f) ((asked_first asked ++ Read f ∷ []) ++ t ∷ []) rest ts (list_is asked (Read f ∷ []) t rest) (subst (λ r. Ends (with_touches r rest) new) is h)))

  load_gains : (f a : ℕ) → Gains offset (Read f ∷ Read a ∷ []) (Read a ∷ []) base (with_load f a)
  load_gains f a = gains_then offset (Read f ∷ []) (Read a ∷ []) [] (Read a ∷ []) base (with_fetch f) (with_load f a) (gains_read offset base f) (gains_load offset (with_fetch f) a)

  store_gains : (f a : ℕ) → Gains offset (Read f ∷ Write a ∷ []) (Write a ∷ []) base (with_store f a)
  store_gains f a = gains_then offset (Read f ∷ []) (Write a ∷ []) [] (Write a ∷ []) base (with_fetch f) (with_store f a) (gains_read offset base f) (gains_store offset (with_fetch f) a)

  loaded_ends : (f a : ℕ) (rest : List Touch) → Ends (with_touches (under_way (with_load f a) offset asked (loaded f a)) rest) new → Gained (Read f ∷ Read a ∷ rest)
  loaded_ends f a [] h =
      asked_last (Read f ∷ Read a ∷ []) (Read a ∷ []) (with_load f a) refl refl (subst (λ ts. Gains offset ts (Read a ∷ []) base (with_load f a)) (sym (told_load f a)) (load_gains f a)) h
  loaded_ends f a (t ∷ rest) h =
      let us = Read f ∷ Read a ∷ t ∷ rest in
      let ts = asked_first asked ++ us in
      gains_all offset ts (data_touches ts) base new (all_data asked us refl refl)
      (gains_twice offset ts (Read f ∷ Read a ∷ []) (Read a ∷ []) base (with_load f a) new (both_read_again asked f a (t ∷ rest)) (both_unwritten f a) (data_again asked f a (t ∷ rest)) (load_gains f a)
      (listed (with_load f a) ((asked_first asked ++ Read f ∷ Read a ∷ []) ++ t ∷ []) rest ts (list_is asked (Read f ∷ Read a ∷ []) t rest)
      (subst (λ r. Ends (with_touches r rest) new) (loaded_once (with_load f a) offset asked f a t) h)))

  stored_ends : (f a : ℕ) (rest : List Touch) → (f == a) ≡ false → Ends (with_touches (under_way (with_store f a) offset asked (stored f a)) rest) new → Gained (Read f ∷ Write a ∷ rest)
  stored_ends f a [] apart h =
      asked_last (Read f ∷ Write a ∷ []) (Write a ∷ []) (with_store f a) refl (ap (λ b. if b then (Read f ∷ Write a ∷ []) else (Write a ∷ [])) apart)
      (subst (λ ts. Gains offset ts (Write a ∷ []) base (with_store f a)) (sym (told_store f a (eqb-false f a apart))) (store_gains f a)) h
  stored_ends f a (t ∷ rest) apart h =
      let us = Read f ∷ Write a ∷ t ∷ rest in
      let ts = asked_first asked ++ us in
      let front = (asked_first asked ++ Read f ∷ Write a ∷ []) ++ t ∷ [] in
      let back : without_stored (stored f a) (with_store f a) ≡ with_fetch f = ap (λ ws. record (with_fetch f) { writes = ws }) (taken_back base.writes (record { address = a; offset = offset })) in
      let once = stored_once (with_store f a) offset asked f a t ∙ ap (λ n. under_way n offset None (rare front)) back in
      gains_all offset ts (data_touches ts) base new (all_data asked us refl refl)
      (gains_twice offset ts (Read f ∷ []) [] base (with_fetch f) new (read_again asked f (Write a ∷ t ∷ rest)) (unwritten f) (no_data_again ts) (gains_read offset base f)
      (listed (with_fetch f) front rest ts (list_is asked (Read f ∷ Write a ∷ []) t rest) (subst (λ r. Ends (with_touches r rest) new) once h)))

  fetched_ends : (f : ℕ) (rest : List Touch) → Ends (with_touches (under_way (with_fetch f) offset asked (fetched f)) rest) new → Gained (Read f ∷ rest)
  fetched_ends f [] h = asked_last (Read f ∷ []) [] (with_fetch f) refl refl (subst (λ ts. Gains offset ts [] base (with_fetch f)) (sym (told_fetch f)) (gains_read offset base f)) h
  fetched_ends f (Read a ∷ rest) h = loaded_ends f a rest h
  fetched_ends f (Write a ∷ rest) h = either (f == a) refl h
    where
      either : (b : Bool) → (f == a) ≡ b
          → Ends (with_touches (if f == a then with_rare (under_way (with_fetch f) offset asked (fetched f)) (Write a) else under_way (with_store f a) offset asked (stored f a)) rest) new
          → Gained (Read f ∷ Write a ∷ rest)
      either true same g =
          rare_fetched f (Write a) rest
          (ap (λ b. if b then with_rare (under_way (with_fetch f) offset asked (fetched f)) (Write a) else under_way (with_store f a) offset asked (stored f a)) same)
          (same_word f a rest same) g
      either false apart g =
          stored_ends f a rest apart
          (subst (λ b. Ends (with_touches (if b then with_rare (under_way (with_fetch f) offset asked (fetched f)) (Write a) else under_way (with_store f a) offset asked (stored f a)) rest) new) apart g)
  fetched_ends f (Levels w ∷ rest) h = rare_fetched f (Levels w) rest refl refl h
  fetched_ends f (Input ∷ rest) h = rare_fetched f Input rest refl refl h
  fetched_ends f (Expiry ∷ rest) h = rare_fetched f Expiry rest refl refl h

gains_by : (base new : Steps) (offset : ℕ) (ts : List Touch) → Ends (with_touches (begun base offset) ts) new → Gains offset (told ts) (data_touches ts) base new
gains_by base new offset [] h = asked_last base new offset None [] [] base refl refl (subst (λ ts. Gains offset ts [] base base) (sym told_nothing) (gains_nothing offset base)) h
gains_by base new offset (Read f ∷ rest) h = fetched_ends base new offset None f rest h
gains_by base new offset (Write a ∷ rest) h = rare_first base new offset None (Write a) rest refl (λ address. refl) h
gains_by base new offset (Input ∷ rest) h = rare_first base new offset None Input rest refl (λ address. refl) h
gains_by base new offset (Expiry ∷ rest) h = rare_first base new offset None Expiry rest refl (λ address. refl) h
gains_by base new offset (Levels w ∷ []) h = asked_last base new offset (Some w) [] [] base refl refl (subst (λ ts. Gains offset ts [] base base) (sym told_nothing) (gains_nothing offset base)) h
gains_by base new offset (Levels w ∷ Read f ∷ rest) h = fetched_ends base new offset (Some w) f rest h
gains_by base new offset (Levels w ∷ Write a ∷ rest) h = rare_first base new offset (Some w) (Write a) rest refl (λ address. refl) h
gains_by base new offset (Levels w ∷ Levels v ∷ rest) h = rare_first base new offset (Some w) (Levels v) rest refl (λ address. refl) h
gains_by base new offset (Levels w ∷ Input ∷ rest) h = rare_first base new offset (Some w) Input rest refl (λ address. refl) h
gains_by base new offset (Levels w ∷ Expiry ∷ rest) h = rare_first base new offset (Some w) Expiry rest refl (λ address. refl) h

-- a word that is fetched, and two touches more
three_or_more : (a b c : Touch) (rest : List Touch) → behind_fetch (a ∷ b ∷ c ∷ rest) ≡ a ∷ b ∷ c ∷ rest
three_or_more (Read f) (Read x) c rest = refl
three_or_more (Read f) (Write x) c rest = refl
three_or_more (Read f) (Levels w) c rest = refl
three_or_more (Read f) Input c rest = refl
three_or_more (Read f) Expiry c rest = refl
three_or_more (Write x) b c rest = refl
three_or_more (Levels w) b c rest = refl
three_or_more Input b c rest = refl
three_or_more Expiry b c rest = refl

-- all is data of a step that is not short
long_is_data : (ts : List Touch) → is_short ts ≡ false → IsAllData ts
long_is_data [] long = absurd (true≢false long)
long_is_data (a ∷ []) long = absurd (true≢false long)
long_is_data (a ∷ b ∷ []) long = absurd (true≢false long)
long_is_data (Levels w ∷ b ∷ c ∷ []) long = absurd (true≢false long)
long_is_data (Read f ∷ b ∷ c ∷ []) long = λ address. ap (list_any (is_touch_of address)) (three_or_more (Read f) b c [])
long_is_data (Write x ∷ b ∷ c ∷ []) long = λ address. refl
long_is_data (Input ∷ b ∷ c ∷ []) long = λ address. refl
long_is_data (Expiry ∷ b ∷ c ∷ []) long = λ address. refl
long_is_data (Levels w ∷ b ∷ c ∷ d ∷ rest) long = λ address. ap (list_any (is_touch_of address)) (three_or_more b c d rest)
long_is_data (Read f ∷ b ∷ c ∷ d ∷ rest) long = λ address. ap (list_any (is_touch_of address)) (three_or_more (Read f) b c (d ∷ rest))
long_is_data (Write x ∷ b ∷ c ∷ d ∷ rest) long = λ address. refl
long_is_data (Input ∷ b ∷ c ∷ d ∷ rest) long = λ address. refl
long_is_data (Expiry ∷ b ∷ c ∷ d ∷ rest) long = λ address. refl

pub long_gains : (base new : Steps) (offset : ℕ) (ts : List Touch) → is_short ts ≡ false → Gains offset (told ts) (told ts) base new → Gains offset (told ts) (data_touches ts) base new
long_gains base new offset ts long p = gains_all offset ts (data_touches ts) base new (long_is_data ts long) p

-- THE NOTES OF AN INTERVAL GAIN, by a step that has ended, what is told of all that it touched.
pub ended_gains : EndedStepsAreTold
ended_gains base new offset ts r is h = gains_by base new offset ts (subst (λ x. Ends x new) is h)
