-- Checkpoints in which pages and levels were changed since they were taken.
use Rattle.std.proofs.Common.{◌≡◌, ℕ, zero, suc, ◌+◌, ◌/◌, ◌%◌, ◌<◌, ◌≤◌, List, [], ◌∷◌, ◌++◌, length, map, take, drop, ◌-◌, min, get_or, replicate, Bool, false, Option, Some, None, unwrap_or, option_map, MatchOption, refl, sym, ◌∙◌, ap, ap₂, subst, arith, inl, inr, ◌⊎◌, set}
use Rattle.std.specs.Bool.{⊤}
use Rattle.std.specs.List.{AllZip, slice_get}
use Rattle.std.specs.declared.rc.Rc.{Rc}
use Rattle.std.specs.declared.alloc.Global.{Global}
use Rattle.std.proofs.Math.ListN.{get_or-map as map_at}
use Rattle.std.proofs.lemmas.List.{get_or-take, length-map, length-take, length-replicate, map-append, take-map, take_all, get_or-map}
use Rattle.std.proofs.lemmas.List.Elements.{All-take}
use Rattle.std.proofs.lemmas.Option.{slice_get_cases}
use Rattle.sv8_phys.specs.Memory.{page_of, with_page}
use Rattle.sv8_phys.specs.Contents.{AreContents}
use Rattle.sv8_notes.proofs.Common.{longer}
use Rattle.sv8_cpu.specs.State.{State}
use Rattle.sv8_trace.specs.declared.checkpoint.Checkpoint.{Checkpoint}
use Rattle.sv8_trace.specs.Checkpoints.{IsCheckpoint}
use Rattle.sv8_trace.specs.Recording.{blank}
use Rattle.sv8_trace.specs.Columns.{AllThere, AreFull, AreIdleFrom, AreColumns, IsWhole, item, put_from, pages_from, levels_from, overlaid, cut_column, put_over, ArePut}
use Rattle.sv8_trace.specs.Placing.{AreSound, IsSound}
use Rattle.sv8_trace.specs.Overlaid.{taken, all_overlaid, AreOverlaid}
use Rattle.sv8_trace.proofs.Growing.{sound_more}
use Rattle.sv8_trace.proofs.Placed.{Pages, Levels, ram_places, level_places, any_levels, there_weaker, none_there, item_at, whole_items, put_again, idle, page_places, level_count, ram_long, levels_long, byte_at, level_at, page_at}

pub length-overlaid : (ps : Pages) (ls : Levels) (s : ℕ) (ms : List State) → length (all_overlaid ps ls s ms) ≡ length ms
length-overlaid ps ls s [] = refl
length-overlaid ps ls s (m ∷ ms) = ap suc (length-overlaid ps ls (suc s) ms)

get_from : (ps : Pages) (ls : Levels) (s : ℕ) (ms : List State) (i j : ℕ) → j < length ms → i ≡ s + j → get_or (all_overlaid ps ls s ms) j blank ≡ overlaid ps ls i (get_or ms j blank)
get_from ps ls s [] i j h e = absurd (omega (arith, h))
get_from ps ls s (m ∷ ms) i zero h e = let w : s ≡ i = omega (arith, e) in ap (λ x. overlaid ps ls x m) w
get_from ps ls s (m ∷ ms) i (suc j) h e = get_from ps ls (suc s) ms i j (omega (arith, h)) (omega (arith, e))

pub get-overlaid : (ps : Pages) (ls : Levels) (ms : List State) (i : ℕ) → i < length ms → get_or (all_overlaid ps ls 0 ms) i blank ≡ overlaid ps ls i (get_or ms i blank)
get-overlaid ps ls ms i h = get_from ps ls 0 ms i i h (omega arith)

append_from : (ps : Pages) (ls : Levels) (s : ℕ) (ms : List State) (m : State) (i : ℕ) → i ≡ s + length ms → all_overlaid ps ls s (ms ++ m ∷ []) ≡ all_overlaid ps ls s ms ++ overlaid ps ls i m ∷ []
append_from ps ls s [] m i e = let w : s ≡ i = omega (arith, e) in ap (λ x. overlaid ps ls x m ∷ []) w
append_from ps ls s (x ∷ ms) m i e = ap (λ l. overlaid ps ls s x ∷ l) (append_from ps ls (suc s) ms m i (omega (arith, e)))

pub pushed : (pages : ℕ) (ps : Pages) (ls : Levels) (ms more : List State) (m : State) → AreOverlaid pages ps ls ms → more ≡ ms ++ m ∷ [] → all_overlaid ps ls 0 more ≡ all_overlaid ps ls 0 ms ++ m ∷ []
pushed pages ps ls ms more m fits is =
    ap (all_overlaid ps ls 0) is ∙ append_from ps ls 0 ms m (length ms) (omega arith) ∙ ap (λ s. all_overlaid ps ls 0 ms ++ s ∷ []) (idle ps ls (length ms) (length ms) m fits.some_pages fits.some_levels (omega arith))

-- ---- fewer checkpoints

slice_take : {X : Type 0} (n i : ℕ) (c : List X) → i < n → slice_get (take n c) i ≡ slice_get c i
slice_take zero i c h = absurd (omega (arith, h))
slice_take (suc n) i [] h = refl
slice_take (suc n) zero (x ∷ c) h = refl
slice_take (suc n) (suc i) (x ∷ c) h = slice_take n i c (omega (arith, h))

items_cut : {X : Type 0} (n i : ℕ) (cs : List (Option (List X))) → i < n → map (item i) (map (cut_column n) cs) ≡ map (item i) cs
items_cut n i [] h = refl
items_cut n i (None ∷ cs) h = ap (λ os. None ∷ os) (items_cut n i cs h)
items_cut n i (Some c ∷ cs) h = ap₂ (λ o os. o ∷ os) (slice_take n i c h) (items_cut n i cs h)

cut_overlaid : (n i : ℕ) (ps : Pages) (ls : Levels) (s : State) → i < n → overlaid (map (cut_column n) ps) (map (cut_column n) ls) i s ≡ overlaid ps ls i s
cut_overlaid n i ps ls s h =
    ap₂ (λ xs ys. record s { memory = record s.memory { ram = put_from with_page 0 xs s.memory.ram; pending = put_from set 0 ys s.memory.pending } })
    (items_cut n i ps h) (items_cut n i ls h)

cut_from : (n s k : ℕ) (ps : Pages) (ls : Levels) (ms : List State) → s + k ≤ n → all_overlaid (map (cut_column n) ps) (map (cut_column n) ls) s (take k ms) ≡ take k (all_overlaid ps ls s ms)
cut_from n s zero ps ls ms h = refl
cut_from n s (suc k) ps ls [] h = refl
cut_from n s (suc k) ps ls (m ∷ ms) h = ap₂ (λ x l. x ∷ l) (cut_overlaid n s ps ls m (omega (arith, h))) (cut_from n (suc s) k ps ls ms (omega (arith, h)))

pub truncated : (n : ℕ) (ps ps' : Pages) (ls ls' : Levels) (ms ms' : List State) → ps' ≡ map (cut_column n) ps → ls' ≡ map (cut_column n) ls → ms' ≡ take n ms
    → all_overlaid ps' ls' 0 ms' ≡ take n (all_overlaid ps ls 0 ms)
truncated n ps ps' ls ls' ms ms' p l m = rw (p, l, m) (cut_from n 0 n ps ls ms (omega arith))

-- ---- the whole list is sound

pub sound_overlaid : (pages : ℕ) (ps : Pages) (ls : Levels) (ms : List State) → AreOverlaid pages ps ls ms → AreSound pages (all_overlaid ps ls 0 ms)
sound_overlaid pages ps ls ms fits i h =
    let l : i < length ms = omega (arith, h, length-overlaid ps ls 0 ms) in
    let s = get_or ms i blank in
    rw (get-overlaid ps ls ms i l) (record { size = ram_long pages ps ls fits.columns i s (fits.sound i l); count = levels_long pages ps ls fits.columns i s (fits.sound i l) })

-- ---- other columns are laid over

there_put : {X : Type 0} (P : X → Type 0) (new old now : List (Option X)) → AllThere P new → AllThere P old → ArePut new old now → AllThere P now
there_put {X = X} P new old now n o put q = rw (put q) (go (get_or new q None) (get_or old q None) (n q) (o q))
  where
    go : (x y : Option X) → MatchOption x ⊤ P → MatchOption y ⊤ P → MatchOption (put_over x y) ⊤ P
    go None y w v = v
    go (Some c) y w v = w

put_short : {X : Type 0} (count : ℕ) (new old now : List (Option (List X))) → AreFull count new → AreIdleFrom count old → ArePut new old now → AreIdleFrom count now
put_short count new old now full short put = there_put _ new old now (there_weaker _ _ (λ c h. omega (arith, h)) new full) short put

items_put : {X : Type 0} (count i : ℕ) (new old now : List (Option (List X))) → i < count → AreFull count new → ArePut new old now → ArePut (map (item i) new) (map (item i) old) (map (item i) now)
items_put {X = X} count i new old now h full put q =
    item_at i now q ∙ ap (item i) (put q) ∙ go (get_or new q None) (get_or old q None) (full q) ∙ sym (ap₂ put_over (item_at i new q) (item_at i old q))
  where
    go : (x y : Option (List X)) → MatchOption x ⊤ (λ c. length c ≡ count) → item i (put_over x y) ≡ put_over (item i x) (item i y)
    go None y w = refl
    go (Some c) y w = at (slice_get_cases c i).1
      where
        at : ((x : X) × (i < length c) × (slice_get c i ≡ Some x) × (get_or c i x ≡ x)) ⊎ ((length c ≤ i) × (slice_get c i ≡ None)) → slice_get c i ≡ put_over (slice_get c i) (item i y)
        at (inl z) = rw z.2 refl
        at (inr z) = absurd (omega (arith, z.0, w, h))

module _ (pages : ℕ) (ps new ps' : Pages) (ls lnew ls' : Levels) (ms : List State) (fits : AreOverlaid pages ps ls ms) (columns : AreColumns pages new lnew)
    (now_count : length ps' ≡ length ps) (levels_count : length ls' ≡ length ls) (full_pages : AreFull (length ms) new) (full_levels : AreFull (length ms) lnew)
    (put : ArePut new ps ps') (put_levels : ArePut lnew ls ls') where
  pub laid_fits : AreOverlaid pages ps' ls' ms
  laid_fits = record {
    columns = record {
      pages_count = now_count ∙ fits.columns.pages_count;
      levels_count = levels_count ∙ fits.columns.levels_count;
      no_level = put_levels 0 ∙ rw (columns.no_level, fits.columns.no_level) refl;
      whole_pages = there_put _ new ps ps' columns.whole_pages fits.columns.whole_pages put;
    };
    some_pages = put_short (length ms) new ps ps' full_pages fits.some_pages put;
    some_levels = put_short (length ms) lnew ls ls' full_levels fits.some_levels put_levels;
    sound = fits.sound;
  }

  lay : (i : ℕ) → i < length ms → (s : State) → IsSound pages s.memory → overlaid ps' ls' i s ≡ overlaid new lnew i (overlaid ps ls i s)
  lay i h s sound =
      ap₂ (λ ram levels. record s { memory = record s.memory { ram = ram; pending = levels } })
      (put_again (ram_places pages) (map (item i) ps) (map (item i) new) (map (item i) ps') s.memory.ram sound.size
      (page_places pages ps ls fits.columns i s sound) (page_places pages new lnew columns i s sound) (page_places pages ps' ls' laid_fits.columns i s sound)
      (whole_items i ps fits.columns.whole_pages) (whole_items i new columns.whole_pages) (whole_items i ps' laid_fits.columns.whole_pages) (items_put (length ms) i new ps ps' h full_pages put))
      (put_again level_places (map (item i) ls) (map (item i) lnew) (map (item i) ls') s.memory.pending sound.count
      (level_count pages ps ls fits.columns i s sound) (level_count pages new lnew columns i s sound) (level_count pages ps' ls' laid_fits.columns i s sound)
      (any_levels _) (any_levels _) (any_levels _) (items_put (length ms) i lnew ls ls' h full_levels put_levels))

  pub laid : (i : ℕ) → i < length (all_overlaid ps ls 0 ms) → get_or (all_overlaid ps' ls' 0 ms) i blank ≡ overlaid new lnew i (get_or (all_overlaid ps ls 0 ms) i blank)
  laid i l =
      let h : i < length ms = omega (arith, l, length-overlaid ps ls 0 ms) in
      get-overlaid ps' ls' ms i h ∙ lay i h (get_or ms i blank) (fits.sound i h) ∙ ap (overlaid new lnew i) (sym (get-overlaid ps ls ms i h))

-- ---- machines that were taken

pub taken_at : (ms : List (Rc State Global)) (i : ℕ) (m : Rc State Global) → i < length ms → m ≡ get_or ms i m → m.value ≡ get_or (taken ms) i blank
taken_at ms i m h is = ap (λ (x : Rc State Global). x.value) is ∙ sym (get_or-map (λ (x : Rc State Global). x.value) ms i m blank h)

pub taken_long : (ms : List (Rc State Global)) → length (taken ms) ≡ length ms
taken_long ms = length-map ms (λ (x : Rc State Global). x.value)

pub taken_more : (ms more : List (Rc State Global)) (m : Rc State Global) → more ≡ ms ++ m ∷ [] → taken more ≡ taken ms ++ m.value ∷ []
taken_more ms more m is = ap taken is ∙ map-append (λ (x : Rc State Global). x.value) ms (m ∷ [])

pub taken_less : (ms less : List (Rc State Global)) (n : ℕ) → less ≡ take n ms → taken less ≡ take n (taken ms)
taken_less ms less n is = ap taken is ∙ sym (take-map (λ (x : Rc State Global). x.value) n ms)

pub sound_of : (pages : ℕ) (s m : State) → m ≡ s → AreContents pages s.memory → IsSound pages m.memory
sound_of pages s m is contents = rw is (record { size = contents.size; count = contents.levels.count })

-- handles that are shared
pub taken_shared : (ms ns : List (Rc State Global)) → AllZip (λ (m : Rc State Global) (n : Rc State Global). n.value ≡ m.value) ms ns → taken ns ≡ taken ms
taken_shared [] [] e = refl
taken_shared [] (n ∷ ns) e = absurd e
taken_shared (m ∷ ms) [] e = absurd e
taken_shared (m ∷ ms) (n ∷ ns) e = ap₂ (λ x l. x ∷ l) e.0 (taken_shared ms ns e.1)

-- the machine of a checkpoint
pub there : (ps : Pages) (ls : Levels) (ms : List (Rc State Global)) (points : List State) (i : ℕ) → all_overlaid ps ls 0 (taken ms) ≡ points → i < length points → i < length ms
there ps ls ms points i is h = let n = ap length is in omega (arith, n, length-overlaid ps ls 0 (taken ms), taken_long ms, h)

pub in_taken : (ms : List (Rc State Global)) (i : ℕ) → i < length ms → i < length (taken ms)
in_taken ms i h = omega (arith, h, taken_long ms)

-- no edit of a checkpoint changes what is read of it
pub checkpoint_overlaid : (ps : Pages) (ls : Levels) (ms : List State) (i : ℕ) → i < length ms → (c : Checkpoint) → IsCheckpoint (get_or ms i blank) c
    → IsCheckpoint (get_or (all_overlaid ps ls 0 ms) i blank) c
checkpoint_overlaid ps ls ms i h c of =
    subst (λ (s : State). IsCheckpoint s c) (sym (get-overlaid ps ls ms i h)) (record { running = of.running; taken = of.taken; output = of.output })

-- ---- what is seen of a checkpoint

-- the columns behind the first one
rest_of : {X : Type 0} (x : X) (xs : List X) → take (length (x ∷ xs) - 1) (drop 1 (x ∷ xs)) ≡ xs
rest_of x xs = let n : length (x ∷ xs) - 1 ≡ length xs = omega arith in ap (λ m. take m (drop 1 (x ∷ xs))) n ∙ take_all (length xs) xs (omega arith)

pub all_but_first : {X : Type 0} (xs ys : List X) → xs ≡ ys → take (length xs - 1) (drop 1 xs) ≡ drop 1 ys
all_but_first xs ys is = rw is (of ys)
  where
    of : {X : Type 0} (ys : List X) → take (length ys - 1) (drop 1 ys) ≡ drop 1 ys
    of [] = refl
    of (y ∷ ys) = rest_of y ys

from_one : (ls : Levels) (i : ℕ) (s : State) → length ls ≡ 16 → get_or ls 0 None ≡ None → levels_from 1 (drop 1 ls) i s ≡ levels_from 0 ls i s
from_one [] i s n none = absurd (omega (arith, n))
from_one (o ∷ ls) i s n none = rw none refl

module _ (pages : ℕ) (ps : Pages) (ls : Levels) (ms : List State) (fits : AreOverlaid pages ps ls ms) (i : ℕ) (h : i < length ms) (m : State) (is : m ≡ get_or ms i blank) where
  whole_is : get_or (all_overlaid ps ls 0 ms) i blank ≡ overlaid ps ls i m
  whole_is = get-overlaid ps ls ms i h ∙ ap (overlaid ps ls i) (sym is)

  sound_is : IsSound pages m.memory
  sound_is = subst (λ (s : State). IsSound pages s.memory) (sym is) (fits.sound i h)

  pub snapshot_is : (rest : Levels) (t s s' : State) → rest ≡ drop 1 ls → t ≡ m → s ≡ pages_from 0 ps i t → s' ≡ levels_from 1 rest i s → s' ≡ get_or (all_overlaid ps ls 0 ms) i blank
  snapshot_is rest t s s' r b e f = f ∙ ap₂ (λ x y. levels_from 1 x i y) r (e ∙ ap (pages_from 0 ps i) b) ∙ from_one ls i (pages_from 0 ps i m) fits.columns.levels_count fits.columns.no_level ∙ sym whole_is

  pub byte_is_seen : (a : ℕ) (o : Option (List (List ℕ))) → get_or ps (a / 4096) None ≡ o → unwrap_or (option_map (λ page. get_or page (a % 4096) 0) (item i o)) (get_or m.memory.ram a 0) ≡ get_or (get_or (all_overlaid ps ls 0 ms) i blank).memory.ram a 0
  byte_is_seen a o e = sym (ap (λ (s : State). get_or s.memory.ram a 0) whole_is ∙ byte_at pages ps ls fits.columns i m sound_is a ∙ ap (λ x. unwrap_or (option_map (λ page. get_or page (a % 4096) 0) (item i x)) (get_or m.memory.ram a 0)) e)

  pub page_is_seen : (p : ℕ) → p < pages → (o : Option (List (List ℕ))) → get_or ps p None ≡ o → unwrap_or (item i o) (page_of m.memory.ram p) ≡ page_of (get_or (all_overlaid ps ls 0 ms) i blank).memory.ram p
  page_is_seen p b o e = sym (ap (λ (s : State). page_of s.memory.ram p) whole_is ∙ page_at pages ps ls fits.columns i m sound_is p b ∙ ap (λ x. unwrap_or (item i x) (page_of m.memory.ram p)) e)

  pub level_is_seen : (l : ℕ) (o : Option (List Bool)) → get_or ls l None ≡ o → unwrap_or (item i o) (get_or m.memory.pending l false) ≡ get_or (get_or (all_overlaid ps ls 0 ms) i blank).memory.pending l false
  level_is_seen l o e = sym (ap (λ (s : State). get_or s.memory.pending l false) whole_is ∙ level_at pages ps ls fits.columns i m sound_is l ∙ ap (λ x. unwrap_or (item i x) (get_or m.memory.pending l false)) e)

-- ---- invariants

there_cut : {X : Type 0} (P Q : List X → Type 0) (n : ℕ) → ((c : List X) → P c → Q (take n c)) → (cs : List (Option (List X))) → AllThere P cs → AllThere Q (map (cut_column n) cs)
there_cut {X = X} P Q n f cs h q = rw (map_at (cut_column n) cs q None) (go (get_or cs q None) (h q))
  where
    go : (o : Option (List X)) → MatchOption o ⊤ P → MatchOption (cut_column n o) ⊤ Q
    go None w = tt
    go (Some c) w = f c w

-- where columns are cut
pub cut_idle : {X : Type 0} (from n less : ℕ) (cs cs' : List (Option (List X))) → AreIdleFrom from cs → cs' ≡ map (cut_column n) cs → less ≡ min from n → AreIdleFrom less cs'
cut_idle from n less cs cs' none e f = rw (e, f) (there_cut _ _ n (λ c h. omega (arith, length-take n c, h)) cs none)

pub idle_is : (pages : ℕ) (ps : Pages) (ls : Levels) (ms : List State) (from i : ℕ) (m : State) → AreOverlaid pages ps ls ms → AreIdleFrom from ps → AreIdleFrom from ls → from ≤ i → i < length ms
    → m ≡ get_or ms i blank → m ≡ get_or (all_overlaid ps ls 0 ms) i blank
idle_is pages ps ls ms from i m fits no_page no_level late h is = sym (idle ps ls from i m no_page no_level late) ∙ sym (whole_is pages ps ls ms fits i h m is)

pub pushed_fits : (pages : ℕ) (ps : Pages) (ls : Levels) (ms more : List State) (m : State) → AreOverlaid pages ps ls ms → more ≡ ms ++ m ∷ [] → IsSound pages m.memory → AreOverlaid pages ps ls more
pushed_fits pages ps ls ms more m fits is sound = record {
  columns = fits.columns;
  some_pages = there_weaker _ _ (λ c h. omega (arith, long, h)) ps fits.some_pages;
  some_levels = there_weaker _ _ (λ c h. omega (arith, long, h)) ls fits.some_levels;
  sound = sound_more pages ms more m is fits.sound sound;
}
  where
    long : length more ≡ length ms + 1
    long = longer ms more m is

pub first_fits : (pages : ℕ) (ps : Pages) (ls : Levels) (ms : List State) (m : State) → ps ≡ replicate pages None → ls ≡ replicate 16 None → ms ≡ m ∷ [] → IsSound pages m.memory → AreOverlaid pages ps ls ms
first_fits pages ps ls ms m p l e sound = rw (p, l, e) (record {
  columns = record { pages_count = length-replicate {A = Option (List (List ℕ))} pages None; levels_count = refl; no_level = refl; whole_pages = none_there _ pages };
  some_pages = none_there _ pages;
  some_levels = none_there _ 16;
  sound = λ i h. let z : i ≡ 0 = omega (arith, h) in rw z sound;
})

pub first_is : (pages : ℕ) (ps : Pages) (ls : Levels) (ms : List State) (m : State) → ps ≡ replicate pages None → ls ≡ replicate 16 None → ms ≡ m ∷ [] → all_overlaid ps ls 0 ms ≡ m ∷ []
first_is pages ps ls ms m p l e = rw (p, l, e) (ap (λ s. s ∷ []) (idle (replicate pages None) (replicate 16 None) 0 0 m (none_there _ pages) (none_there _ 16) (omega arith)))

pub cut_fits : (pages n : ℕ) (ps ps' : Pages) (ls ls' : Levels) (ms ms' : List State) → AreOverlaid pages ps ls ms → ps' ≡ map (cut_column n) ps → ls' ≡ map (cut_column n) ls → ms' ≡ take n ms → AreOverlaid pages ps' ls' ms'
cut_fits pages n ps ps' ls ls' ms ms' fits p l m = rw (p, l, m) (record {
  columns = record {
    pages_count = length-map ps (cut_column n) ∙ fits.columns.pages_count;
    levels_count = length-map ls (cut_column n) ∙ fits.columns.levels_count;
    no_level = map_at (cut_column n) ls 0 None ∙ ap (cut_column n) fits.columns.no_level;
    whole_pages = there_cut _ _ n (λ c h. All-take IsWhole n c h) ps fits.columns.whole_pages;
  };
  some_pages = cut_idle (length ms) n (length (take n ms)) ps _ fits.some_pages refl (omega (arith, left));
  some_levels = cut_idle (length ms) n (length (take n ms)) ls _ fits.some_levels refl (omega (arith, left));
  sound = λ i h.
      let a : i < n = omega (arith, left, h) in
      let b : i < length ms = omega (arith, left, h) in
      rw (get_or-take n ms i blank a) (fits.sound i b);
})
  where
    left : length (take n ms) ≡ min n (length ms)
    left = length-take n ms
