-- The steps of a preparation.
use Rattle.std.proofs.Common.{◌≡◌, ◌≢◌, ℕ, suc, ◌+◌, ◌*◌, ◌/◌, ◌%◌, ◌<◌, ◌≤◌, ◌==◌, List, [], length, get_or, set, map, take, drop, drop-cons, add-one, replicate, Bool, true, false, ◌&&◌, cond, leb, ltb, min, Option, Some, None, option_map, unwrap_or, refl, sym, ◌∙◌, ap, ap₂, subst, arith, inl, inr, ◌⊎◌, lt-ltb, le-ltb, eq-eqb, ne_eqb, length-take-le, length-set, get_or-set_same, get_or-set_other, div-lt_iff_lt-mul, le-div_iff_mul-le, mul_comm}
use Rattle.std.specs.List.{All}
use Rattle.std.proofs.lemmas.Bool.{cases_lt, cases_eq}
use Rattle.std.proofs.lemmas.List.{get_or-take, set-set, get_or_default, length-map}
use Rattle.std.proofs.Math.ListN.{get_or-map}
use Rattle.std.proofs.Math.Nat.{mul-div_cancel_left, div-add-mod}
use Rattle.sv8_model.specs.Cells.{Cell, Value, ram_byte, pending_level, byte, held, same_cell}
use Rattle.sv8_phys.specs.Memory.{ram_size, page_of, with_page}
use Rattle.sv8_history.specs.Machine.{Machine}
use Rattle.sv8_history.specs.Trace.{Trace, Near}
use Rattle.sv8_history.specs.Patches as history
use Rattle.sv8_notes.specs.declared.kept.Kept.{Kept}
use Rattle.sv8_notes.specs.Kept.{kept_in}
use Rattle.sv8_notes.specs.Steps.{IsFirstBelow}
use Rattle.sv8_cpu.specs.State.{State}
use Rattle.sv8_cpu.specs.Recorded.{machine, put}
use Rattle.sv8_trace.specs.declared.prepared.Staged.{Staged}
use Rattle.sv8_trace.specs.declared.interval.Interval.{Interval}
use Rattle.sv8_notes.specs.declared.patch.Patch.{Patch}
use Rattle.sv8_cpu.specs.Patches.{change_of, changes_of}
use Rattle.sv8_trace.specs.Recording.{Recording, blank, no_interval, trace_of}
use Rattle.sv8_trace.specs.Columns.{AreFull, IsWhole, item, put_from, placed_pages, placed_levels}
use Rattle.sv8_trace.specs.Prepared.{placed, list_at, prepared_trace, IsPreparedFor}
use Rattle.sv8_history.specs.Patching.{IsFirstWrite, RaisedAt}
use Rattle.sv8_trace.specs.Patching.{PointsSet}
use Rattle.sv8_trace.specs.Placing.{IsSound, AreSound}
use Rattle.sv8_history.proofs.Common.{near_all, near_along}
use Rattle.sv8_trace.proofs.Placed.{page_byte, page_length, get_none, none_there, there_set, item_full, item_set, whole_items, any_levels, ram_places, level_places, put_set, idle, page_places, level_count, ram_long, byte_at, level_at, page_at}

-- ---- nothing but a cut

before_cut : (k n count : ℕ) → 0 < k → ltb (n / k) count ≡ ltb n (k * count)
before_cut k n count pos = go (cases_lt n (k * count))
  where
    go : (n < k * count) ⊎ (k * count ≤ n) → ltb (n / k) count ≡ ltb n (k * count)
    go (inl h) = let w : n / k < count = (div-lt_iff_lt-mul pos).1 (rw (mul_comm count k) h) in rw (lt-ltb n (k * count) h, lt-ltb (n / k) count w)
    go (inr h) = let w : count ≤ n / k = (le-div_iff_mul-le pos).1 (rw (mul_comm count k) h) in rw (le-ltb n (k * count) h, le-ltb (n / k) count w)

pub staged_cut : (windows pages k : ℕ) (r : Recording) (s : Staged) → 0 < k → s.pages.items ≡ replicate pages None → s.levels.items ≡ replicate 16 None → s.kept.items ≡ replicate s.count None
    → Near (machine windows pages) k (prepared_trace windows pages k r s) (history.cut (machine windows pages) k (trace_of windows pages k r) s.count)
staged_cut windows pages k r s pos columns levels lists = record {
  count = refl;
  points = λ i h. at (k * i / k);
  notes = refl;
  kept = λ n c. rw (lists, get_none {X = List Kept} s.count (n / k), before_cut k n s.count pos);
}
  where
    at : (i : ℕ) → placed s i (get_or r.points i blank) ≡ get_or r.points i blank
    at i = idle s.pages.items s.levels.items 0 i _ (rw columns (none_there _ pages)) (rw levels (none_there _ 16)) (omega arith)

-- ---- kept values

same_step : (k m n : ℕ) → m / k ≡ n / k → (m % k == n % k) ≡ (m == n)
same_step k m n e = go (cases_eq m n)
  where
    go : (m ≡ n) ⊎ (m ≢ n) → (m % k == n % k) ≡ (m == n)
    go (inl q) = rw (eq-eqb m n q, eq-eqb (m % k) (n % k) (ap (λ x. x % k) q))
    go (inr d) = rw (ne_eqb m n d, ne_eqb (m % k) (n % k) (λ q. d (sym (div-add-mod m k) ∙ ap₂ (λ x y. k * x + y) e q ∙ div-add-mod n k)))

pub kept_past : (k len count n : ℕ) (o : Option Value) → 0 < k → count ≤ len → k * len ≤ n → cond (ltb (n / k) count) o None ≡ None
kept_past k len count n o pos le h =
    let w : len ≤ n / k = (le-div_iff_mul-le pos).1 (rw (mul_comm len k) h) in
    rw (le-ltb (n / k) count (omega arith))

pub kept_put : (windows pages k : ℕ) (r : Recording) (s : Staged) (count : ℕ) (mid now : List (Option (List Kept))) (l : List Kept) (step : ℕ) (c : Cell) (o : Option Value)
    → step / k < s.count → length s.kept.items ≡ s.count → count ≡ s.count → mid ≡ set s.kept.items (step / k) None → now ≡ set mid (step / k) (Some l)
    → ((j : ℕ) (b : Cell) → kept_in j b l ≡ cond (j == step % k && same_cell c b) o (kept_in j b (list_at r s (step / k))))
    → (n : ℕ) (b : Cell) → cond (ltb (n / k) count) (kept_in (n % k) b (unwrap_or (get_or now (n / k) None) (get_or r.intervals (n / k) no_interval).kept)) None
    ≡ cond (n == step && same_cell c b) o ((prepared_trace windows pages k r s).kept n b)
kept_put windows pages k r s count mid now l step c o below long counts me ne law n b = rw (counts, one) (go (cases_eq (n / k) (step / k)))
  where
    one : now ≡ set s.kept.items (step / k) (Some l)
    one = ne ∙ ap (λ xs. set xs (step / k) (Some l)) me ∙ set-set s.kept.items (step / k) None (Some l)

    go : (n / k ≡ step / k) ⊎ (n / k ≢ step / k)
        → cond (ltb (n / k) s.count) (kept_in (n % k) b (unwrap_or (get_or (set s.kept.items (step / k) (Some l)) (n / k) None) (get_or r.intervals (n / k) no_interval).kept)) None
        ≡ cond (n == step && same_cell c b) o (cond (ltb (n / k) s.count) (kept_in (n % k) b (list_at r s (n / k))) None)
    go (inl e) =
        let w : step / k < length s.kept.items = omega (arith, long, below) in
        let same = same_step k n step e in
        rw (e, lt-ltb (step / k) s.count below, get_or-set_same s.kept.items (step / k) (Some l) None w) (law (n % k) b ∙ ap (λ x. cond (x && same_cell c b) o (kept_in (n % k) b (list_at r s (step / k)))) same)
    go (inr d) =
        let apart : n ≢ step = λ q. d (ap (λ x. x / k) q) in
        rw (get_or-set_other s.kept.items (step / k) (n / k) (Some l) None d, ne_eqb n step apart)

-- ---- what stands in a cell of a checkpoint that is to be

module _ (pages i : ℕ) (r : Recording) (s : Staged) (fits : IsPreparedFor pages r s) (le : i ≤ s.count) (p : State) (contents : IsSound pages p.memory) where
  pub byte_in : (a : ℕ) (o : Option (List (List ℕ))) → get_or s.pages.items (a / 4096) None ≡ o
      → get_or (placed s i p).memory.ram a 0 ≡ unwrap_or (option_map (λ page. get_or page (a % 4096) 0) (option_map (λ c. get_or c i []) o)) (get_or p.memory.ram a 0)
  byte_in a o e =
      byte_at pages s.pages.items s.levels.items fits.columns i p contents a
      ∙ ap (λ x. unwrap_or (option_map (λ page. get_or page (a % 4096) 0) x) (get_or p.memory.ram a 0)) (item_full (suc s.count) i (a / 4096) s.pages.items o [] fits.full_pages (omega arith) e)

  pub page_in : (q : ℕ) (o : Option (List (List ℕ))) → q < pages → get_or s.pages.items q None ≡ o → page_of (placed s i p).memory.ram q ≡ unwrap_or (option_map (λ c. get_or c i []) o) (page_of p.memory.ram q)
  page_in q o h e =
      page_at pages s.pages.items s.levels.items fits.columns i p contents q h
      ∙ ap (λ x. unwrap_or x (page_of p.memory.ram q)) (item_full (suc s.count) i q s.pages.items o [] fits.full_pages (omega arith) e)

  pub level_in : (l : ℕ) (o : Option (List Bool)) → get_or s.levels.items l None ≡ o → get_or (placed s i p).memory.pending l false ≡ unwrap_or (option_map (λ c. get_or c i false) o) (get_or p.memory.pending l false)
  level_in l o e =
      level_at pages s.pages.items s.levels.items fits.columns i p contents l
      ∙ ap (λ x. unwrap_or x (get_or p.memory.pending l false)) (item_full (suc s.count) i l s.levels.items o false fits.full_levels (omega arith) e)

-- ---- one patch after another

pub patched_more : (windows pages k : ℕ) → 0 < k → (ps : List Patch) (i : ℕ) (d : Patch) (v w x : Trace (machine windows pages)) → i < length ps
    → Near (machine windows pages) k w (history.patch (machine windows pages) k v (change_of windows pages (get_or ps i d)))
    → Near (machine windows pages) k (history.patch_all (machine windows pages) k v (changes_of windows pages (drop i ps))) x
    → Near (machine windows pages) k (history.patch_all (machine windows pages) k w (changes_of windows pages (drop (i + 1) ps))) x
patched_more windows pages k pos ps i d v w x h near whole =
    let e = drop-cons ps i d h in
    let f = rw e at whole in
    rw add-one (near_along (machine windows pages) k _ _ _ (near_all (machine windows pages) k pos (changes_of windows pages (drop (suc i) ps)) w (history.patch (machine windows pages) k v (change_of windows pages (get_or ps i d))) near) f)

-- ---- the first write

pub first_write_is : (m : Machine) (v : Trace m) (c : m.Cell) (from end recorded : ℕ) (o : Option ℕ) → end ≤ recorded → recorded ≤ 1000000 → IsFirstBelow (λ n. (v.notes n).writes c) from (min end recorded) o
    → IsFirstWrite m v c from end (unwrap_or o 4294967295)
first_write_is m v c from end recorded None le few h = record {
  before = λ n a b l. h n a (omega (arith, le, l));
  at = λ l. absurd (omega (arith, le, few, l));
}
first_write_is m v c from end recorded (Some s) le few h = record {
  before = λ n a b l. h.3 n a b;
  at = λ l. (h.0, h.2);
}

-- ---- the points and the slots

pub sound_at : (pages i : ℕ) (r : Recording) (s : Staged) (points : List State) (intervals : List Interval) → AreSound pages points → length points ≡ length intervals + 1 → ◌≡◌ {A = Recording} (record { points = points; intervals = intervals }) r
    → IsPreparedFor pages r s → i ≤ s.count → IsSound pages (get_or r.points i blank).memory
sound_at pages i r s points intervals sound long is fits h =
    subst (λ ps. IsSound pages (get_or ps i blank).memory) (ap (λ (r : Recording). r.points) is) (sound i (omega (arith, long, ap (λ (r : Recording). length r.intervals) is, fits.count, h)))

pub slot_is : {X : Type 0} (cs : List (Option X)) (i : ℕ) (o p : Option X) → i < length cs → o ≡ get_or cs i o → o ≡ p → get_or cs i None ≡ p
slot_is cs i o p h e f = get_or_default cs i None o h ∙ sym e ∙ f

-- ---- a byte, or a level, is set in the checkpoints

module _ (pages i : ℕ) (r : Recording) (s now : Staged) (fits : IsPreparedFor pages r s) (le : i ≤ s.count) (p : State) (contents : IsSound pages p.memory) where
  pub page_whole : (q : ℕ) → q < pages → length (page_of (placed s i p).memory.ram q) ≡ 4096
  page_whole q h = page_length (placed s i p).memory.ram q (omega (arith, ram_long pages s.pages.items s.levels.items fits.columns i p contents, h))

  -- a column that has the page of the checkpoint comes with a byte set there, or not
  pub byte_set : (a : ℕ) (c d : List (List ℕ)) (v : ℕ) (b : Bool) → a < ram_size pages → length d ≡ suc s.count → get_or c i [] ≡ page_of (placed s i p).memory.ram (a / 4096)
      → get_or d i [] ≡ cond b (set (get_or c i []) (a % 4096) v) (get_or c i []) → now.pages.items ≡ set (set s.pages.items (a / 4096) None) (a / 4096) (Some d) → now.levels.items ≡ s.levels.items
      → placed now i p ≡ cond b (put (ram_byte a) (byte v) (placed s i p)) (placed s i p)
  byte_set a c d v b h long has is pages_are levels_are =
      ap₂ (λ ram ps. record p { memory = record p.memory { ram = ram; pending = ps } }) ram_is (ap (λ cs. placed_levels 0 cs i p.memory.pending) levels_are) ∙ whole_state b
    where
      ram : List ℕ
      ram = (placed s i p).memory.ram

      below : a / 4096 < length (map (item i) s.pages.items)
      below = omega (arith, page_places pages s.pages.items s.levels.items fits.columns i p contents, h)

      page_is : get_or d i [] ≡ cond b (set (page_of ram (a / 4096)) (a % 4096) v) (page_of ram (a / 4096))
      page_is = is ∙ ap (λ x. cond b (set x (a % 4096) v) x) has

      whole : length (page_of ram (a / 4096)) ≡ 4096
      whole = page_whole (a / 4096) (omega (arith, h))

      set_whole : (b : Bool) → length (cond b (set (page_of ram (a / 4096)) (a % 4096) v) (page_of ram (a / 4096))) ≡ 4096
      set_whole true = length-set (page_of ram (a / 4096)) (a % 4096) v ∙ whole
      set_whole false = whole

      same : (y : ℕ) → y / 4096 ≡ a / 4096 → get_or (page_of ram (a / 4096)) (y % 4096) 0 ≡ get_or ram y 0
      same y e = page_byte ram (a / 4096) (y % 4096) (omega arith) ∙ ap (λ x. get_or ram x 0) (omega (arith, e))

      law : (y : ℕ) → y / 4096 ≡ a / 4096 → (b : Bool) → (y ≡ a) ⊎ (y ≢ a) → get_or (cond b (set (page_of ram (a / 4096)) (a % 4096) v) (page_of ram (a / 4096))) (y % 4096) 0 ≡ cond (b && y == a) v (get_or ram y 0)
      law y e true (inl q) = let w : a % 4096 < length (page_of ram (a / 4096)) = omega (arith, whole) in rw (q, eq-eqb a a refl) (get_or-set_same (page_of ram (a / 4096)) (a % 4096) v 0 w)
      law y e true (inr n) =
          let m : y % 4096 ≢ a % 4096 = omega (arith, n, e) in
          rw (ne_eqb y a n) (get_or-set_other (page_of ram (a / 4096)) (a % 4096) (y % 4096) v 0 m ∙ same y e)
      law y e false q = same y e

      ram_is : placed_pages 0 now.pages.items i p.memory.ram ≡ cond b (set ram a v) ram
      ram_is =
          ap (λ os. put_from with_page 0 os p.memory.ram) (item_set i (a / 4096) s.pages.items now.pages.items d [] (omega (arith, long, le)) pages_are)
          ∙ put_set (ram_places pages) (map (item i) s.pages.items) (get_or d i []) a v b p.memory.ram contents.size (page_places pages s.pages.items s.levels.items fits.columns i p contents)
          (whole_items i s.pages.items fits.columns.whole_pages) (there_set IsWhole (map (item i) s.pages.items) (a / 4096) (get_or d i []) below (whole_items i s.pages.items fits.columns.whole_pages) (ap length page_is ∙ set_whole b))
          (omega (arith, h)) (λ y l e. ap (λ x. get_or x (y % 4096) 0) page_is ∙ law y e b (cases_eq y a))

      whole_state : (b : Bool) → record p { memory = record p.memory { ram = cond b (set ram a v) ram; pending = placed_levels 0 s.levels.items i p.memory.pending } }
          ≡ cond b (put (ram_byte a) (byte v) (placed s i p)) (placed s i p)
      whole_state true = refl
      whole_state false = refl

  -- the same of a level
  pub level_set : (l : ℕ) (c d : List Bool) (v b : Bool) → l ≤ 15 → length d ≡ suc s.count → get_or c i false ≡ get_or (placed s i p).memory.pending l false
      → get_or d i false ≡ cond b v (get_or c i false) → now.levels.items ≡ set (set s.levels.items l None) l (Some d) → now.pages.items ≡ s.pages.items
      → placed now i p ≡ cond b (put (pending_level l) (held v) (placed s i p)) (placed s i p)
  level_set l c d v b h long has is levels_are pages_are =
      ap₂ (λ ram ps. record p { memory = record p.memory { ram = ram; pending = ps } }) (ap (λ cs. placed_pages 0 cs i p.memory.ram) pages_are) levels_is ∙ whole_state b
    where
      pending : List Bool
      pending = (placed s i p).memory.pending

      law : (y : ℕ) → y ≡ l → (b : Bool) → cond b v (get_or pending l false) ≡ cond (b && y == l) v (get_or pending y false)
      law y e true = rw (e, eq-eqb l l refl)
      law y e false = rw e

      levels_is : placed_levels 0 now.levels.items i p.memory.pending ≡ cond b (set pending l v) pending
      levels_is =
          ap (λ os. put_from set 0 os p.memory.pending) (item_set i l s.levels.items now.levels.items d false (omega (arith, long, le)) levels_are)
          ∙ put_set level_places (map (item i) s.levels.items) (get_or d i false) l v b p.memory.pending contents.count (level_count pages s.pages.items s.levels.items fits.columns i p contents)
          (any_levels _) (any_levels _) (omega (arith, h)) (λ y k e. is ∙ ap (cond b v) has ∙ law y e b)

      whole_state : (b : Bool) → record p { memory = record p.memory { ram = placed_pages 0 s.pages.items i p.memory.ram; pending = cond b (set pending l v) pending } }
          ≡ cond b (put (pending_level l) (held v) (placed s i p)) (placed s i p)
      whole_state true = refl
      whole_state false = refl

-- what was prepared still fits
pub fits_pages : (pages : ℕ) (r : Recording) (s now : Staged) (p : ℕ) (d : List (List ℕ)) → IsPreparedFor pages r s → p < pages → All IsWhole d → length d ≡ suc s.count
    → now.count ≡ s.count → now.pages.items ≡ set (set s.pages.items p None) p (Some d) → now.levels.items ≡ s.levels.items → now.kept.items ≡ s.kept.items → IsPreparedFor pages r now
fits_pages pages r s now p d fits h whole long count pages_are levels kept = record {
  count = rw count fits.count;
  columns = record {
    pages_count = ap length one ∙ length-set s.pages.items p (Some d) ∙ fits.columns.pages_count;
    levels_count = ap length levels ∙ fits.columns.levels_count;
    no_level = ap (λ cs. get_or cs 0 None) levels ∙ fits.columns.no_level;
    whole_pages = rw one (there_set (All IsWhole) s.pages.items p d below fits.columns.whole_pages whole);
  };
  full_pages = rw (one, count) (there_set _ s.pages.items p d below fits.full_pages long);
  full_levels = let w = fits.full_levels in rw (levels, count) w;
  lists_count = ap length kept ∙ fits.lists_count ∙ sym count;
}
  where
    below : p < length s.pages.items
    below = omega (arith, fits.columns.pages_count, h)

    one : now.pages.items ≡ set s.pages.items p (Some d)
    one = pages_are ∙ set-set s.pages.items p None (Some d)

-- a column that was gathered
pub gathered : {X : Type 0} (f : State → X) (d : X) (n i : ℕ) (points : List State) (c : List X) → c ≡ map f (take n points) → i < n → n ≤ length points → get_or c i d ≡ f (get_or points i blank)
gathered f d n i points c is h fits =
    let long : length (map f (take n points)) ≡ n = length-map (take n points) f ∙ length-take-le n points fits in
    ap (λ xs. get_or xs i d) is ∙ get_or_default (map f (take n points)) i d (f blank) (omega (arith, long, h)) ∙ get_or-map f (take n points) i blank ∙ ap f (get_or-take n points i blank h)

pub set_whole : (a count v low end : ℕ) (c d : List (List ℕ)) → length d ≡ suc count → ((i : ℕ) → i ≤ count → length (get_or c i []) ≡ 4096)
    → ((i : ℕ) → get_or d i [] ≡ cond (leb low i && ltb i end) (set (get_or c i []) (a % 4096) v) (get_or c i [])) → All IsWhole d
set_whole a count v low end c d long whole law i e h = ap length (get_or_default d i e [] h ∙ law i) ∙ go (leb low i && ltb i end) i (omega (arith, long, h))
  where
    go : (b : Bool) (i : ℕ) → i ≤ count → length (cond b (set (get_or c i []) (a % 4096) v) (get_or c i [])) ≡ 4096
    go true i h = length-set (get_or c i []) (a % 4096) v ∙ whole i h
    go false i h = whole i h

-- how many checkpoints a column has
pub taken_long : {X : Type 0} (count q : ℕ) (cs : List (Option (List X))) (c : List X) → AreFull count cs → get_or cs q None ≡ Some c → length c ≡ count
taken_long count q cs c full e = let w = full q in rw e at w

pub gathered_long : {X : Type 0} (f : State → X) (count : ℕ) (points : List State) (c : List X) → c ≡ map f (take (count + 1) points) → count + 1 ≤ length points → length c ≡ suc count
gathered_long f count points c is h = ap length is ∙ length-map (take (count + 1) points) f ∙ length-take-le (count + 1) points h ∙ add-one count

pub not_kept : (i count : ℕ) (o : Option Value) → count ≤ i → cond (ltb i count) o None ≡ None
not_kept i count o h = rw (le-ltb i count h)

-- ---- a spread, from its parts

pub points_at : (windows pages k : ℕ) → 0 < k → (r : Recording) (old mid now : Staged) (c : Cell) (v : Value) (low end : ℕ) → PointsSet r old mid c v low end → now ≡ record mid { kept = now.kept }
    → (i : ℕ) → i ≤ old.count → (prepared_trace windows pages k r now).point (k * i)
    ≡ cond (leb low i && ltb i end) (put c v ((prepared_trace windows pages k r old).point (k * i))) ((prepared_trace windows pages k r old).point (k * i))
points_at windows pages k pos r old mid now c v low end set rest i h =
    let d : k * i / k ≡ i = mul-div_cancel_left i pos in
    rw d (ap (λ (s : Staged). placed s i (get_or r.points i blank)) rest ∙ set i h)

pub kept_same : (windows pages k : ℕ) (r : Recording) (old mid : Staged) → mid.kept.items ≡ old.kept.items → mid.count ≡ old.count → (n : ℕ) (b : Cell)
    → (prepared_trace windows pages k r mid).kept n b ≡ (prepared_trace windows pages k r old).kept n b
kept_same windows pages k r old mid e f n b =
    ap₂ (λ lists count. cond (ltb (n / k) count) (kept_in (n % k) b (unwrap_or (get_or lists (n / k) None) (get_or r.intervals (n / k) no_interval).kept)) None) e f

pub raised_from : (m : Machine) (old mid now : Trace m) (c : m.Cell) (v : m.Value) (to wrote : ℕ) → ((n : ℕ) (b : m.Cell) → mid.kept n b ≡ old.kept n b) → RaisedAt m mid now c v to wrote → RaisedAt m old now c v to wrote
raised_from m old mid now c v to wrote same law n b =
    law n b ∙ ap₂ (λ x y. cond (n == to && m.same c b) (cond (leb to wrote) (option_map (λ w. v) x) x) y) (same to c) (same n b)

pub points_kept : (windows pages k : ℕ) (r : Recording) (mid now : Staged) → now ≡ record mid { kept = now.kept } → (i : ℕ) → i ≤ mid.count → (prepared_trace windows pages k r now).point (k * i) ≡ (prepared_trace windows pages k r mid).point (k * i)
points_kept windows pages k r mid now rest i h = ap (λ (s : Staged). placed s (k * i / k) (get_or r.points (k * i / k) blank)) rest

-- ---- the end of a preparation, with other columns that show the same pages

pub finished_fits : (pages : ℕ) (r : Recording) (s now : Staged) → now ≡ record s { pages = now.pages } → now.pages.items ≡ s.pages.items → IsPreparedFor pages r s → IsPreparedFor pages r now
finished_fits pages r s now rest columns fits = record {
  count = rw count fits.count;
  columns = let w = fits.columns in rw (columns, ap (λ (x : Staged). x.levels.items) rest) w;
  full_pages = let w = fits.full_pages in rw (columns, count) w;
  full_levels = let w = fits.full_levels in rw (ap (λ (x : Staged). x.levels.items) rest, count) w;
  lists_count = ap (λ (x : Staged). length x.kept.items) rest ∙ fits.lists_count ∙ sym count;
}
  where
    count : now.count ≡ s.count
    count = ap (λ (x : Staged). x.count) rest

pub finished_trace : (windows pages k : ℕ) (r : Recording) (s now : Staged) → now ≡ record s { pages = now.pages } → now.pages.items ≡ s.pages.items → prepared_trace windows pages k r now ≡ prepared_trace windows pages k r s
finished_trace windows pages k r s now rest columns = ap (prepared_trace windows pages k r) rest ∙ ap (with_columns windows pages k r s) columns
  where
    with_columns : (windows pages k : ℕ) (r : Recording) (s : Staged) → List (Option (List (List ℕ))) → Trace (machine windows pages)
    with_columns windows pages k r s cs = record (prepared_trace windows pages k r s) {
      point = λ n. let p = get_or r.points (n / k) blank in
          record p { memory = record p.memory { ram = placed_pages 0 cs (n / k) p.memory.ram; pending = placed_levels 0 s.levels.items (n / k) p.memory.pending } };
    }
