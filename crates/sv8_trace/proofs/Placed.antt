-- Pages and levels put in their places.
use Rattle.std.proofs.Common.{◌≡◌, ◌≢◌, ℕ, zero, suc, ◌+◌, ◌-◌, ◌*◌, ◌/◌, ◌%◌, ◌<◌, ◌≤◌, ◌==◌, ◌&&◌, List, [], ◌∷◌, ◌++◌, length, map, take, drop, get_or, set, replicate, Bool, true, false, cond, Option, Some, None, unwrap_or, option_map, MatchOption, refl, sym, ◌∙◌, ap, ap₂, arith, inl, inr, ◌⊎◌, eq-eqb, ne_eqb, length-append, length-take-le, length-set, get_or-set_same, get_or-set_other}
use Rattle.std.specs.Bool.{⊤}
use Rattle.std.specs.List.{All}
use Rattle.std.proofs.Math.ListN.{get_or-map as map_at}
use Rattle.std.proofs.lemmas.Bool.{cases_lt, cases_eq}
use Rattle.std.proofs.lemmas.List.{get_or-take, get_or-drop, get_or_append_left, get_or-append_right, ext_get_or, length-drop, length-map, set-set, map-set}
use Rattle.std.proofs.lemmas.Option.{none-some, slice_get_past, slice_get-get_or}
use Rattle.sv8_phys.specs.Memory.{ram_size, with_page, page_of}
use Rattle.sv8_cpu.specs.State.{State}
use Rattle.sv8_trace.specs.Columns.{AllThere, AreFull, AreIdleFrom, AreColumns, IsWhole, item, put_from, overlaid, put_over}
use Rattle.sv8_trace.specs.Placing.{IsSound}

-- ---- one page

-- a byte of a page
pub page_byte : (ram : List ℕ) (p j : ℕ) → j < 4096 → get_or (page_of ram p) j 0 ≡ get_or ram (4096 * p + j) 0
page_byte ram p j h = get_or-take 4096 (drop (4096 * p) ram) j 0 h ∙ get_or-drop (4096 * p) ram j 0

pub page_length : (ram : List ℕ) (p : ℕ) → 4096 * p + 4096 ≤ length ram → length (page_of ram p) ≡ 4096
page_length ram p h = let e : length (drop (4096 * p) ram) ≡ length ram - 4096 * p = length-drop (4096 * p) ram in length-take-le 4096 (drop (4096 * p) ram) (omega (arith, e, h))

module _ (ram bytes : List ℕ) (p : ℕ) (room : 4096 * p + 4096 ≤ length ram) (whole : length bytes ≡ 4096) where
  front : length (take (4096 * p) ram) ≡ 4096 * p
  front = length-take-le (4096 * p) ram (omega arith)

  front_bytes : length (take (4096 * p) ram ++ bytes) ≡ 4096 * p + 4096
  front_bytes = length-append (take (4096 * p) ram) bytes ∙ omega (arith, front, whole)

  pub length-with_page : length (with_page ram p bytes) ≡ length ram
  length-with_page =
      let back : length (drop (4096 * p + 4096) ram) ≡ length ram - (4096 * p + 4096) = length-drop (4096 * p + 4096) ram in
      length-append (take (4096 * p) ram ++ bytes) (drop (4096 * p + 4096) ram) ∙ omega (arith, front_bytes, back)

  pub get-with_page : (a : ℕ) → get_or (with_page ram p bytes) a 0 ≡ cond (a / 4096 == p) (get_or bytes (a % 4096) 0) (get_or ram a 0)
  get-with_page a = go (cases_lt a (4096 * p)) (cases_lt a (4096 * p + 4096))
    where
      go : (a < 4096 * p) ⊎ (4096 * p ≤ a) → (a < 4096 * p + 4096) ⊎ (4096 * p + 4096 ≤ a) → get_or (with_page ram p bytes) a 0 ≡ cond (a / 4096 == p) (get_or bytes (a % 4096) 0) (get_or ram a 0)
      go (inl l) r =
          let n : a / 4096 ≢ p = omega arith in
          rw (ne_eqb (a / 4096) p n)
          (get_or_append_left (take (4096 * p) ram ++ bytes) (drop (4096 * p + 4096) ram) 0 a (omega (arith, front_bytes))
          ∙ get_or_append_left (take (4096 * p) ram) bytes 0 a (omega (arith, front)) ∙ get_or-take (4096 * p) ram a 0 l)
      go (inr l) (inl r) =
          let e : a / 4096 ≡ p = omega arith in
          let j : a - 4096 * p ≡ a % 4096 = omega arith in
          rw (eq-eqb (a / 4096) p e)
          (get_or_append_left (take (4096 * p) ram ++ bytes) (drop (4096 * p + 4096) ram) 0 a (omega (arith, front_bytes))
          ∙ get_or-append_right (take (4096 * p) ram) bytes (4096 * p) a 0 front l ∙ ap (λ i. get_or bytes i 0) j)
      go (inr l) (inr r) =
          let n : a / 4096 ≢ p = omega arith in
          rw (ne_eqb (a / 4096) p n)
          (get_or-append_right (take (4096 * p) ram ++ bytes) (drop (4096 * p + 4096) ram) (4096 * p + 4096) a 0 front_bytes r
          ∙ get_or-drop (4096 * p + 4096) ram (a - (4096 * p + 4096)) 0 ∙ ap (λ i. get_or ram i 0) (omega arith))

-- ---- what is put in places

-- Each of so many places of a list of some size takes one thing, and element a of the list is seen in the thing in its place.
pub record HasPlaces (X R : Type 0) (put : List R → ℕ → X → List R) (d : R) (place : ℕ → ℕ) (see : ℕ → X → R) (Fits : X → Type 0) (count size : ℕ) : Type 0 where
  pub long : (m : List R) (p : ℕ) (x : X) → length m ≡ size → p < count → Fits x → length (put m p x) ≡ size
  pub at : (m : List R) (p : ℕ) (x : X) (a : ℕ) → length m ≡ size → p < count → Fits x → get_or (put m p x) a d ≡ cond (place a == p) (see a x) (get_or m a d)

module _ {X R : Type 0} {put : List R → ℕ → X → List R} {d : R} {place : ℕ → ℕ} {see : ℕ → X → R} {Fits : X → Type 0} {count size : ℕ} (law : HasPlaces X R put d place see Fits count size) where
  from_long : (p : ℕ) (os : List (Option X)) (m : List R) → length m ≡ size → p + length os ≤ count → AllThere Fits os → length (put_from put p os m) ≡ size
  from_long p [] m e h w = e
  from_long p (None ∷ os) m e h w = from_long (suc p) os m e (omega arith) (λ q. w (suc q))
  from_long p (Some x ∷ os) m e h w = from_long (suc p) os (put m p x) (law.long m p x e (omega arith) (w 0)) (omega arith) (λ q. w (suc q))

  from_behind : (p : ℕ) (os : List (Option X)) (m : List R) (a : ℕ) → length m ≡ size → p + length os ≤ count → AllThere Fits os → place a < p → get_or (put_from put p os m) a d ≡ get_or m a d
  from_behind p [] m a e h w l = refl
  from_behind p (None ∷ os) m a e h w l = from_behind (suc p) os m a e (omega arith) (λ q. w (suc q)) (omega (arith, l))
  from_behind p (Some x ∷ os) m a e h w l =
      let n : place a ≢ p = omega (arith, l) in
      from_behind (suc p) os (put m p x) a (law.long m p x e (omega arith) (w 0)) (omega arith) (λ q. w (suc q)) (omega (arith, l)) ∙ law.at m p x a e (omega arith) (w 0) ∙ rw (ne_eqb (place a) p n) refl

  from_at : (p q : ℕ) (os : List (Option X)) (m : List R) (a : ℕ) → length m ≡ size → p + length os ≤ count → AllThere Fits os → place a ≡ p + q
      → get_or (put_from put p os m) a d ≡ unwrap_or (option_map (see a) (get_or os q None)) (get_or m a d)
  from_at p q [] m a e h w l = refl
  from_at p zero (None ∷ os) m a e h w l = from_behind (suc p) os m a e (omega arith) (λ q. w (suc q)) (omega (arith, l))
  from_at p zero (Some x ∷ os) m a e h w l =
      let n : place a ≡ p = omega (arith, l) in
      from_behind (suc p) os (put m p x) a (law.long m p x e (omega arith) (w 0)) (omega arith) (λ q. w (suc q)) (omega (arith, l)) ∙ law.at m p x a e (omega arith) (w 0) ∙ rw (eq-eqb (place a) p n) refl
  from_at p (suc q) (None ∷ os) m a e h w l = from_at (suc p) q os m a e (omega arith) (λ q. w (suc q)) (omega (arith, l))
  from_at p (suc q) (Some x ∷ os) m a e h w l =
      let n : place a ≢ p = omega (arith, l) in
      from_at (suc p) q os (put m p x) a (law.long m p x e (omega arith) (w 0)) (omega arith) (λ q. w (suc q)) (omega (arith, l))
      ∙ ap (unwrap_or (option_map (see a) (get_or os q None))) (law.at m p x a e (omega arith) (w 0) ∙ rw (ne_eqb (place a) p n) refl)

  module _ (os : List (Option X)) (m : List R) (long : length m ≡ size) (places : length os ≡ count) (fit : AllThere Fits os) where
    pub put_length : length (put_from put 0 os m) ≡ size
    put_length = from_long 0 os m long (omega (arith, places)) fit

    pub put_at : (a : ℕ) → get_or (put_from put 0 os m) a d ≡ unwrap_or (option_map (see a) (get_or os (place a) None)) (get_or m a d)
    put_at a = from_at 0 (place a) os m a long (omega (arith, places)) fit (omega arith)

  -- other things are put where there are any
  pub put_again : (old new now : List (Option X)) (m : List R) → length m ≡ size → length old ≡ count → length new ≡ count → length now ≡ count → AllThere Fits old → AllThere Fits new → AllThere Fits now
      → ((q : ℕ) → get_or now q None ≡ put_over (get_or new q None) (get_or old q None)) → put_from put 0 now m ≡ put_from put 0 new (put_from put 0 old m)
  put_again old new now m long o n w fo fn fw over =
      ext_get_or d _ _ (put_length now m long w fw ∙ sym (put_length new was was_long n fn)) (λ a h.
      put_at now m long w fw a ∙ ap (λ x. unwrap_or (option_map (see a) x) (get_or m a d)) (over (place a)) ∙ go a (get_or new (place a) None) (get_or old (place a) None)
      ∙ ap (unwrap_or (option_map (see a) (get_or new (place a) None))) (sym (put_at old m long o fo a)) ∙ sym (put_at new was was_long n fn a))
    where
      was : List R
      was = put_from put 0 old m

      was_long : length was ≡ size
      was_long = put_length old m long o fo

      go : (a : ℕ) (x y : Option X) → unwrap_or (option_map (see a) (put_over x y)) (get_or m a d) ≡ unwrap_or (option_map (see a) x) (unwrap_or (option_map (see a) y) (get_or m a d))
      go a None y = refl
      go a (Some x) y = refl

  -- element a is set in its place, or is as it was
  pub put_set : (os : List (Option X)) (x : X) (a : ℕ) (v : R) (b : Bool) (m : List R) → length m ≡ size → length os ≡ count → AllThere Fits os → AllThere Fits (set os (place a) (Some x)) → place a < count
      → ((y : ℕ) → y < size → place y ≡ place a → see y x ≡ cond (b && y == a) v (get_or (put_from put 0 os m) y d))
      → put_from put 0 (set os (place a) (Some x)) m ≡ cond b (set (put_from put 0 os m) a v) (put_from put 0 os m)
  put_set os x a v b m long places fit now_fit inside law = ext_get_or d _ _ (now_long ∙ sym (set_long b)) (λ y h. at y (rw now_long at h) (cases_eq (place y) (place a)) ∙ sym (set_at b y (rw now_long at h) (cases_eq y a)))
    where
      was : List R
      was = put_from put 0 os m

      now : List (Option X)
      now = set os (place a) (Some x)

      now_places : length now ≡ count
      now_places = length-set os (place a) (Some x) ∙ places

      was_long : length was ≡ size
      was_long = put_length os m long places fit

      now_long : length (put_from put 0 now m) ≡ size
      now_long = put_length now m long now_places now_fit

      set_long : (b : Bool) → length (cond b (set was a v) was) ≡ size
      set_long true = length-set was a v ∙ was_long
      set_long false = was_long

      set_at : (b : Bool) (y : ℕ) → y < size → (y ≡ a) ⊎ (y ≢ a) → get_or (cond b (set was a v) was) y d ≡ cond (b && y == a) v (get_or was y d)
      set_at false y h r = refl
      set_at true y h (inl e) = let w : a < length was = omega (arith, was_long, h, e) in rw (e, eq-eqb a a refl) (get_or-set_same was a v d w)
      set_at true y h (inr n) = rw (ne_eqb y a n) (get_or-set_other was a y v d n)

      apart : (b : Bool) (y : ℕ) → place y ≢ place a → cond (b && y == a) v (get_or was y d) ≡ get_or was y d
      apart false y n = refl
      apart true y n = rw (ne_eqb y a (λ e. n (ap place e))) refl

      at : (y : ℕ) → y < size → (place y ≡ place a) ⊎ (place y ≢ place a) → get_or (put_from put 0 now m) y d ≡ cond (b && y == a) v (get_or was y d)
      at y h (inl e) =
          let w : place a < length os = omega (arith, places, inside) in
          put_at now m long now_places now_fit y
          ∙ ap (λ o. unwrap_or (option_map (see y) o) (get_or m y d)) (ap (λ q. get_or now q None) e ∙ get_or-set_same os (place a) (Some x) None w) ∙ law y h e
      at y h (inr n) =
          put_at now m long now_places now_fit y ∙ ap (λ o. unwrap_or (option_map (see y) o) (get_or m y d)) (get_or-set_other os (place a) (place y) (Some x) None n)
          ∙ sym (put_at os m long places fit y) ∙ sym (apart b y n)

pub ram_places : (pages : ℕ) → HasPlaces (List ℕ) ℕ with_page 0 (λ a. a / 4096) (λ a page. get_or page (a % 4096) 0) IsWhole pages (ram_size pages)
ram_places pages = record {
  long = λ m p x e h w. length-with_page m x p (omega (arith, e, h)) w ∙ e;
  at = λ m p x a e h w. get-with_page m x p (omega (arith, e, h)) w a;
}

pub level_places : HasPlaces Bool Bool set false (λ l. l) (λ l b. b) (λ b. ⊤) 16 16
level_places = record {
  long = λ m p x e h w. length-set m p x ∙ e;
  at = λ m p x a e h w. go m p x a (omega (arith, e, h)) (cases_eq a p);
}
  where
    go : (m : List Bool) (p : ℕ) (x : Bool) (a : ℕ) → p < length m → (a ≡ p) ⊎ (a ≢ p) → get_or (set m p x) a false ≡ cond (a == p) x (get_or m a false)
    go m p x a h (inl e) = rw (e, eq-eqb p p refl) (get_or-set_same m p x false h)
    go m p x a h (inr n) = rw (ne_eqb a p n) (get_or-set_other m p a x false n)

-- ---- columns

-- anything is a level
pub any_levels : (os : List (Option Bool)) → AllThere (λ b. ⊤) os
any_levels os q = go (get_or os q None)
  where
    go : (o : Option Bool) → MatchOption o ⊤ (λ b. ⊤)
    go None = tt
    go (Some b) = tt

pub there_weaker : {X : Type 0} (P Q : X → Type 0) → ((x : X) → P x → Q x) → (os : List (Option X)) → AllThere P os → AllThere Q os
there_weaker {X = X} P Q f os h q = go (get_or os q None) (h q)
  where
    go : (o : Option X) → MatchOption o ⊤ P → MatchOption o ⊤ Q
    go None w = tt
    go (Some x) w = f x w

pub item_at : {X : Type 0} (i : ℕ) (cs : List (Option (List X))) (q : ℕ) → get_or (map (item i) cs) q None ≡ item i (get_or cs q None)
item_at i cs q = map_at (item i) cs q None

nothing_put : {X Y : Type 0} (put : Y → ℕ → X → Y) (p : ℕ) (os : List (Option X)) (y : Y) → ((q : ℕ) → get_or os q None ≡ None) → put_from put p os y ≡ y
nothing_put put p [] y h = refl
nothing_put put p (None ∷ os) y h = nothing_put put (suc p) os y (λ q. h (suc q))
nothing_put put p (Some x ∷ os) y h = absurd (none-some x (sym (h 0)))

no_item : {X : Type 0} (from i : ℕ) (cs : List (Option (List X))) → AreIdleFrom from cs → from ≤ i → (q : ℕ) → get_or (map (item i) cs) q None ≡ None
no_item {X = X} from i cs idle late q = item_at i cs q ∙ go (get_or cs q None) (idle q)
  where
    go : (o : Option (List X)) → MatchOption o ⊤ (λ c. length c ≤ from) → item i o ≡ None
    go None w = refl
    go (Some c) w = slice_get_past c i (omega (arith, late, w))

-- where each column has checkpoint i
pub item_full : {X : Type 0} (count i q : ℕ) (cs : List (Option (List X))) (o : Option (List X)) (d : X) → AreFull count cs → i < count → get_or cs q None ≡ o → item i (get_or cs q None) ≡ option_map (λ c. get_or c i d) o
item_full {X = X} count i q cs o d full h e = ap (item i) e ∙ go o (let w = full q in rw e at w)
  where
    go : (o : Option (List X)) → MatchOption o ⊤ (λ c. length c ≡ count) → item i o ≡ option_map (λ c. get_or c i d) o
    go None w = refl
    go (Some c) w = slice_get-get_or c i d (omega (arith, w, h))

-- a column is put among the others
pub item_set : {X : Type 0} (i p : ℕ) (cs now : List (Option (List X))) (c : List X) (d : X) → i < length c → now ≡ set (set cs p None) p (Some c) → map (item i) now ≡ set (map (item i) cs) p (Some (get_or c i d))
item_set i p cs now c d h is = ap (map (item i)) (is ∙ set-set cs p None (Some c)) ∙ map-set (item i) cs p (Some c) ∙ ap (set (map (item i) cs) p) (slice_get-get_or c i d h)

pub get_none : {X : Type 0} (n i : ℕ) → get_or {A = Option X} (replicate n None) i None ≡ None
get_none zero i = refl
get_none (suc n) zero = refl
get_none (suc n) (suc i) = get_none n i

pub none_there : {X : Type 0} (P : X → Type 0) (n : ℕ) → AllThere P (replicate n None)
none_there {X = X} P n q = rw (get_none {X = X} n q) tt

pub there_set : {X : Type 0} (P : X → Type 0) (os : List (Option X)) (p : ℕ) (x : X) → p < length os → AllThere P os → P x → AllThere P (set os p (Some x))
there_set P os p x h all w q = go (cases_eq q p)
  where
    go : (q ≡ p) ⊎ (q ≢ p) → MatchOption (get_or (set os p (Some x)) q None) ⊤ P
    go (inl e) = rw (e, get_or-set_same os p (Some x) None h) w
    go (inr n) = rw (get_or-set_other os p q (Some x) None n) (all q)

abbrev pub Pages : Type 0
Pages = List (Option (List (List ℕ)))

abbrev pub Levels : Type 0
Levels = List (Option (List Bool))

-- a checkpoint for which no column has anything stands as it is
pub idle : (ps : Pages) (ls : Levels) (from i : ℕ) (s : State) → AreIdleFrom from ps → AreIdleFrom from ls → from ≤ i → overlaid ps ls i s ≡ s
idle ps ls from i s no_page no_level late =
    ap₂ (λ ram levels. record s { memory = record s.memory { ram = ram; pending = levels } })
    (nothing_put with_page 0 (map (item i) ps) s.memory.ram (no_item from i ps no_page late))
    (nothing_put set 0 (map (item i) ls) s.memory.pending (no_item from i ls no_level late))

pub whole_items : (i : ℕ) (ps : Pages) → AllThere (All IsWhole) ps → AllThere IsWhole (map (item i) ps)
whole_items i ps whole q = rw (item_at i ps q) (go (get_or ps q None) (whole q))
  where
    at : (c : List (List ℕ)) → All IsWhole c → (i < length c) ⊎ (length c ≤ i) → MatchOption (item i (Some c)) ⊤ IsWhole
    at c w (inl h) = rw (slice_get-get_or c i [] h) (w i [] h)
    at c w (inr h) = rw (slice_get_past c i h) tt

    go : (o : Option (List (List ℕ))) → MatchOption o ⊤ (All IsWhole) → MatchOption (item i o) ⊤ IsWhole
    go None w = tt
    go (Some c) w = at c w (cases_lt i (length c))

module _ (pages : ℕ) (ps : Pages) (ls : Levels) (fits : AreColumns pages ps ls) (i : ℕ) (s : State) (sound : IsSound pages s.memory) where
  pub page_places : length (map (item i) ps) ≡ pages
  page_places = length-map ps (item i) ∙ fits.pages_count

  pub level_count : length (map (item i) ls) ≡ 16
  level_count = length-map ls (item i) ∙ fits.levels_count

  pub ram_long : length (overlaid ps ls i s).memory.ram ≡ ram_size pages
  ram_long = put_length (ram_places pages) (map (item i) ps) s.memory.ram sound.size page_places (whole_items i ps fits.whole_pages)

  pub levels_long : length (overlaid ps ls i s).memory.pending ≡ 16
  levels_long = put_length level_places (map (item i) ls) s.memory.pending sound.count level_count (any_levels _)

  pub byte_at : (a : ℕ) → get_or (overlaid ps ls i s).memory.ram a 0 ≡ unwrap_or (option_map (λ page. get_or page (a % 4096) 0) (item i (get_or ps (a / 4096) None))) (get_or s.memory.ram a 0)
  byte_at a =
      put_at (ram_places pages) (map (item i) ps) s.memory.ram sound.size page_places (whole_items i ps fits.whole_pages) a
      ∙ ap (λ o. unwrap_or (option_map (λ page. get_or page (a % 4096) 0) o) (get_or s.memory.ram a 0)) (item_at i ps (a / 4096))

  pub level_at : (l : ℕ) → get_or (overlaid ps ls i s).memory.pending l false ≡ unwrap_or (item i (get_or ls l None)) (get_or s.memory.pending l false)
  level_at l =
      put_at level_places (map (item i) ls) s.memory.pending sound.count level_count (any_levels _) l
      ∙ ap (λ o. unwrap_or (option_map (λ b. b) o) (get_or s.memory.pending l false)) (item_at i ls l) ∙ go (item i (get_or ls l None))
    where
      go : (o : Option Bool) → unwrap_or (option_map (λ b. b) o) (get_or s.memory.pending l false) ≡ unwrap_or o (get_or s.memory.pending l false)
      go None = refl
      go (Some b) = refl

  pub page_at : (p : ℕ) → p < pages → page_of (overlaid ps ls i s).memory.ram p ≡ unwrap_or (item i (get_or ps p None)) (page_of s.memory.ram p)
  page_at p h = ext_get_or 0 _ _ (long ∙ sym (shown_long (item i (get_or ps p None)) here_whole)) (λ j l. each j (rw long at l))
    where
      long : length (page_of (overlaid ps ls i s).memory.ram p) ≡ 4096
      long = page_length (overlaid ps ls i s).memory.ram p (omega (arith, ram_long, h))

      here_whole : MatchOption (item i (get_or ps p None)) ⊤ IsWhole
      here_whole = let w = whole_items i ps fits.whole_pages p in rw (item_at i ps p) at w

      shown_long : (o : Option (List ℕ)) → MatchOption o ⊤ IsWhole → length (unwrap_or o (page_of s.memory.ram p)) ≡ 4096
      shown_long None w = page_length s.memory.ram p (omega (arith, sound.size, h))
      shown_long (Some page) w = w

      each : (j : ℕ) → j < 4096 → get_or (page_of (overlaid ps ls i s).memory.ram p) j 0 ≡ get_or (unwrap_or (item i (get_or ps p None)) (page_of s.memory.ram p)) j 0
      each j l =
          let q : (4096 * p + j) / 4096 ≡ p = omega (arith, l) in
          let r : (4096 * p + j) % 4096 ≡ j = omega (arith, l) in
          page_byte (overlaid ps ls i s).memory.ram p j l ∙ byte_at (4096 * p + j)
          ∙ ap₂ (λ x k. unwrap_or (option_map (λ page. get_or page k 0) (item i (get_or ps x None))) (get_or s.memory.ram (4096 * p + j) 0)) q r ∙ go (item i (get_or ps p None))
        where
          go : (o : Option (List ℕ)) → unwrap_or (option_map (λ page. get_or page j 0) o) (get_or s.memory.ram (4096 * p + j) 0) ≡ get_or (unwrap_or o (page_of s.memory.ram p)) j 0
          go None = sym (page_byte s.memory.ram p j l)
          go (Some page) = refl
