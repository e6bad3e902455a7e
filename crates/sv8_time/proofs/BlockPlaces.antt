-- Inputs in blocks: what stands in front of a block comes before its steps, and what stands behind comes after them.
use Rattle.std.proofs.Common.{◌^◌, sym, ap, subst, ◌∙◌, ◌≡◌, refl, arith, ℕ, zero, suc, ◌+◌, ◌/◌, ◌≤◌, ◌<◌, Bool, true, false, not, cond, ◌||◌, List, [], ◌∷◌, ◌++◌, take, drop, set, get_or, length, nat_lt, ◌==◌, Some, option_map}
use Rattle.std.specs.List.{filter, list_any, slice_get, prefix_len}
use Rattle.std.proofs.lemmas.Bool.{both_ways}
use Rattle.std.proofs.lemmas.Bool.Decides.{nat_tests}
use Rattle.std.proofs.lemmas.List.Edits.{length-remove}
use Rattle.std.proofs.lemmas.List.{length-map, length-append, append_assoc, append-nil, map-append}
use Rattle.std.proofs.lemmas.List.Elements.{filter-append}
use Rattle.std.proofs.lemmas.List.Folds.{list_any-append}
use Rattle.std.proofs.lemmas.Grind.{flat_map-append}
use Rattle.sv8_time.specs.Order.{Each, Rising, passes_at}
use Rattle.sv8_time.specs.Schedule.{Input, input_of, input_before, is_input_at, has_input, put_input, cut_input, byte_count, bytes_below, input_bytes, bytes_of_step}
use Rattle.sv8_time.specs.Inputs.{starts_of, IsShort, joined, InBlocks, whole, wholes, Spread}
use Rattle.sv8_time.proofs.Parts.{each_map, each_append, each_placed, each_filter, filter_none, filter_all, any_none, rising_placed, rising_filter}
use Rattle.sv8_time.proofs.Orders.{input_order}
use Rattle.sv8_time.proofs.InputPlaces.{Counted, input_stands, input_misses, start_is, counted_replaced, map_replace, bytes_bound, count_append, length_starts, starts_append}

-- ---- blocks as single inputs

pub length_bytes : (xs : List Input) → byte_count xs ≡ length (input_bytes xs)
length_bytes [] = refl
length_bytes (x ∷ xs) = let r = length_bytes xs in let a = length-append x.bytes (input_bytes xs) in omega arith

pub count_wholes : (bs : List (List Input)) → byte_count (wholes bs) ≡ byte_count (joined bs)
count_wholes [] = refl
count_wholes (b ∷ bs) = let r = count_wholes bs in let e = length_bytes b in let a = count_append b (joined bs) in omega arith

pub bytes_wholes : (bs : List (List Input)) → input_bytes (wholes bs) ≡ input_bytes (joined bs)
bytes_wholes [] = refl
bytes_wholes (b ∷ bs) = ap (λ l. input_bytes b ++ l) (bytes_wholes bs) ∙ sym (flat_map-append (λ i. i.bytes) b (joined bs))

-- ---- what stands in front of a block and behind it

lower : (a b n q : ℕ) → a / 1024 ≡ n → n < q → q ≡ b / 1024 → nat_lt a b ≡ true
lower a b n q e l f = let g : a < b = omega arith in grind (arith, nat_tests)

upper : (a b n q : ℕ) → a / 1024 ≡ n → q < n → q ≡ b / 1024 → nat_lt b a ≡ true
upper a b n q e l f = let g : b < a = omega arith in grind (arith, nat_tests)

all_above : (step n : ℕ) (bs : List (List Input)) → InBlocks n bs → step / 1024 < n → Each (λ i. nat_lt step i.step ≡ true) (joined bs)
all_above step n [] h l = tt
all_above step n (b ∷ bs) h l =
    each_append (λ i. nat_lt step i.step ≡ true) b (joined bs)
    (each_map (λ i. i.step / 1024 ≡ n) (λ i. nat_lt step i.step ≡ true) (λ i e. upper i.step step n (step / 1024) e l refl) b h.0)
    (all_above step (n + 1) bs h.1 (omega arith))

-- the blocks that there are all come before a step past them
pub all_below : (step n : ℕ) (bs : List (List Input)) → InBlocks n bs → n + length bs ≤ step / 1024 → Each (λ i. nat_lt i.step step ≡ true) (joined bs)
all_below step n [] h l = tt
all_below step n (b ∷ bs) h l =
    each_append (λ i. nat_lt i.step step ≡ true) b (joined bs)
    (each_map (λ i. i.step / 1024 ≡ n) (λ i. nat_lt i.step step ≡ true) (λ i e. lower i.step step n (step / 1024) e (omega arith) refl) b h.0)
    (all_below step (n + 1) bs h.1 (omega arith))

pub record Apart (step : ℕ) (bs : List (List Input)) (k : ℕ) : Type 0 where
  pub parts : joined bs ≡ joined (take k bs) ++ (get_or bs k [] ++ joined (drop (suc k) bs))
  pub front : Each (λ i. nat_lt i.step step ≡ true) (joined (take k bs))
  pub back : Each (λ i. nat_lt step i.step ≡ true) (joined (drop (suc k) bs))

pub apart_at : (step n k : ℕ) (bs : List (List Input)) → InBlocks n bs → k < length bs → n + k ≡ step / 1024 → Apart step bs k
apart_at step n k [] h l e = absurd (omega arith)
apart_at step n zero (b ∷ bs) h l e = record { parts = refl; front = tt; back = all_above step (n + 1) bs h.1 (omega arith) }
apart_at step n (suc k) (b ∷ bs) h l e =
    let r = apart_at step (n + 1) k bs h.1 (omega arith) (omega arith) in
    record {
      parts = ap (λ l. b ++ l) r.parts ∙ sym (append_assoc b (joined (take k bs)) (get_or bs k [] ++ joined (drop (suc k) bs)));
      front = each_append (λ i. nat_lt i.step step ≡ true) b (joined (take k bs)) (each_map (λ i. i.step / 1024 ≡ n) (λ i. nat_lt i.step step ≡ true) (λ i f. lower i.step step n (step / 1024) f (omega arith) refl) b h.0) r.front;
      back = r.back;
    }

pub joined_set : (bs : List (List Input)) (k : ℕ) (g : List Input) → k < length bs → joined (set bs k g) ≡ joined (take k bs) ++ (g ++ joined (drop (suc k) bs))
joined_set [] k g l = absurd (omega arith)
joined_set (b ∷ bs) zero g l = refl
joined_set (b ∷ bs) (suc k) g l = ap (λ l. b ++ l) (joined_set bs k g (omega arith)) ∙ sym (append_assoc b (joined (take k bs)) (g ++ joined (drop (suc k) bs)))

pub in_block : (n k : ℕ) (bs : List (List Input)) → InBlocks n bs → k < length bs → Each (λ i. i.step / 1024 ≡ n + k) (get_or bs k [])
in_block n k [] h l = absurd (omega arith)
in_block n zero (b ∷ bs) h l = let e : n ≡ n + 0 = omega arith in subst (λ m. Each (λ i. i.step / 1024 ≡ m) b) e h.0
in_block n (suc k) (b ∷ bs) h l = let e : n + 1 + k ≡ n + suc k = omega arith in subst (λ m. Each (λ i. i.step / 1024 ≡ m) (get_or bs k [])) e (in_block (n + 1) k bs h.1 (omega arith))

pub in_set : (n k : ℕ) (bs : List (List Input)) (g : List Input) → InBlocks n bs → k < length bs → Each (λ i. i.step / 1024 ≡ n + k) g → InBlocks n (set bs k g)
in_set n k [] g h l e = absurd (omega arith)
in_set n zero (b ∷ bs) g h l e = let f : n + 0 ≡ n = omega arith in (subst (λ m. Each (λ i. i.step / 1024 ≡ m) g) f e, h.1)
in_set n (suc k) (b ∷ bs) g h l e = let f : n + suc k ≡ n + 1 + k = omega arith in (h.0, in_set (n + 1) k bs g h.1 (omega arith) (subst (λ m. Each (λ i. i.step / 1024 ≡ m) g) f e))

-- ---- what an edit or a question of one step sees

-- a test that fails in front and behind
filter_within : (p : Input → Bool) (fs g bs : List Input) → Each (λ i. p i ≡ false) fs → Each (λ i. p i ≡ false) bs → filter p (fs ++ (g ++ bs)) ≡ filter p g
filter_within p fs g bs a b = filter-append p fs (g ++ bs) ∙ rw (filter_none p fs a, filter-append p g bs, filter_none p bs b) (append-nil (filter p g))

any_within : (p : Input → Bool) (fs g bs : List Input) → Each (λ i. p i ≡ false) fs → Each (λ i. p i ≡ false) bs → list_any p (fs ++ (g ++ bs)) ≡ list_any p g
any_within p fs g bs a b = list_any-append p fs (g ++ bs) ∙ rw (any_none p fs a, list_any-append p g bs, any_none p bs b) (or_false (list_any p g))
  where
    or_false : (x : Bool) → (x || false) ≡ x
    or_false true = refl
    or_false false = refl

not_at_below : (a b : ℕ) → nat_lt a b ≡ true → (a == b) ≡ false
not_at_below a b h = grind (arith, nat_tests)

not_at_above : (a b : ℕ) → nat_lt b a ≡ true → (a == b) ≡ false
not_at_above a b h = grind (arith, nat_tests)

one_way : (a b : ℕ) → nat_lt a b ≡ true → nat_lt b a ≡ false
one_way a b h = grind (arith, nat_tests)

front_not_at : (step : ℕ) (fs : List Input) → Each (λ i. nat_lt i.step step ≡ true) fs → Each (λ i. is_input_at step i ≡ false) fs
front_not_at step fs h = each_map (λ i. nat_lt i.step step ≡ true) (λ i. is_input_at step i ≡ false) (λ i e. not_at_below i.step step e) fs h

back_not_at : (step : ℕ) (fs : List Input) → Each (λ i. nat_lt step i.step ≡ true) fs → Each (λ i. is_input_at step i ≡ false) fs
back_not_at step fs h = each_map (λ i. nat_lt step i.step ≡ true) (λ i. is_input_at step i ≡ false) (λ i e. not_at_above i.step step e) fs h

front_not_back : (step : ℕ) (fs : List Input) → Each (λ i. nat_lt i.step step ≡ true) fs → Each (λ i. nat_lt step i.step ≡ false) fs
front_not_back step fs h = each_map (λ i. nat_lt i.step step ≡ true) (λ i. nat_lt step i.step ≡ false) (λ i e. one_way i.step step e) fs h

back_not_front : (step : ℕ) (fs : List Input) → Each (λ i. nat_lt step i.step ≡ true) fs → Each (λ i. nat_lt i.step step ≡ false) fs
back_not_front step fs h = each_map (λ i. nat_lt step i.step ≡ true) (λ i. nat_lt i.step step ≡ false) (λ i e. one_way step i.step e) fs h

pub has_within : (step : ℕ) (bs : List (List Input)) (k : ℕ) → Apart step bs k → has_input step (get_or bs k []) ≡ has_input step (joined bs)
has_within step bs k h = sym (ap (has_input step) h.parts ∙ any_within (is_input_at step) _ _ _ (front_not_at step _ h.front) (back_not_at step _ h.back))

pub bytes_within : (step : ℕ) (bs : List (List Input)) (k : ℕ) → Apart step bs k → bytes_of_step step (get_or bs k []) ≡ bytes_of_step step (joined bs)
bytes_within step bs k h = ap input_bytes (sym (ap (filter (is_input_at step)) h.parts ∙ filter_within (is_input_at step) _ _ _ (front_not_at step _ h.front) (back_not_at step _ h.back)))

pub below_within : (step : ℕ) (bs : List (List Input)) (k : ℕ) → Apart step bs k → byte_count (joined (take k bs)) + bytes_below step (get_or bs k []) ≡ bytes_below step (joined bs)
below_within step bs k h =
    let p : Input → Bool = λ i. nat_lt i.step step in
    let fs = joined (take k bs) in
    let g = get_or bs k [] in
    let cs = joined (drop (suc k) bs) in
    let e : filter p (fs ++ (g ++ cs)) ≡ fs ++ filter p g =
    filter-append p fs (g ++ cs) ∙ rw (filter_all p fs h.front, filter-append p g cs, filter_none p cs (back_not_front step cs h.back)) (ap (λ l. fs ++ l) (append-nil (filter p g))) in
    count_append fs (filter p g) ∙ sym (ap byte_count (ap (filter p) h.parts ∙ e))

pub put_within : (step : ℕ) (bytes : List ℕ) (bs : List (List Input)) (k : ℕ) → Apart step bs k → k < length bs → joined (set bs k (put_input (input_of step bytes) (get_or bs k []))) ≡ put_input (input_of step bytes) (joined bs)
put_within step bytes bs k h l =
    let p : Input → Bool = λ i. nat_lt i.step step in
    let q : Input → Bool = λ i. nat_lt step i.step in
    let x = input_of step bytes in
    let fs = joined (take k bs) in
    let g = get_or bs k [] in
    let cs = joined (drop (suc k) bs) in
    let e : filter p (fs ++ (g ++ cs)) ≡ fs ++ filter p g =
    filter-append p fs (g ++ cs) ∙ rw (filter_all p fs h.front, filter-append p g cs, filter_none p cs (back_not_front step cs h.back)) (ap (λ l. fs ++ l) (append-nil (filter p g))) in
    let f : filter q (fs ++ (g ++ cs)) ≡ filter q g ++ cs =
    filter-append q fs (g ++ cs) ∙ rw (filter_none q fs (front_not_back step fs h.front), filter-append q g cs, filter_all q cs h.back) refl in
    joined_set bs k (put_input x g) l
    ∙ (ap (λ l. fs ++ l) (append_assoc (filter p g) (x ∷ filter q g) cs) ∙ (sym (append_assoc fs (filter p g) (x ∷ filter q g ++ cs))
    ∙ sym (ap (put_input x) h.parts ∙ (ap (λ l. l ++ x ∷ filter q (fs ++ (g ++ cs))) e ∙ ap (λ l. (fs ++ filter p g) ++ x ∷ l) f))))

pub cut_within : (step : ℕ) (bs : List (List Input)) (k : ℕ) → Apart step bs k → k < length bs → joined (set bs k (cut_input step (get_or bs k []))) ≡ cut_input step (joined bs)
cut_within step bs k h l =
    let p : Input → Bool = λ i. not (is_input_at step i) in
    let fs = joined (take k bs) in
    let g = get_or bs k [] in
    let cs = joined (drop (suc k) bs) in
    let a = each_map (λ i. is_input_at step i ≡ false) (λ i. p i ≡ true) (λ i e. ap not e) fs (front_not_at step fs h.front) in
    let c = each_map (λ i. is_input_at step i ≡ false) (λ i. p i ≡ true) (λ i e. ap not e) cs (back_not_at step cs h.back) in
    joined_set bs k (cut_input step g) l
    ∙ sym (ap (filter p) h.parts ∙ (filter-append p fs (g ++ cs) ∙ rw (filter_all p fs a, filter-append p g cs, filter_all p cs c) refl))

-- ---- past the last block there is nothing

pub has_past : (step : ℕ) (xs : List Input) → Each (λ i. nat_lt i.step step ≡ true) xs → false ≡ has_input step xs
has_past step xs h = sym (any_none (is_input_at step) xs (front_not_at step xs h))

pub bytes_past : (step : ℕ) (xs : List Input) → Each (λ i. nat_lt i.step step ≡ true) xs → [] ≡ bytes_of_step step xs
bytes_past step xs h = ap input_bytes (sym (filter_none (is_input_at step) xs (front_not_at step xs h)))

pub below_past : (step : ℕ) (xs : List Input) → Each (λ i. nat_lt i.step step ≡ true) xs → byte_count xs ≡ bytes_below step xs
below_past step xs h = ap byte_count (sym (filter_all (λ i. nat_lt i.step step) xs h))

-- ---- places of blocks

-- the bytes of the block at a place
pub whole_at : (bs : List (List Input)) (k : ℕ) (g : List Input) → k < length bs → g ≡ get_or bs k g → option_map (λ i. i.bytes) (slice_get (wholes bs) k) ≡ Some (input_bytes g)
whole_at [] k g l e = absurd (omega arith)
whole_at (b ∷ bs) zero g l e = rw (sym e) refl
whole_at (b ∷ bs) (suc k) g l e = whole_at bs k g (omega arith) e

pub count_before : (bs : List (List Input)) (k : ℕ) → byte_count (take k (wholes bs)) ≡ byte_count (joined (take k bs))
count_before [] zero = refl
count_before [] (suc k) = refl
count_before (b ∷ bs) zero = refl
count_before (b ∷ bs) (suc k) = let r = count_before bs k in let e = length_bytes b in let a = count_append b (joined (take k bs)) in omega arith

-- ---- what an edit keeps

pub fits_word : (xs : List Input) → Each IsShort xs → length xs ≤ 65536 → byte_count xs < 2 ^ 32
fits_word xs h f = let b = bytes_bound xs h in omega arith

-- one more block without inputs
pub joined_more : (bs : List (List Input)) → joined (bs ++ [] ∷ []) ≡ joined bs
joined_more [] = refl
joined_more (b ∷ bs) = ap (λ l. b ++ l) (joined_more bs)

in_more : (n : ℕ) (bs : List (List Input)) → InBlocks n bs → InBlocks n (bs ++ [] ∷ [])
in_more n [] h = (tt, tt)
in_more n (b ∷ bs) h = (h.0, in_more (n + 1) bs h.1)

starts_grown : (bs : List (List Input)) → starts_of 0 (wholes (bs ++ [] ∷ [])) ≡ starts_of 0 (wholes bs) ++ byte_count (wholes bs) ∷ []
starts_grown bs =
    let e : 0 + byte_count (wholes bs) ≡ byte_count (wholes bs) = omega arith in
    ap (starts_of 0) (map-append whole bs ([] ∷ [])) ∙ (starts_append 0 (wholes bs) (whole [] ∷ []) ∙ ap (λ n. starts_of 0 (wholes bs) ++ n ∷ []) e)

pub spread_more : (bs : List (List Input)) (starts : List ℕ) (total count : ℕ) → Spread bs starts total count → Spread (bs ++ [] ∷ []) (starts ++ total ∷ []) total count
spread_more bs starts total count h =
    let j = joined_more bs in
    record {
      in_blocks = in_more 0 bs h.in_blocks;
      rising = subst (λ l. Rising input_before l) (sym j) h.rising;
      short = subst (λ l. Each IsShort l) (sym j) h.short;
      few = subst (λ l. length l ≤ 65536) (sym j) h.few;
      count_is = h.count_is ∙ ap length (sym j);
      starts_are = rw (h.starts_are, h.total_is) (sym (starts_grown bs));
      total_is = h.total_is ∙ (count_wholes bs ∙ (ap byte_count (sym j) ∙ sym (count_wholes (bs ++ [] ∷ []))));
    }

-- ---- starts of blocks

pub length_wholes : (bs : List (List Input)) (starts : List ℕ) → starts ≡ starts_of 0 (wholes bs) → length starts ≡ length bs
length_wholes bs starts e = ap length e ∙ (length_starts 0 (wholes bs) ∙ length-map bs whole)

pub start_of : (bs : List (List Input)) (starts : List ℕ) (k s : ℕ) → starts ≡ starts_of 0 (wholes bs) → slice_get starts k ≡ Some s → s ≡ byte_count (joined (take k bs))
start_of bs starts k s e g = let h : slice_get (starts_of 0 (wholes bs)) k ≡ Some s = rw e at g in start_is (wholes bs) k s h ∙ count_before bs k

below_all : (step : ℕ) (xs : List Input) → bytes_below step xs ≤ byte_count xs
below_all step [] = omega arith
below_all step (x ∷ xs) = elim (nat_lt x.step step) as (λ b. byte_count (cond b (x ∷ filter (λ i. nat_lt i.step step) xs) (filter (λ i. nat_lt i.step step) xs)) ≤ length x.bytes + byte_count xs) [
  | true ↦ let r = below_all step xs in omega arith
  | false ↦ let r = below_all step xs in omega arith
]

pub below_fits : (step : ℕ) (xs : List Input) → Each IsShort xs → length xs ≤ 65536 → bytes_below step xs < 2 ^ 32
below_fits step xs h f = let b = below_all step xs in let c = fits_word xs h f in omega arith

-- ---- an edit of one block

pub counted_set : (bs : List (List Input)) (starts : List ℕ) (k before : ℕ) (g : List Input) → starts ≡ starts_of 0 (wholes bs) → slice_get starts k ≡ Some before → Counted starts before k (wholes (set bs k g))
counted_set bs starts k before g s e =
    let h : slice_get (starts_of 0 (wholes bs)) k ≡ Some before = rw s at e in
    subst (λ l. Counted starts before k l) (sym (map_replace whole bs k g)) (counted_replaced starts before k (wholes bs) (whole g) s (start_is (wholes bs) k before h))

prefix_bound : (p : Input → Bool) (xs : List Input) → prefix_len p xs ≤ length xs
prefix_bound p [] = omega arith
prefix_bound p (x ∷ xs) = elim (p x) as (λ b. cond b (1 + prefix_len p xs) 0 ≤ suc (length xs)) [
  | true ↦ let r = prefix_bound p xs in omega arith
  | false ↦ omega arith
]

pub put_length : (step : ℕ) (bytes : List ℕ) (xs : List Input) → Rising input_before xs → length (put_input (input_of step bytes) xs) ≡ cond (has_input step xs) (length xs) (length xs + 1)
put_length step bytes xs h = go (passes_at (is_input_at step) xs i) refl
  where
    i : ℕ
    i = prefix_len (λ x. nat_lt x.step step) xs

    go : (b : Bool) → passes_at (is_input_at step) xs i ≡ b → length (put_input (input_of step bytes) xs) ≡ cond (has_input step xs) (length xs) (length xs + 1)
    go true e = let t = input_stands step bytes xs i h refl e in rw t.present t.count
    go false e = let t = input_misses step bytes xs i h refl (prefix_bound (λ x. nat_lt x.step step) xs) e in rw t.absent t.count

pub cut_length : (step : ℕ) (xs : List Input) → Rising input_before xs → has_input step xs ≡ true → length (cut_input step xs) + 1 ≡ length xs
cut_length step xs h p = go (passes_at (is_input_at step) xs i) refl
  where
    i : ℕ
    i = prefix_len (λ x. nat_lt x.step step) xs

    go : (b : Bool) → passes_at (is_input_at step) xs i ≡ b → length (cut_input step xs) + 1 ≡ length xs
    go true e = let t = input_stands step [] xs i h refl e in let w = t.within in omega (arith, ap length t.removed, length-remove xs i t.within)
    go false e = let t = input_misses step [] xs i h refl (prefix_bound (λ x. nat_lt x.step step) xs) e in absurd (both_ways (has_input step xs) t.absent p)

pub part_le : (step : ℕ) (bs : List (List Input)) (k : ℕ) → Apart step bs k → length (get_or bs k []) ≤ length (joined bs)
part_le step bs k h =
    let fs = joined (take k bs) in
    let g = get_or bs k [] in
    let cs = joined (drop (suc k) bs) in
    omega (arith, ap length h.parts, length-append fs (g ++ cs), length-append g cs)

-- what holds of blocks, but for the counts
pub record Sorted (bs : List (List Input)) : Type 0 where
  pub in_blocks : InBlocks 0 bs
  pub rising : Rising input_before (joined bs)
  pub short : Each IsShort (joined bs)
  pub few : length (joined bs) ≤ 65536
  pub fits : byte_count (wholes bs) < 2 ^ 32

sorted_fits : (bs : List (List Input)) → Each IsShort (joined bs) → length (joined bs) ≤ 65536 → byte_count (wholes bs) < 2 ^ 32
sorted_fits bs h f = let e = count_wholes bs in let g = fits_word (joined bs) h f in omega arith

few_put : (b : Bool) (n m : ℕ) → m ≡ cond b n (n + 1) → n ≤ 65536 → (b ≡ false → n < 65536) → m ≤ 65536
few_put true n m e f r = omega arith
few_put false n m e f r = let l = r refl in omega arith

pub sorted_put : (step : ℕ) (bytes : List ℕ) (bs : List (List Input)) (starts : List ℕ) (total count k : ℕ) → Spread bs starts total count → k < length bs → k ≡ step / 1024 → length bytes ≤ 1024
    → (has_input step (joined bs) ≡ false → length (joined bs) < 65536) → Sorted (set bs k (put_input (input_of step bytes) (get_or bs k [])))
sorted_put step bytes bs starts total count k s l e b room =
    let new = set bs k (put_input (input_of step bytes) (get_or bs k [])) in
    let apart = apart_at step 0 k bs s.in_blocks l (omega arith) in
    let same : joined new ≡ put_input (input_of step bytes) (joined bs) = put_within step bytes bs k apart l in
    let short : Each IsShort (joined new) = subst (λ l. Each IsShort l) (sym same) (each_placed IsShort input_before (input_of step bytes) (joined bs) b s.short) in
    let few : length (joined new) ≤ 65536 = few_put (has_input step (joined bs)) (length (joined bs)) (length (joined new)) (ap length same ∙ put_length step bytes (joined bs) s.rising) s.few room in
    record {
      in_blocks = in_set 0 k bs (put_input (input_of step bytes) (get_or bs k [])) s.in_blocks l (each_placed (λ i. i.step / 1024 ≡ 0 + k) input_before (input_of step bytes) (get_or bs k []) (omega arith) (in_block 0 k bs s.in_blocks l));
      rising = subst (λ l. Rising input_before l) (sym same) (rising_placed input_before input_order (input_of step bytes) (joined bs) s.rising);
      short = short;
      few = few;
      fits = sorted_fits new short few;
    }

pub sorted_cut : (step : ℕ) (bs : List (List Input)) (starts : List ℕ) (total count k : ℕ) → Spread bs starts total count → k < length bs → k ≡ step / 1024 → has_input step (joined bs) ≡ true → Sorted (set bs k (cut_input step (get_or bs k [])))
sorted_cut step bs starts total count k s l e p =
    let new = set bs k (cut_input step (get_or bs k [])) in
    let apart = apart_at step 0 k bs s.in_blocks l (omega arith) in
    let same : joined new ≡ cut_input step (joined bs) = cut_within step bs k apart l in
    let short : Each IsShort (joined new) = subst (λ l. Each IsShort l) (sym same) (each_filter IsShort (λ y. not (is_input_at step y)) (joined bs) s.short) in
    let few : length (joined new) ≤ 65536 = omega (arith, ap length same, cut_length step (joined bs) s.rising p, s.few) in
    record {
      in_blocks = in_set 0 k bs (cut_input step (get_or bs k [])) s.in_blocks l (each_filter (λ i. i.step / 1024 ≡ 0 + k) (λ y. not (is_input_at step y)) (get_or bs k []) (in_block 0 k bs s.in_blocks l));
      rising = subst (λ l. Rising input_before l) (sym same) (rising_filter input_before (λ y. not (is_input_at step y)) (joined bs) s.rising);
      short = short;
      few = few;
      fits = sorted_fits new short few;
    }
