-- The places of inputs, and the numbers of bytes before them.
use Rattle.std.proofs.Common.{length-set, ◌^◌, ◌⊎◌, inl, inr, nat_le, sym, ap, subst, ◌∙◌, ◌≡◌, refl, arith, ℕ, zero, suc, ◌+◌, ◌-◌, ◌*◌, ◌≤◌, ◌<◌, Bool, true, false, not, cond, ◌&&◌, List, [], ◌∷◌, ◌++◌, map, take, drop, set, get_or, length, nat_lt, ◌==◌, Option, Some, None, one-add, option_map}
use Rattle.std.specs.List.{prefix_len, filter, insert, remove, slice_get}
use Rattle.std.specs.Option.{option_to_list}
use Rattle.std.proofs.lemmas.Bool.{leb-true, leb-false}
use Rattle.std.proofs.lemmas.List.Edits.{length-insert, length-remove}
use Rattle.std.proofs.lemmas.Bool.Decides.{nat_tests}
use Rattle.std.proofs.lemmas.List.{take-set, take-append-le, take-append-drop, map-append, map-set, take-map, drop-map, drop_more, take_more_set, append_assoc, append-nil}
use Rattle.sv8_time.specs.Order.{Each, Rising, Stands, Misses, passes_at}
use Rattle.sv8_time.specs.Schedule.{Input, input_of, input_before, is_input_at, byte_count, bytes_below, input_bytes}
use Rattle.sv8_time.specs.Inputs.{starts_of, IsShort}
use Rattle.sv8_time.proofs.Parts.{each_placed, each_filter, Parted, parted_rising, filter_none}
use Rattle.sv8_time.proofs.Places.{stands_at, misses_at}
use Rattle.sv8_time.proofs.Orders.{input_order}

pub prefix_map : {X Y : Type 0} (p : Y → Bool) (f : X → Y) (xs : List X) → prefix_len p (map f xs) ≡ prefix_len (λ x. p (f x)) xs
prefix_map p f [] = refl
prefix_map p f (x ∷ xs) = rw (prefix_map p f xs) refl

pub map_replace : {X Y : Type 0} (f : X → Y) (xs : List X) (i : ℕ) (x : X) → map f (set xs i x) ≡ set (map f xs) i (f x)
map_replace f xs i x = map-set f xs i x

pub map_insert : {X Y : Type 0} (f : X → Y) (xs : List X) (i : ℕ) (x : X) → map f (insert xs i x) ≡ insert (map f xs) i (f x)
map_insert f xs i x = map-append f (take i xs) (x ∷ drop i xs) ∙ rw (take-map f i xs, drop-map f i xs) refl

pub map_remove : {X Y : Type 0} (f : X → Y) (xs : List X) (i : ℕ) → map f (remove xs i) ≡ remove (map f xs) i
map_remove f xs i = map-append f (take i xs) (drop (suc i) xs) ∙ rw (take-map f i xs, drop-map f (suc i) xs) refl

same_step : (a b : ℕ) → (a == b) ≡ (not (nat_lt a b) && not (nat_lt b a))
same_step a b = grind (arith, nat_tests)

pub input_stands : (step : ℕ) (bytes : List ℕ) (xs : List Input) (i : ℕ) → Rising input_before xs → i ≡ prefix_len (λ x. nat_lt x.step step) xs → passes_at (is_input_at step) xs i ≡ true
    → Stands input_before (is_input_at step) (input_of step bytes) xs i
input_stands step bytes xs i h e t = stands_at input_before (is_input_at step) (input_of step bytes) input_order (λ x. same_step x.step step) xs h i e t

pub input_misses : (step : ℕ) (bytes : List ℕ) (xs : List Input) (i : ℕ) → Rising input_before xs → i ≡ prefix_len (λ x. nat_lt x.step step) xs → i ≤ length xs → passes_at (is_input_at step) xs i ≡ false
    → Misses input_before (is_input_at step) (input_of step bytes) xs i
input_misses step bytes xs i h e l t = misses_at input_before (is_input_at step) (input_of step bytes) input_order (λ x. same_step x.step step) xs h i e l t

lt_stays : (a b n : ℕ) → nat_lt a b ≡ true → nat_lt a n ≡ false → nat_lt b n ≡ false
lt_stays a b n h e = grind (arith, nat_tests)

pub inputs_below : (step : ℕ) (xs : List Input) → Rising input_before xs → Parted (λ x. nat_lt x.step step) xs
inputs_below step xs h = parted_rising input_before (λ x. nat_lt x.step step) (λ x y b e. lt_stays x.step y.step step b e) xs h

-- the part that passes is a front of the list
pub filter_front : {X : Type 0} (p : X → Bool) (xs : List X) → Parted p xs → filter p xs ≡ take (prefix_len p xs) xs
filter_front p [] h = refl
filter_front p (x ∷ xs) h = go (filter_front p xs h.1) (p x) refl
  where
    go : filter p xs ≡ take (prefix_len p xs) xs → (b : Bool) → p x ≡ b → filter p (x ∷ xs) ≡ take (prefix_len p (x ∷ xs)) (x ∷ xs)
    go ih true e = rw (e, one-add) (ap (λ l. x ∷ l) ih)
    go ih false e = rw e (filter_none p xs (h.0 e))

pub start_at : (n : ℕ) (xs : List Input) (i s : ℕ) → slice_get (starts_of n xs) i ≡ Some s → s ≡ n + byte_count (take i xs)
start_at n [] i s h = absurd (cc)
start_at n (x ∷ xs) zero s h = some_is n s h ∙ omega arith
  where
    some_is : (a b : ℕ) → Some a ≡ Some b → b ≡ a + 0
    some_is a b e = let f : a ≡ b = cc in omega arith
start_at n (x ∷ xs) (suc i) s h = let r = start_at (n + length x.bytes) xs i s h in omega arith

pub no_start : (n : ℕ) (xs : List Input) (i : ℕ) → slice_get (starts_of n xs) i ≡ None → take i xs ≡ xs
no_start n [] zero h = refl
no_start n [] (suc i) h = refl
no_start n (x ∷ xs) zero h = absurd (cc)
no_start n (x ∷ xs) (suc i) h = ap (λ l. x ∷ l) (no_start (n + length x.bytes) xs i h)

pub start_is : (xs : List Input) (i s : ℕ) → slice_get (starts_of 0 xs) i ≡ Some s → s ≡ byte_count (take i xs)
start_is xs i s g = let r = start_at 0 xs i s g in omega arith

pub start_past : (xs : List Input) (i : ℕ) → slice_get (starts_of 0 xs) i ≡ None → byte_count xs ≡ byte_count (take i xs)
start_past xs i g = rw (no_start 0 xs i g) refl

pub below_front : (before : ℕ) (xs : List Input) → Rising input_before xs → byte_count (take (prefix_len (λ x. nat_lt x.step before) xs) xs) ≡ bytes_below before xs
below_front before xs h = ap byte_count (sym (filter_front (λ x. nat_lt x.step before) xs (inputs_below before xs h)))

-- the bytes fit a word
pub bytes_bound : (xs : List Input) → Each IsShort xs → byte_count xs ≤ 1024 * length xs
bytes_bound [] h = omega arith
bytes_bound (x ∷ xs) h = let r = bytes_bound xs h.1 in let s = h.0 in omega arith

each_mapped : {X Y : Type 0} (P : Y → Type 0) (f : X → Y) (xs : List X) → Each P (map f xs) → Each (λ x. P (f x)) xs
each_mapped P f [] h = tt
each_mapped P f (x ∷ xs) h = (h.0, each_mapped P f xs h.1)

pub parted_map : {X Y : Type 0} (p : Y → Bool) (f : X → Y) (xs : List X) → Parted p (map f xs) → Parted (λ x. p (f x)) xs
parted_map p f [] h = tt
parted_map p f (x ∷ xs) h = (λ e. each_mapped (λ y. p y ≡ false) f xs (h.0 e), parted_map p f xs h.1)

pub drop_mapped : {X Y : Type 0} (f : X → Y) (xs : List X) (n : ℕ) (x : X) → n < length xs → x ≡ get_or xs n x → drop n (map f xs) ≡ f x ∷ drop (n + 1) (map f xs)
drop_mapped f xs n x l e = drop-map f n xs ∙ (ap (λ l. map f l) (drop_more xs n x l) ∙ rw (sym e, drop-map f (n + 1) xs) refl)

-- one more start
pub starts_more : (starts : List ℕ) (total n : ℕ) (inputs : List Input) (x : Input) (all : List ℕ) → n < length starts → drop n inputs ≡ x ∷ drop (n + 1) inputs → take n starts ++ starts_of total (drop n inputs) ≡ all
    → take (n + 1) (set starts n total) ++ starts_of (total + length x.bytes) (drop (n + 1) inputs) ≡ all
starts_more starts total n inputs x all l e h = rw (take_more_set starts n total l, append_assoc (take n starts) (total ∷ []) (starts_of (total + length x.bytes) (drop (n + 1) inputs))) (rw e at h)

pub count_more : (total n : ℕ) (inputs : List Input) (x : Input) (all : ℕ) → drop n inputs ≡ x ∷ drop (n + 1) inputs → total + byte_count (drop n inputs) ≡ all → total + length x.bytes + byte_count (drop (n + 1) inputs) ≡ all
count_more total n inputs x all e h = let g : total + (length x.bytes + byte_count (drop (n + 1) inputs)) ≡ all = rw e at h in omega arith

-- the bytes before those of an input are no more than the bytes before a later one
starts_above : (low n : ℕ) → low ≤ n → (xs : List Input) → Each (λ s. nat_le low s ≡ true) (starts_of n xs)
starts_above low n h [] = tt
starts_above low n h (x ∷ xs) = (le_test low n h, starts_above low (n + length x.bytes) (omega arith) xs)
  where
    le_test : (a b : ℕ) → a ≤ b → nat_le a b ≡ true
    le_test a b l = grind (arith, nat_tests)

pub starts_rise : (n : ℕ) (xs : List Input) → Rising nat_le (starts_of n xs)
starts_rise n [] = tt
starts_rise n (x ∷ xs) = (starts_above n (n + length x.bytes) (omega arith) xs, starts_rise (n + length x.bytes) xs)

above_not : (a b n : ℕ) → nat_le a b ≡ true → nat_le a n ≡ false → nat_le b n ≡ false
above_not a b n h e = grind (arith, nat_tests)

pub starts_parted : (byte : ℕ) (starts : List ℕ) → Rising nat_le starts → Parted (λ s. nat_le s byte) starts
starts_parted byte starts h = parted_rising nat_le (λ s. nat_le s byte) (λ x y b e. above_not x y byte b e) starts h

pub length_starts : (n : ℕ) (xs : List Input) → length (starts_of n xs) ≡ length xs
length_starts n [] = refl
length_starts n (x ∷ xs) = ap suc (length_starts (n + length x.bytes) xs)

pub get_left : {X : Type 0} (xs ys : List X) (i : ℕ) → i < length xs → slice_get (xs ++ ys) i ≡ slice_get xs i
get_left [] ys i l = absurd (omega arith)
get_left (x ∷ xs) ys zero l = refl
get_left (x ∷ xs) ys (suc i) l = get_left xs ys i (omega arith)

pub get_right : {X : Type 0} (xs ys : List X) (i : ℕ) → slice_get (xs ++ ys) (length xs + i) ≡ slice_get ys i
get_right [] ys i = let e : 0 + i ≡ i = omega arith in rw e refl
get_right (x ∷ xs) ys i = let e : suc (length xs) + i ≡ suc (length xs + i) = omega arith in rw e (get_right xs ys i)

-- the start of the first input counted is at or below the byte
first_le : (byte n m : ℕ) (xs : List Input) → prefix_len (λ t. nat_le t byte) (starts_of n xs) ≡ suc m → n ≤ byte
first_le byte n m [] e = absurd (omega arith)
first_le byte n m (x ∷ xs) e = go (nat_le n byte) refl e
  where
    go : (b : Bool) → nat_le n byte ≡ b → cond b (1 + prefix_len (λ t. nat_le t byte) (starts_of (n + length x.bytes) xs)) 0 ≡ suc m → n ≤ byte
    go true f e = leb-true n byte f
    go false f e = absurd (omega arith)

-- where none is counted there is none, or the first begins above the byte
none_le : (byte n : ℕ) (xs : List Input) → prefix_len (λ t. nat_le t byte) (starts_of n xs) ≡ 0 → (xs ≡ []) ⊎ (byte < n)
none_le byte n [] e = inl refl
none_le byte n (x ∷ xs) e = go (nat_le n byte) refl e
  where
    go : (b : Bool) → nat_le n byte ≡ b → cond b (1 + prefix_len (λ t. nat_le t byte) (starts_of (n + length x.bytes) xs)) 0 ≡ 0 → ((x ∷ xs) ≡ []) ⊎ (byte < n)
    go true f e = absurd (omega arith)
    go false f e = inr (leb-false n byte f)

rest_count : (byte n m : ℕ) (x : Input) (xs : List Input) → prefix_len (λ t. nat_le t byte) (starts_of n (x ∷ xs)) ≡ suc m → prefix_len (λ t. nat_le t byte) (starts_of (n + length x.bytes) xs) ≡ m
rest_count byte n m x xs e = go (nat_le n byte) refl e
  where
    go : (b : Bool) → nat_le n byte ≡ b → cond b (1 + prefix_len (λ t. nat_le t byte) (starts_of (n + length x.bytes) xs)) 0 ≡ suc m → prefix_len (λ t. nat_le t byte) (starts_of (n + length x.bytes) xs) ≡ m
    go true f e = omega arith
    go false f e = absurd (omega arith)

last_bytes : (byte n : ℕ) (y : Input) (xs : List Input) → n ≤ byte → (xs ≡ []) ⊎ (byte < n + length y.bytes) → slice_get (y.bytes ++ input_bytes xs) (byte - n) ≡ slice_get y.bytes (byte - n)
last_bytes byte n y xs l (inl e) = rw (e, append-nil y.bytes) refl
last_bytes byte n y xs l (inr h) = get_left y.bytes (input_bytes xs) (byte - n) (omega arith)

-- the input of a byte is the last one that begins at or below it
byte_found : (byte n : ℕ) (xs : List Input) (m s : ℕ) (bytes : List ℕ) → prefix_len (λ t. nat_le t byte) (starts_of n xs) ≡ suc m → option_map (λ i. i.bytes) (slice_get xs m) ≡ Some bytes → slice_get (starts_of n xs) m ≡ Some s
    → slice_get (input_bytes xs) (byte - n) ≡ slice_get bytes (byte - s)
byte_found byte n [] m s bytes e f g = absurd (cc)
byte_found byte n (y ∷ xs) zero s bytes e f g =
    let b : y.bytes ≡ bytes = cc in
    let d : n ≡ s = cc in
    last_bytes byte n y xs (first_le byte n 0 (y ∷ xs) e) (none_le byte (n + length y.bytes) xs (rest_count byte n 0 y xs e)) ∙ rw (b, d) refl
byte_found byte n (y ∷ xs) (suc m) s bytes e f g =
    let r = rest_count byte n (suc m) y xs e in
    let l = first_le byte (n + length y.bytes) m xs r in
    let d : byte - n ≡ length y.bytes + (byte - (n + length y.bytes)) = omega arith in
    rw d (get_right y.bytes (input_bytes xs) (byte - (n + length y.bytes))) ∙ byte_found byte (n + length y.bytes) xs m s bytes r f g

start_le : (byte n : ℕ) (xs : List Input) (m s : ℕ) → prefix_len (λ t. nat_le t byte) (starts_of n xs) ≡ suc m → slice_get (starts_of n xs) m ≡ Some s → s ≤ byte
start_le byte n [] m s e g = absurd (cc)
start_le byte n (y ∷ xs) zero s e g =
    let d : n ≡ s = cc in
    rw (sym d) (first_le byte n 0 (y ∷ xs) e)
start_le byte n (y ∷ xs) (suc m) s e g = start_le byte (n + length y.bytes) xs m s (rest_count byte n (suc m) y xs e) g

no_byte : (byte : ℕ) (xs : List Input) → prefix_len (λ t. nat_le t byte) (starts_of 0 xs) ≡ 0 → slice_get (input_bytes xs) byte ≡ None
no_byte byte xs e = elim (none_le byte 0 xs e) [
  | inl h ↦ rw h refl
  | inr h ↦ absurd (omega arith)
]

counted_one : (byte count : ℕ) (starts : List ℕ) (xs : List Input) → starts ≡ starts_of 0 xs → count ≡ prefix_len (λ t. nat_le t byte) starts → (count ≡ 0 → ⊥) → prefix_len (λ t. nat_le t byte) (starts_of 0 xs) ≡ suc (count - 1)
counted_one byte count starts xs s e z =
    let f : count ≡ prefix_len (λ t. nat_le t byte) (starts_of 0 xs) = rw s at e in
    let g : count ≡ suc (count - 1) = omega (arith, z) in
    sym f ∙ g

-- the same by the number of inputs that begin at or below the byte
pub byte_in_last : (byte count s : ℕ) (starts : List ℕ) (xs : List Input) (bytes : List ℕ) → starts ≡ starts_of 0 xs → count ≡ prefix_len (λ t. nat_le t byte) starts → (count ≡ 0 → ⊥)
    → slice_get starts (count - 1) ≡ Some s → option_map (λ i. i.bytes) (slice_get xs (count - 1)) ≡ Some bytes → slice_get bytes (byte - s) ≡ slice_get (input_bytes xs) byte
byte_in_last byte count s starts xs bytes same e z g f =
    let h : slice_get (starts_of 0 xs) (count - 1) ≡ Some s = rw same at g in
    let k : byte - 0 ≡ byte = omega arith in
    sym (byte_found byte 0 xs (count - 1) s bytes (counted_one byte count starts xs same e z) f h) ∙ ap (λ n. slice_get (input_bytes xs) n) k

pub last_start_le : (byte count s : ℕ) (starts : List ℕ) (xs : List Input) → starts ≡ starts_of 0 xs → count ≡ prefix_len (λ t. nat_le t byte) starts → (count ≡ 0 → ⊥) → slice_get starts (count - 1) ≡ Some s → s ≤ byte
last_start_le byte count s starts xs same e z g =
    let h : slice_get (starts_of 0 xs) (count - 1) ≡ Some s = rw same at g in
    start_le byte 0 xs (count - 1) s (counted_one byte count starts xs same e z) h

pub no_byte_in : (byte count : ℕ) (starts : List ℕ) (xs : List Input) → starts ≡ starts_of 0 xs → count ≡ prefix_len (λ t. nat_le t byte) starts → count ≡ 0 → None ≡ slice_get (input_bytes xs) byte
no_byte_in byte count starts xs same e z =
    let f : count ≡ prefix_len (λ t. nat_le t byte) (starts_of 0 xs) = rw same at e in
    sym (no_byte byte xs (sym f ∙ z))

-- what an edit keeps

pub record Fresh (l : List Input) : Type 0 where
  pub rising : Rising input_before l
  pub short : Each IsShort l
  pub few : length l ≤ 65536
  pub fits : byte_count l < 2 ^ 32

fits_word : (l : List Input) → Each IsShort l → length l ≤ 65536 → byte_count l < 2 ^ 32
fits_word l h f = let b = bytes_bound l h in omega arith

pub fresh_replaced : (step : ℕ) (bytes : List ℕ) (g : List Input) (i : ℕ) → length bytes ≤ 1024 → Each IsShort g → length g ≤ 65536 → Stands input_before (is_input_at step) (input_of step bytes) g i → Fresh (set g i (input_of step bytes))
fresh_replaced step bytes g i b h f t =
    let short : Each IsShort (set g i (input_of step bytes)) = subst (λ l. Each IsShort l) t.replaced (each_placed IsShort input_before (input_of step bytes) g b h) in
    let few : length (set g i (input_of step bytes)) ≤ 65536 = omega (arith, length-set g i (input_of step bytes)) in
    record { rising = t.rising; short = short; few = few; fits = fits_word _ short few }

pub fresh_inserted : (step : ℕ) (bytes : List ℕ) (g : List Input) (i : ℕ) → length bytes ≤ 1024 → Each IsShort g → length g < 65536 → Misses input_before (is_input_at step) (input_of step bytes) g i → Fresh (insert g i (input_of step bytes))
fresh_inserted step bytes g i b h f t =
    let short : Each IsShort (insert g i (input_of step bytes)) = subst (λ l. Each IsShort l) t.inserted (each_placed IsShort input_before (input_of step bytes) g b h) in
    let few : length (insert g i (input_of step bytes)) ≤ 65536 = omega (arith, length-insert g i (input_of step bytes) t.within) in
    record { rising = t.rising; short = short; few = few; fits = fits_word _ short few }

pub fresh_removed : (step : ℕ) (bytes : List ℕ) (g : List Input) (i : ℕ) → Each IsShort g → length g ≤ 65536 → Stands input_before (is_input_at step) (input_of step bytes) g i → Fresh (remove g i)
fresh_removed step bytes g i h f t =
    let short : Each IsShort (remove g i) = subst (λ l. Each IsShort l) t.removed (each_filter IsShort (λ y. not (is_input_at step y)) g h) in
    let few : length (remove g i) ≤ 65536 = omega (arith, length-remove g i t.within) in
    record { rising = t.rising_rest; short = short; few = few; fits = fits_word _ short few }

-- the bytes of the one input of a step
pub alone_bytes : (same : Input → Bool) (g : List Input) (i : ℕ) (bytes : List ℕ) → filter same g ≡ option_to_list (slice_get g i) → option_map (λ x. x.bytes) (slice_get g i) ≡ Some bytes → bytes ≡ input_bytes (filter same g)
alone_bytes same g i bytes e f = rw e (go (slice_get g i) f)
  where
    go : (o : Option Input) → option_map (λ x. x.bytes) o ≡ Some bytes → bytes ≡ input_bytes (option_to_list o)
    go None f = absurd (cc)
    go (Some x) f = let b : x.bytes ≡ bytes = cc in rw (append-nil x.bytes) (sym b)

-- an input's bytes are few
pub short_at : (g : List Input) (i : ℕ) (bytes : List ℕ) → Each IsShort g → option_map (λ x. x.bytes) (slice_get g i) ≡ Some bytes → length bytes ≤ 1024
short_at [] i bytes h e = absurd (cc)
short_at (x ∷ g) zero bytes h e = let b : x.bytes ≡ bytes = cc in subst (λ l. length l ≤ 1024) b h.0
short_at (x ∷ g) (suc i) bytes h e = short_at g i bytes h.1 e

-- what stands in front of a place is counted already

take_starts : (n i : ℕ) (xs : List Input) → take i (starts_of n xs) ≡ starts_of n (take i xs)
take_starts n zero xs = refl
take_starts n (suc i) [] = refl
take_starts n (suc i) (x ∷ xs) = ap (λ l. n ∷ l) (take_starts (n + length x.bytes) i xs)

pub starts_append : (n : ℕ) (xs ys : List Input) → starts_of n (xs ++ ys) ≡ starts_of n xs ++ starts_of (n + byte_count xs) ys
starts_append n [] ys = let e : n ≡ n + 0 = omega arith in ap (λ m. starts_of m ys) e
starts_append n (x ∷ xs) ys =
    let e : n + length x.bytes + byte_count xs ≡ n + (length x.bytes + byte_count xs) = omega arith in
    ap (λ l. n ∷ l) (starts_append (n + length x.bytes) xs ys ∙ ap (λ m. starts_of (n + length x.bytes) xs ++ starts_of m ys) e)

pub count_append : (xs ys : List Input) → byte_count xs + byte_count ys ≡ byte_count (xs ++ ys)
count_append [] ys = omega arith
count_append (x ∷ xs) ys = let r = count_append xs ys in omega arith

pub record Counted (starts : List ℕ) (before i : ℕ) (g : List Input) : Type 0 where
  pub front : take i starts ++ starts_of before (drop i g) ≡ starts_of 0 g
  pub sum : before + byte_count (drop i g) ≡ byte_count g

-- the front of the old starts serves a list with the same front
counted : (starts : List ℕ) (before i : ℕ) (old g : List Input) → take i starts ≡ take i (starts_of 0 old) → take i g ≡ take i old → before ≡ byte_count (take i old) → Counted starts before i g
counted starts before i old g s e b =
    let parts : take i g ++ drop i g ≡ g = take-append-drop i g in
    let zero_is : 0 + byte_count (take i g) ≡ byte_count (take i g) = omega arith in
    record {
      front = rw (s, take_starts 0 i old, sym e, b, sym e, sym zero_is) (sym (starts_append 0 (take i g) (drop i g)) ∙ ap (starts_of 0) parts);
      sum = rw (b, sym e) (count_append (take i g) (drop i g) ∙ ap byte_count parts);
    }

take_front : {X : Type 0} (i : ℕ) (xs ys : List X) → i ≤ length xs → take i (take i xs ++ ys) ≡ take i xs
take_front zero xs ys l = refl
take_front (suc i) [] ys l = absurd (omega arith)
take_front (suc i) (x ∷ xs) ys l = ap (λ l. x ∷ l) (take_front i xs ys (omega arith))

pub counted_replaced : (starts : List ℕ) (before i : ℕ) (old : List Input) (x : Input) → starts ≡ starts_of 0 old → before ≡ byte_count (take i old) → Counted starts before i (set old i x)
counted_replaced starts before i old x s b = counted starts before i old (set old i x) (ap (take i) s) (take-set old i x) b

pub counted_inserted : (starts : List ℕ) (before i : ℕ) (old : List Input) (x : Input) → i ≤ length old → starts ≡ starts_of 0 old ++ 0 ∷ [] → before ≡ byte_count (take i old) → Counted starts before i (insert old i x)
counted_inserted starts before i old x l s b =
    counted starts before i old (insert old i x) (ap (take i) s ∙ take-append-le i (starts_of 0 old) (0 ∷ []) (let e = length_starts 0 old in omega arith)) (take_front i old (x ∷ drop i old) l) b

pub counted_removed : (starts : List ℕ) (before i : ℕ) (old : List Input) → i ≤ length old → starts ≡ remove (starts_of 0 old) i → before ≡ byte_count (take i old) → Counted starts before i (remove old i)
counted_removed starts before i old l s b =
    counted starts before i old (remove old i) (ap (take i) s ∙ take_front i (starts_of 0 old) (drop (suc i) (starts_of 0 old)) (let e = length_starts 0 old in omega arith)) (take_front i old (drop (suc i) old) l) b
