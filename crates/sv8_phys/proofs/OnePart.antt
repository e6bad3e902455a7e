-- An access of a list of bytes is one of the part that it falls in.
use Rattle.std.proofs.Common.{◌≡◌, ℕ, ◌+◌, ◌*◌, ◌/◌, ◌%◌, ◌<◌, List, ◌++◌, length, get_or, set, take, drop, refl, sym, ap, ap₂, ◌∙◌, arith, length-set}
use Rattle.std.proofs.lemmas.List.{get_or-take, get_or-drop, drop-set-add, drop-set-lt, take-set-le, append_assoc}
use Rattle.std.proofs.Math.Seq.{take-set-lt}
use borrow.Rule.Slice.PartMut.{put_same}
use Rattle.std.proofs.lemmas.List.{drop-drop}
use Rattle.sv8_model.specs.Outside.{word_of, with_word, with_byte}
use Rattle.sv8_model.specs.declared.size.Size.{Size}
use Rattle.sv8_model.specs.declared.size.Size.TheVariants.{Byte, Half, Word, Double}
use Rattle.sv8_model.specs.Size.{bytes_in}
use Rattle.sv8_phys.specs.Memory.{value_at, with_value}
use Rattle.sv8_phys.specs.Parts.{part_of, with_part}
use Rattle.sv8_phys.proofs.Sizes.{IsSize}

-- byte i of the part that begins at m is byte a of the whole
module _ (a m i size : ℕ) (e : a ≡ m + i) (inside : i < size) (start : m % 8 ≡ 0) (eighth : size % 8 ≡ 0) where
  next_byte : a + 1 ≡ m + (i + 1)
  next_byte = omega arith

  half_inside : a % 2 ≡ 0 → i + 1 < size
  half_inside h = omega arith

  word_place : a % 4 ≡ 0 → 4 * (a / 4) ≡ m + 4 * (i / 4)
  word_place h = omega arith

  word_inside : a % 4 ≡ 0 → 4 * (i / 4) + 3 < size
  word_inside h = omega arith

  next_place : a % 8 ≡ 0 → 4 * (a / 4 + 1) ≡ m + 4 * (i / 4 + 1)
  next_place h = omega arith

  next_inside : a % 8 ≡ 0 → 4 * (i / 4 + 1) + 3 < size
  next_inside h = omega arith

module _ (size : ℕ) (bytes : List ℕ) (p : ℕ) where
  byte_read : (a i : ℕ) → a ≡ size * p + i → i < size → get_or (part_of size bytes p) i 0 ≡ get_or bytes a 0
  byte_read a i e i_in = get_or-take size (drop (size * p) bytes) i 0 i_in ∙ get_or-drop (size * p) bytes i 0 ∙ ap (λ k. get_or bytes k 0) (sym e)

  pub word_read : (k l : ℕ) → 4 * k ≡ size * p + 4 * l → 4 * l + 3 < size → word_of (part_of size bytes p) l ≡ word_of bytes k
  unfolding word_of
  word_read k l e l_in =
      let e0 = byte_read (4 * k) (4 * l) e (omega arith) in
      let e1 = byte_read (4 * k + 1) (4 * l + 1) (omega arith) (omega arith) in
      let e2 = byte_read (4 * k + 2) (4 * l + 2) (omega arith) (omega arith) in
      let e3 = byte_read (4 * k + 3) (4 * l + 3) (omega arith) (omega arith) in
      cc

module _ (size : ℕ) (s : IsSize size) (bytes : List ℕ) (a : ℕ) where
  -- the number at an address, read in its part
  pub value_in_part : (width : Size) → a % bytes_in width ≡ 0 → value_at width (a % size) (part_of size bytes (a / size)) ≡ value_at width a bytes
  unfolding value_at
  value_in_part Byte h = byte_read size bytes (a / size) a (a % size) (s.place a) (s.rest a)
  value_in_part Half h =
      let p = a / size in
      let i = a % size in
      let e0 = byte_read size bytes p a i (s.place a) (s.rest a) in
      let e1 = byte_read size bytes p (a + 1) (i + 1) (next_byte a (size * p) i size (s.place a) (s.rest a) (s.start p) s.eighth) (half_inside a (size * p) i size (s.place a) (s.rest a) (s.start p) s.eighth h) in
      cc
  value_in_part Word h =
      let p = a / size in
      let i = a % size in
      let m = size * p in
      word_read size bytes p (a / 4) (i / 4) (word_place a m i size (s.place a) (s.rest a) (s.start p) s.eighth h) (word_inside a m i size (s.place a) (s.rest a) (s.start p) s.eighth h)
  value_in_part Double h =
      let p = a / size in
      let i = a % size in
      let m = size * p in
      let whole : a % 4 ≡ 0 = omega arith in
      let e0 = word_read size bytes p (a / 4) (i / 4) (word_place a m i size (s.place a) (s.rest a) (s.start p) s.eighth whole) (word_inside a m i size (s.place a) (s.rest a) (s.start p) s.eighth whole) in
      let e1 = word_read size bytes p (a / 4 + 1) (i / 4 + 1) (next_place a m i size (s.place a) (s.rest a) (s.start p) s.eighth h) (next_inside a m i size (s.place a) (s.rest a) (s.start p) s.eighth h) in
      cc

-- `new` differs from `bytes` in part p alone, which is `part`
record Differs (size : ℕ) (bytes : List ℕ) (p : ℕ) (new part : List ℕ) : Type 0 where
  inside : part_of size new p ≡ part
  low : take (size * p) new ≡ take (size * p) bytes
  high : drop (size * p + size) new ≡ drop (size * p + size) bytes

-- a list from its three parts
joined : (a k : ℕ) (xs : List ℕ) → take a xs ++ take k (drop a xs) ++ drop (a + k) xs ≡ xs
joined a k xs =
    append_assoc (take a xs) (take k (drop a xs)) (drop (a + k) xs)
    ∙ ap (λ ys. take a xs ++ (take k (drop a xs) ++ ys)) (sym (drop-drop k a xs))
    ∙ put_same a k xs

module _ (size : ℕ) (bytes : List ℕ) (p : ℕ) where
  differs_not : Differs size bytes p bytes (part_of size bytes p)
  differs_not = record { inside = refl; low = refl; high = refl }

  differs : (new part : List ℕ) → Differs size bytes p new part → with_part size bytes p part ≡ new
  differs new part d =
      ap₂ (λ xs ys. xs ++ part ++ ys) (sym d.low) (sym d.high)
      ∙ ap (λ bs. take (size * p) new ++ bs ++ drop (size * p + size) new) (sym d.inside)
      ∙ joined (size * p) size new

  differs_byte : (new part : List ℕ) (a i v : ℕ) → a ≡ size * p + i → i < size → Differs size bytes p new part → Differs size bytes p (set new a v) (set part i v)
  differs_byte new part a i v e i_in d = record {
    inside = ap (λ k. take size (drop (size * p) (set new k v))) e
        ∙ ap (take size) (drop-set-add (size * p) new i v)
        ∙ take-set-lt size (drop (size * p) new) i v i_in
        ∙ ap (λ bs. set bs i v) d.inside;
    low = take-set-le (size * p) new a v (omega arith) ∙ d.low;
    high = drop-set-lt (size * p + size) new a v (omega arith) ∙ d.high;
  }

  differs_word : (new part : List ℕ) (k l v : ℕ) → 4 * k ≡ size * p + 4 * l → 4 * l + 3 < size → Differs size bytes p new part
      → Differs size bytes p (with_word new k v) (with_word part l v)
  unfolding with_word
  differs_word new part k l v e l_in d =
      differs_byte _ _ (4 * k + 3) (4 * l + 3) _ (omega arith) (omega arith)
      (differs_byte _ _ (4 * k + 2) (4 * l + 2) _ (omega arith) (omega arith)
      (differs_byte _ _ (4 * k + 1) (4 * l + 1) _ (omega arith) (omega arith)
      (differs_byte new part (4 * k) (4 * l) _ e (omega arith) d)))

module _ (size : ℕ) (s : IsSize size) (a v : ℕ) (bytes : List ℕ) where
  -- a number put at an address, written in its part
  differs_value : (width : Size) → a % bytes_in width ≡ 0 → Differs size bytes (a / size) (with_value width a v bytes) (with_value width (a % size) v (part_of size bytes (a / size)))
  unfolding with_value with_byte
  differs_value Byte h = differs_byte size bytes (a / size) bytes _ a (a % size) _ (s.place a) (s.rest a) (differs_not size bytes (a / size))
  differs_value Half h =
      let p = a / size in
      let i = a % size in
      differs_byte size bytes p _ _ (a + 1) (i + 1) _ (next_byte a (size * p) i size (s.place a) (s.rest a) (s.start p) s.eighth) (half_inside a (size * p) i size (s.place a) (s.rest a) (s.start p) s.eighth h)
      (differs_byte size bytes p bytes _ a i _ (s.place a) (s.rest a) (differs_not size bytes p))
  differs_value Word h =
      let p = a / size in
      let i = a % size in
      let m = size * p in
      differs_word size bytes p bytes _ (a / 4) (i / 4) _ (word_place a m i size (s.place a) (s.rest a) (s.start p) s.eighth h)
      (word_inside a m i size (s.place a) (s.rest a) (s.start p) s.eighth h) (differs_not size bytes p)
  differs_value Double h =
      let p = a / size in
      let i = a % size in
      let m = size * p in
      let whole : a % 4 ≡ 0 = omega arith in
      differs_word size bytes p _ _ (a / 4 + 1) (i / 4 + 1) _ (next_place a m i size (s.place a) (s.rest a) (s.start p) s.eighth h)
      (next_inside a m i size (s.place a) (s.rest a) (s.start p) s.eighth h)
      (differs_word size bytes p bytes _ (a / 4) (i / 4) _ (word_place a m i size (s.place a) (s.rest a) (s.start p) s.eighth whole)
      (word_inside a m i size (s.place a) (s.rest a) (s.start p) s.eighth whole) (differs_not size bytes p))

  pub put_in_part : (width : Size) → a % bytes_in width ≡ 0
      → with_part size bytes (a / size) (with_value width (a % size) v (part_of size bytes (a / size))) ≡ with_value width a v bytes
  put_in_part width h = differs size bytes (a / size) (with_value width a v bytes) _ (differs_value width h)

-- a number written in a list of bytes leaves its length
pub length-with_value : (width : Size) (a v : ℕ) (bytes : List ℕ) → length (with_value width a v bytes) ≡ length bytes
unfolding with_value with_byte with_word
length-with_value Byte a v bytes = simp length-set
length-with_value Half a v bytes = simp length-set
length-with_value Word a v bytes = simp length-set
length-with_value Double a v bytes = simp length-set
