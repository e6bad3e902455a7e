-- An edit of the source, word by word: the bytes of RAM that get another value.
use Rattle.std.proofs.Common.{◌≡◌, ◌∙◌, ℕ, zero, suc, ◌+◌, ◌*◌, ◌/◌, ◌%◌, ◌^◌, ◌<◌, ◌≤◌, ◌==◌, Bool, true, false, List, [], ◌∷◌, ◌++◌, length, get_or, drop, refl, sym, ap, ap₂, arith, append_assoc, add-one, drop-cons, eq-eqb, subst}
use Rattle.std.specs.Int.{w32, from_be_bytes}
use Rattle.std.specs.Prelude.{if◌then◌else◌}
use Rattle.std.specs.List.{All, range_with_len, flat_map}
use Rattle.std.proofs.lemmas.Bool.Decides.{nat_tests}
use Rattle.std.proofs.lemmas.List.FromFn.{get_or-map-range_with_len}
use Rattle.std.proofs.lemmas.List.{append-nil, drop_all}
use Rattle.std.proofs.lemmas.List.Elements.{All-nil, All-cons}
use Rattle.sv8_history.specs.Changes.{Change}
use Rattle.sv8_time.specs.Schedule.{Schedule}
use Rattle.sv8_phys.specs.Memory.{ram_size}
use Rattle.sv8_phys.specs.Contents.{AreContents}
use Rattle.sv8_source.specs.declared.image.Change as source
use Rattle.sv8_source.specs.Listing.{ListedLine, listing}
use Rattle.sv8_source.specs.Text.{Text}
use Rattle.sv8_source.specs.Image.{byte_at, word_at, change_at, changed, changes, words, image_byte, image_bytes}
use Rattle.sv8_cpu.specs.State.{State}
use Rattle.sv8_cpu.specs.Recorded.{machine}
use Rattle.sv8_reset.specs.Reset.{reset_state}
use Rattle.sv8_edits.specs.Changes.{image_byte_changes, image_changes}

-- what a word of the image changes, where RAM has the new bytes
abbrev pub word_changes : (windows pages : ℕ) → List ℕ → Schedule → source.Change → List (Change (machine windows pages))
word_changes windows pages ram s w =
    image_byte_changes windows pages w.address (w.old / 2 ^ 24 % 2 ^ 8) (get_or ram w.address 0) s
    ++ image_byte_changes windows pages (w.address + 1) (w.old / 2 ^ 16 % 2 ^ 8) (get_or ram (w.address + 1) 0) s
    ++ image_byte_changes windows pages (w.address + 2) (w.old / 2 ^ 8 % 2 ^ 8) (get_or ram (w.address + 2) 0) s
    ++ image_byte_changes windows pages (w.address + 3) (w.old % 2 ^ 8) (get_or ram (w.address + 3) 0) s

-- one word more
pub words_more : {X A : Type 0} (f : X → List A) (xs : List X) (i : ℕ) (d : X) (now next whole : List A) → i < length xs → now ++ flat_map f (drop i xs) ≡ whole
    → next ≡ now ++ f (get_or xs i d) → next ++ flat_map f (drop (i + 1) xs) ≡ whole
words_more f xs i d now next whole l e g =
    let there : drop i xs ≡ get_or xs i d ∷ drop (i + 1) xs = rw add-one (drop-cons xs i d l) in
    ap (λ ys. ys ++ flat_map f (drop (i + 1) xs)) g ∙ append_assoc now (f (get_or xs i d)) (flat_map f (drop (i + 1) xs)) ∙ ap (λ ys. now ++ flat_map f ys) (sym there) ∙ e

-- all of them
pub words_all : {X A : Type 0} (f : X → List A) (xs : List X) (i : ℕ) (now whole : List A) → length xs ≤ i → now ++ flat_map f (drop i xs) ≡ whole → now ≡ whole
words_all f xs i now whole l e =
    let none : drop i xs ≡ [] = drop_all i xs l in
    sym (append-nil now) ∙ ap (λ ys. now ++ flat_map f ys) (sym none) ∙ e

pub four_more : {A : Type 0} (xs a b c d : List A) → xs ++ a ++ b ++ c ++ d ≡ xs ++ (a ++ b ++ c ++ d)
four_more xs a b c d =
    append_assoc (xs ++ a ++ b) c d ∙ append_assoc (xs ++ a) b (c ++ d) ∙ append_assoc xs a (b ++ (c ++ d))
    ∙ ap (λ ys. xs ++ ys) (sym (append_assoc (a ++ b) c d ∙ append_assoc a b (c ++ d)))

-- ---- a word and its bytes

record AreBytesOf (w a b c d : ℕ) : Type 0 where
  first : w / 2 ^ 24 % 2 ^ 8 ≡ a
  second : w / 2 ^ 16 % 2 ^ 8 ≡ b
  third : w / 2 ^ 8 % 2 ^ 8 ≡ c
  fourth : w % 2 ^ 8 ≡ d

bytes_of : (w a b c d : ℕ) → a < 256 → b < 256 → c < 256 → d < 256 → w ≡ from_be_bytes w32 (a ∷ b ∷ c ∷ d ∷ []) → AreBytesOf w a b c d
bytes_of w a b c d ha hb hc hd e = record {
  first = omega (arith, e, ha, hb, hc, hd);
  second = omega (arith, e, ha, hb, hc, hd);
  third = omega (arith, e, ha, hb, hc, hd);
  fourth = omega (arith, e, ha, hb, hc, hd);
}

-- ---- the image

module _ (windows pages size : ℕ) (s : Schedule) (before after : List ListedLine) (old new : ℕ → ℕ)
    (old_is : (a : ℕ) → a < size → byte_at before a ≡ old a) (new_is : (a : ℕ) → a < size → byte_at after a ≡ new a)
    (old_small : (a : ℕ) → old a < 256) (new_small : (a : ℕ) → new a < 256) where
  abbrev at_byte : ℕ → List (Change (machine windows pages))
  at_byte a = image_byte_changes windows pages a (old a) (new a) s

  abbrev at_word : source.Change → List (Change (machine windows pages))
  at_word w =
      image_byte_changes windows pages w.address (w.old / 2 ^ 24 % 2 ^ 8) (new w.address) s
      ++ image_byte_changes windows pages (w.address + 1) (w.old / 2 ^ 16 % 2 ^ 8) (new (w.address + 1)) s
      ++ image_byte_changes windows pages (w.address + 2) (w.old / 2 ^ 8 % 2 ^ 8) (new (w.address + 2)) s
      ++ image_byte_changes windows pages (w.address + 3) (w.old % 2 ^ 8) (new (w.address + 3)) s

  old_bytes : (a : ℕ) → a + 4 ≤ size → AreBytesOf (word_at before a) (old a) (old (a + 1)) (old (a + 2)) (old (a + 3))
  unfolding word_at
  old_bytes a h =
      bytes_of (word_at before a) (old a) (old (a + 1)) (old (a + 2)) (old (a + 3)) (old_small a) (old_small (a + 1)) (old_small (a + 2)) (old_small (a + 3))
      (rw (old_is a (omega (arith, h)), old_is (a + 1) (omega (arith, h)), old_is (a + 2) (omega (arith, h)), old_is (a + 3) (omega (arith, h))) refl)

  new_bytes : (a : ℕ) → a + 4 ≤ size → AreBytesOf (word_at after a) (new a) (new (a + 1)) (new (a + 2)) (new (a + 3))
  unfolding word_at
  new_bytes a h =
      bytes_of (word_at after a) (new a) (new (a + 1)) (new (a + 2)) (new (a + 3)) (new_small a) (new_small (a + 1)) (new_small (a + 2)) (new_small (a + 3))
      (rw (new_is a (omega (arith, h)), new_is (a + 1) (omega (arith, h)), new_is (a + 2) (omega (arith, h)), new_is (a + 3) (omega (arith, h))) refl)

  -- a byte that stays changes nothing
  same_byte : (a : ℕ) → old a ≡ new a → at_byte a ≡ []
  same_byte a e = rw (eq-eqb (old a) (new a) e) refl

  -- the bytes of a word that stays
  same_word : (a : ℕ) → a + 4 ≤ size → word_at before a ≡ word_at after a → at_byte a ++ at_byte (a + 1) ++ at_byte (a + 2) ++ at_byte (a + 3) ≡ []
  same_word a h e =
      let p = old_bytes a h in
      let q = new_bytes a h in
      rw (
        same_byte a (sym p.first ∙ ap (λ w. w / 2 ^ 24 % 2 ^ 8) e ∙ q.first),
        same_byte (a + 1) (sym p.second ∙ ap (λ w. w / 2 ^ 16 % 2 ^ 8) e ∙ q.second),
        same_byte (a + 2) (sym p.third ∙ ap (λ w. w / 2 ^ 8 % 2 ^ 8) e ∙ q.third),
        same_byte (a + 3) (sym p.fourth ∙ ap (λ w. w % 2 ^ 8) e ∙ q.fourth),
      ) refl

  -- .. and of one that may change
  other_word : (a : ℕ) → a + 4 ≤ size → at_word (change_at before after a) ≡ at_byte a ++ at_byte (a + 1) ++ at_byte (a + 2) ++ at_byte (a + 3)
  other_word a h =
      let p = old_bytes a h in rw (p.first, p.second, p.third, p.fourth) refl

  -- four bytes more
  four_bytes : (a n : ℕ) → flat_map at_byte (range_with_len a (suc (suc (suc (suc n)))))
      ≡ (at_byte a ++ at_byte (a + 1) ++ at_byte (a + 2) ++ at_byte (a + 3)) ++ flat_map at_byte (range_with_len (a + 4) n)
  four_bytes a n =
      let second : a + 1 + 1 ≡ a + 2 = omega arith in
      let third : a + 2 + 1 ≡ a + 3 = omega arith in
      let fourth : a + 3 + 1 ≡ a + 4 = omega arith in
      rw (second, third, fourth, append_assoc, append_assoc, append_assoc) refl

  words_are_bytes : (n k : ℕ) → 4 * k + 4 * n ≡ size → flat_map at_word (changed before after k n) ≡ flat_map at_byte (range_with_len (4 * k) (4 * n))
  unfolding changed
  words_are_bytes zero k all = refl
  words_are_bytes (suc n) k all =
      go (words_are_bytes n (k + 1) (omega (arith, all))) (word_at before (4 * k) == word_at after (4 * k)) refl ∙ sym (four_bytes (4 * k) (4 * n))
      ∙ ap (λ m. flat_map at_byte (range_with_len (4 * k) m)) more
    where
      more : suc (suc (suc (suc (4 * n)))) ≡ 4 * suc n
      more = omega arith

      inside : 4 * k + 4 ≤ size
      inside = omega (arith, all)

      next : 4 * (k + 1) ≡ 4 * k + 4
      next = omega arith

      go : flat_map at_word (changed before after (k + 1) n) ≡ flat_map at_byte (range_with_len (4 * (k + 1)) (4 * n)) → (b : Bool) → (word_at before (4 * k) == word_at after (4 * k)) ≡ b
          → flat_map at_word (if b then changed before after (k + 1) n else (change_at before after (4 * k) ∷ changed before after (k + 1) n))
          ≡ (at_byte (4 * k) ++ at_byte (4 * k + 1) ++ at_byte (4 * k + 2) ++ at_byte (4 * k + 3)) ++ flat_map at_byte (range_with_len (4 * k + 4) (4 * n))
      go later true e =
          later ∙ ap (λ a. flat_map at_byte (range_with_len a (4 * n))) next
          ∙ ap (λ ys. ys ++ flat_map at_byte (range_with_len (4 * k + 4) (4 * n))) (sym (same_word (4 * k) inside (grind (arith, nat_tests))))
      go later false e = ap₂ (λ xs ys. xs ++ ys) (other_word (4 * k) inside) (later ∙ ap (λ a. flat_map at_byte (range_with_len a (4 * n))) next)

image_changes_are : (windows pages : ℕ) (s : Schedule) (old new : Text) → old.limit ≡ ram_size pages → AreContents pages (reset_state windows pages old).memory
    → AreContents pages (reset_state windows pages new).memory
    → flat_map (word_changes windows pages (reset_state windows pages new).memory.ram s) (changes old new) ≡ image_changes windows pages old new s
unfolding changes image_byte reset_state
image_changes_are windows pages s old new limit before after =
    let size = ram_size pages in
    let many : words old.limit ≡ 1024 * pages = omega (arith, limit) in
    ap (λ n. flat_map (word_changes windows pages (image_bytes new size) s) (changed (listing old) (listing new) 0 n)) many
    ∙ words_are_bytes windows pages size s (listing old) (listing new) (λ a. get_or (image_bytes old size) a 0) (λ a. get_or (image_bytes new size) a 0)
    (λ a l. sym (get_or-map-range_with_len (image_byte old) 0 size a a 0 l (omega arith))) (λ a l. sym (get_or-map-range_with_len (image_byte new) 0 size a a 0 l (omega arith)))
    before.bytes after.bytes (1024 * pages) 0 (omega arith)
    ∙ ap (λ n. image_changes_to n) (omega arith)
  where
    image_changes_to : ℕ → List (Change (machine windows pages))
    image_changes_to n =
        flat_map
        (λ a. image_byte_changes windows pages a (get_or (image_bytes old (ram_size pages)) a 0) (get_or (image_bytes new (ram_size pages)) a 0) s)
        (range_with_len 0 n)

-- What the words of the image change is what an edit of the source changes.
pub words_are_image : (windows pages : ℕ) (s : Schedule) (old new : Text) (ws : List source.Change) (reset : State) → old.limit ≡ ram_size pages → ws ≡ changes old new
    → reset ≡ reset_state windows pages new → AreContents pages (reset_state windows pages old).memory → AreContents pages reset.memory
    → flat_map (word_changes windows pages reset.memory.ram s) ws ≡ image_changes windows pages old new s
words_are_image windows pages s old new ws reset limit e f before after =
    ap₂ (λ (r : State) xs. flat_map (word_changes windows pages r.memory.ram s) xs) f e
    ∙ image_changes_are windows pages s old new limit before (subst (λ (r : State). AreContents pages r.memory) f after)

-- Every word of the image lies in RAM.
changed_inside : (size : ℕ) (before after : List ListedLine) (n k : ℕ) → 4 * k + 4 * n ≡ size → All (λ w. w.address + 4 ≤ size) (changed before after k n)
unfolding changed
changed_inside size before after zero k all = All-nil (λ w. w.address + 4 ≤ size)
changed_inside size before after (suc n) k all = go (changed_inside size before after n (k + 1) (omega (arith, all))) (word_at before (4 * k) == word_at after (4 * k))
  where
    go : All (λ w. w.address + 4 ≤ size) (changed before after (k + 1) n) → (b : Bool)
        → All (λ w. w.address + 4 ≤ size) (if b then changed before after (k + 1) n else (change_at before after (4 * k) ∷ changed before after (k + 1) n))
    go later true = later
    go later false = All-cons (λ w. w.address + 4 ≤ size) (change_at before after (4 * k)) (changed before after (k + 1) n) (omega (arith, all)) later

pub changes_inside : (pages : ℕ) (old new : Text) → old.limit ≡ ram_size pages → All (λ w. w.address + 4 ≤ ram_size pages) (changes old new)
unfolding changes
changes_inside pages old new limit =
    let many : 4 * 0 + 4 * words old.limit ≡ ram_size pages = omega (arith, limit) in
    changed_inside (ram_size pages) (listing old) (listing new) (words old.limit) 0 many
