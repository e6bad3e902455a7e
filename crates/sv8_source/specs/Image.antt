-- The image of a listing, and the words in which two images differ.
use Rattle.std.specs.Prelude.{map, ℕ, zero, suc, ◌+◌, ◌-◌, ◌*◌, ◌/◌, ◌≤◌, ◌==◌, List, [], ◌∷◌, length, Bool, nat_le, nat_lt, ◌&&◌, slice_index, if◌then◌else◌}
use Rattle.std.specs.List.{range_with_len}
use Rattle.std.specs.Int.{w32, from_be_bytes}
use Rattle.sv8_source.specs.declared.image.Change.{Change}
use Rattle.sv8_source.specs.Listing.{ListedLine, listing}
use Rattle.sv8_source.specs.Text.{Text}

-- a line places a byte at an address
abbrev pub covers : ListedLine → ℕ → Bool
covers l a = nat_le l.address a && nat_lt a (l.address + length l.bytes)

-- the byte at an address: that of the line that places one there, and 0 where no line does
abbrev pub byte_at : List ListedLine → ℕ → ℕ
byte_at [] a = 0
byte_at (l ∷ ls) a = if covers l a then slice_index l.bytes (a - l.address) else byte_at ls a

-- the four bytes from an address on, the first the most significant
unfoldable pub word_at : List ListedLine → ℕ → ℕ
word_at ls a = from_be_bytes w32 (byte_at ls a ∷ byte_at ls (a + 1) ∷ byte_at ls (a + 2) ∷ byte_at ls (a + 3) ∷ [])

-- the word at an address in two listings
abbrev pub change_at : List ListedLine → List ListedLine → ℕ → Change
change_at old new a = record { address = a; old = word_at old a; new = word_at new a }

-- the changed ones of n words from number k on, in rising address
unfoldable pub changed : List ListedLine → List ListedLine → ℕ → ℕ → List Change
changed old new k zero = []
changed old new k (suc n) =
    if word_at old (4 * k) == word_at new (4 * k) then changed old new (k + 1) n
    else change_at old new (4 * k) ∷ changed old new (k + 1) n

-- how many words an image of this size has, the last one perhaps in part
abbrev pub words : ℕ → ℕ
words limit = (limit + 3) / 4

-- each line begins behind the bytes of those before it, from an address on
abbrev pub Rising : ℕ → List ListedLine → Type 0
Rising from [] = Unit {0}
Rising from (l ∷ ls) = (from ≤ l.address) × Rising (l.address + length l.bytes) ls

-- the word of a source's image at an address
unfoldable pub image_word : Text → ℕ → ℕ
image_word s a = word_at (listing s) a

-- the byte of a source's image at an address
unfoldable pub image_byte : Text → ℕ → ℕ
image_byte s a = byte_at (listing s) a

-- the first n bytes of a source's image
abbrev pub image_bytes : Text → ℕ → List ℕ
image_bytes s n = map (image_byte s) (range_with_len 0 n)

-- the words in which the images of two sources differ, in rising address
unfoldable pub changes : Text → Text → List Change
changes from to = changed (listing from) (listing to) 0 (words from.limit)

-- a plan: what the source becomes, and the words that differ
pub record Edit : Type 0 where
  pub to : Text
  pub changes : List Change
