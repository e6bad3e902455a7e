-- RAM as one list of bytes: what an access of each size finds there, and what it leaves. Numbers of more than one byte have their
-- most significant byte at the lowest address (SPARC is big-endian).
use Rattle.std.specs.Prelude.{ℕ, ◌+◌, ◌*◌, ◌/◌, ◌%◌, ◌^◌, List, ◌++◌, take, drop, slice_index}
use Rattle.sv8_model.specs.Outside.{word_of, with_word, with_byte}
use Rattle.sv8_model.specs.declared.size.Size.{Size}
use Rattle.sv8_model.specs.declared.size.Size.TheVariants.{Byte, Half, Word, Double}

-- the bytes of RAM in so many pages of 4,096
abbrev pub ram_size : ℕ → ℕ
ram_size pages = 4096 * pages

-- the number at an address
unfoldable pub value_at : Size → ℕ → List ℕ → ℕ
value_at Byte a ram = slice_index ram a
value_at Half a ram = slice_index ram a * 2 ^ 8 + slice_index ram (a + 1)
value_at Word a ram = word_of ram (a / 4)
value_at Double a ram = word_of ram (a / 4) * 2 ^ 32 + word_of ram (a / 4 + 1)

-- RAM with the low bytes of a number at an address
unfoldable pub with_value : Size → ℕ → ℕ → List ℕ → List ℕ
with_value Byte a v ram = with_byte ram a v
with_value Half a v ram = with_byte (with_byte ram a (v / 2 ^ 8)) (a + 1) v
with_value Word a v ram = with_word ram (a / 4) (v % 2 ^ 32)
with_value Double a v ram = with_word (with_word ram (a / 4) (v / 2 ^ 32 % 2 ^ 32)) (a / 4 + 1) (v % 2 ^ 32)

-- the bytes of a page
abbrev pub page_of : List ℕ → ℕ → List ℕ
page_of ram page = take 4096 (drop (4096 * page) ram)

-- RAM with other bytes in a page
abbrev pub with_page : List ℕ → ℕ → List ℕ → List ℕ
with_page ram page bytes = take (4096 * page) ram ++ bytes ++ drop (4096 * page + 4096) ram
