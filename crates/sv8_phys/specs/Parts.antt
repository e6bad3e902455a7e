-- RAM in groups, groups in halves of pages, and halves in blocks: lists of bytes in parts of equal size, behind their handles.
use Rattle.std.specs.Prelude.{◌≡◌, ℕ, ◌+◌, ◌*◌, ◌/◌, ◌%◌, ◌<◌, List, [], ◌++◌, map, take, drop, slice_index, slice_index_or, slice_set, flat_map}
use Rattle.std.specs.List.{range_with_len}
use Rattle.std.specs.declared.rc.Rc.{Rc}
use Rattle.std.specs.declared.alloc.Global.{Global}
use Rattle.sv8_phys.specs.declared.block.Block.{Block}
use Rattle.sv8_phys.specs.declared.half_page.HalfPage.{HalfPage}
use Rattle.sv8_phys.specs.declared.halves.Halves.{Halves}
use Rattle.sv8_phys.specs.declared.group.Group.{Group}
use Rattle.sv8_model.specs.declared.size.Size.{Size}
use Rattle.sv8_phys.specs.Memory.{ram_size, with_value, with_page}

-- part number p
abbrev pub part_at : List (List ℕ) → ℕ → List ℕ
part_at parts p = slice_index_or parts p []

-- the bytes of so many parts of `size` bytes, in order
unfoldable pub all_bytes : ℕ → ℕ → List (List ℕ) → List ℕ
all_bytes size count parts = map (λ a. slice_index (part_at parts (a / size)) (a % size)) (range_with_len 0 (size * count))

-- part number p of a list of bytes
abbrev pub part_of : ℕ → List ℕ → ℕ → List ℕ
part_of size bytes p = take size (drop (size * p) bytes)

-- a list of bytes with other bytes in a part
abbrev pub with_part : ℕ → List ℕ → ℕ → List ℕ → List ℕ
with_part size bytes p part = take (size * p) bytes ++ part ++ drop (size * p + size) bytes

-- the bytes of each block
abbrev pub blocks_of : List (Rc Block Global) → List (List ℕ)
blocks_of handles = map (λ h. h.value.bytes) handles

-- the bytes of a half of a page
abbrev pub half_bytes : HalfPage → List ℕ
half_bytes half = all_bytes 128 16 (blocks_of half.blocks)

-- the bytes of each half
abbrev pub halves_of : List (Rc HalfPage Global) → List (List ℕ)
halves_of handles = map (λ h. half_bytes h.value) handles

-- the bytes of a page
abbrev pub page_bytes : Halves → List ℕ
page_bytes page = all_bytes 2048 2 (halves_of page.halves)

-- the bytes of each half of some groups, in order
abbrev pub groups_halves : List (Rc Group Global) → List (List ℕ)
groups_halves handles = flat_map (λ h. halves_of h.value.halves) handles

-- the bytes of so many pages of RAM, from those of their halves; halves behind the last one are of zeros
abbrev pub ram_bytes : ℕ → List (List ℕ) → List ℕ
ram_bytes pages halves = all_bytes 2048 (2 * pages) halves

-- ---- what becomes of halves

-- the low bytes of a number are written at a place in them
abbrev pub with_value_in : Size → ℕ → ℕ → List (List ℕ) → List (List ℕ)
with_value_in size at value halves = slice_set halves (at / 2048) (with_value size (at % 2048) value (part_at halves (at / 2048)))

-- and of RAM, for however many pages there are

-- RAM has the bytes that it had
abbrev pub IsSame : List (List ℕ) → List (List ℕ) → Type 0
IsSame old new = (pages : ℕ) → ram_bytes pages new ≡ ram_bytes pages old

-- the low bytes of a number are written at an address
abbrev pub IsWritten : Size → ℕ → ℕ → List (List ℕ) → List (List ℕ) → Type 0
IsWritten size at value old new = (pages : ℕ) → at < ram_size pages → ram_bytes pages new ≡ with_value size at value (ram_bytes pages old)

-- a page is put in the place of another one
abbrev pub IsPut : ℕ → Halves → List (List ℕ) → List (List ℕ) → Type 0
IsPut page halves old new = (pages : ℕ) → page < pages → ram_bytes pages new ≡ with_page (ram_bytes pages old) page (page_bytes halves)
