-- Blocks and halves of pages behind their handles, and pages.
use Rattle.std.proofs.Common.{◌≡◌, ℕ, ◌+◌, ◌-◌, ◌*◌, ◌/◌, ◌%◌, ◌<◌, List, ◌++◌, length, get_or, take, drop, true, sym, ap, ◌∙◌, arith}
use Rattle.std.proofs.lemmas.List.{drop-drop, drop-take, take-take}
use Rattle.std.proofs.Math.Seq.{take-add}
use Rattle.std.specs.declared.rc.Rc.{Rc}
use Rattle.std.specs.declared.alloc.Global.{Global}
use Rattle.sv8_model.proofs.Common.{IsByte}
use Rattle.sv8_phys.specs.declared.block.Block.{Block}
use Rattle.sv8_phys.specs.declared.half_page.HalfPage.{HalfPage}
use Rattle.sv8_phys.specs.declared.halves.Halves.{Halves}
use Rattle.sv8_phys.specs.Bytes.{are_bytes}
use Rattle.sv8_phys.specs.Memory.{page_of}
use Rattle.sv8_phys.proofs.Handles.{behind, fit, long}
use Rattle.sv8_phys.specs.Parts.{part_at, part_of, blocks_of, halves_of, half_bytes, page_bytes}
use Rattle.sv8_phys.proofs.AllBytes.{length-all, each-all}
use Rattle.sv8_phys.proofs.ByteLemmas.{each_byte, all_bytes_fit}
use Rattle.sv8_phys.proofs.Sizes.{of_block, of_half}

-- ---- blocks

-- the bytes behind a handle
abbrev pub in_block : Rc Block Global → List ℕ
in_block h = h.value.bytes

-- a block has 128 bytes
pub block_full : (h : Rc Block Global) → length (in_block h) ≡ 128
block_full h = h.value.full

-- ---- halves

abbrev pub in_half : Rc HalfPage Global → List ℕ
in_half h = half_bytes h.value

-- a half has 2,048 bytes
pub half_full : (h : Rc HalfPage Global) → length (in_half h) ≡ 2048
half_full h = length-all 128 of_block 16 (blocks_of h.value.blocks)

half_each : (h : Rc HalfPage Global) (i : ℕ) → IsByte (get_or (in_half h) i 0)
half_each h i = each-all 128 of_block 16 (blocks_of h.value.blocks) (fit in_block (λ b. each_byte b.value.bytes b.value.fit) h.value.blocks) i

pub half_long : (handles : List (Rc HalfPage Global)) (p : ℕ) → p < length handles → length (part_at (halves_of handles) p) ≡ 2048
half_long handles = long in_half 2048 half_full handles

-- every byte of halves is one
pub halves_fit : (handles : List (Rc HalfPage Global)) (p i : ℕ) → IsByte (get_or (part_at (halves_of handles) p) i 0)
halves_fit handles = fit in_half half_each handles

-- the half behind a handle of the list
pub half_behind : (handles : List (Rc HalfPage Global)) (p : ℕ) (h : Rc HalfPage Global) → p < length handles → h ≡ get_or handles p h → half_bytes h.value ≡ part_at (halves_of handles) p
half_behind handles p h below e = ap in_half e ∙ behind in_half handles p h below

-- ---- pages

-- a page has 4,096 bytes
pub page_full : (page : Halves) → length (page_bytes page) ≡ 4096
page_full page = length-all 2048 of_half 2 (halves_of page.halves)

page_each : (page : Halves) (i : ℕ) → IsByte (get_or (page_bytes page) i 0)
page_each page i = each-all 2048 of_half 2 (halves_of page.halves) (halves_fit page.halves) i

pub page_fits : (page : Halves) → are_bytes (page_bytes page) ≡ true
page_fits page = all_bytes_fit (page_bytes page) (page_each page)

-- ---- parts of parts

-- a block of the half of a place is the block of the place
pub block_of_half : (bytes : List ℕ) (a : ℕ) → part_of 128 (part_of 2048 bytes (a / 2048)) (a % 2048 / 128) ≡ part_of 128 bytes (a / 128)
block_of_half bytes a =
    let n = 2048 * (a / 2048) in
    let k = 128 * (a % 2048 / 128) in
    let m = 2048 - k in
    let whole : 2048 ≡ k + m = omega arith in
    let place : n + k ≡ 128 * (a / 128) = omega arith in
    ap (λ j. take 128 (drop k (take j (drop n bytes)))) whole
    ∙ ap (take 128) (drop-take k m (drop n bytes))
    ∙ take-take 128 m (drop k (drop n bytes)) (omega arith)
    ∙ ap (take 128) (drop-drop k n bytes)
    ∙ ap (λ j. take 128 (drop j bytes)) place

-- the halves of a page make the page
pub both_halves : (bytes : List ℕ) (p : ℕ) → part_of 2048 bytes (2 * p) ++ part_of 2048 bytes (2 * p + 1) ≡ page_of bytes p
both_halves bytes p =
    let place : 2048 * (2 * p) + 2048 ≡ 2048 * (2 * p + 1) = omega arith in
    let first : 2048 * (2 * p) ≡ 4096 * p = omega arith in
    ap (λ xs. part_of 2048 bytes (2 * p) ++ take 2048 xs) (ap (λ n. drop n bytes) (sym place) ∙ sym (drop-drop 2048 (2048 * (2 * p)) bytes))
    ∙ sym (take-add 2048 2048 (drop (2048 * (2 * p)) bytes))
    ∙ ap (λ n. take 4096 (drop n bytes)) first
