-- Pieces of bytes in chunks.
use Rattle.std.proofs.Common.{inl, inr, ◌≡◌, ◌≢◌, refl, ap, ap₂, sym, ◌∙◌, arith, ℕ, zero, suc, ◌+◌, ◌-◌, ◌*◌, ◌<◌, ◌≤◌, List, [], ◌∷◌, ◌++◌, length, take, drop, get_or, Option, Some, None, length-append, subst}
use Rattle.std.proofs.lemmas.Bool.{cases_lt}
use Rattle.std.proofs.lemmas.Bool.Decides.{nat_tests}
use Rattle.std.proofs.lemmas.List.{append_assoc, append-nil, length-take-le, take_all, drop_all}
use Rattle.std.proofs.Math.Seq.{drop-append-add, take-append_seam, take-add}
use Rattle.std.specs.declared.rc.Rc.{Rc}
use Rattle.std.specs.declared.alloc.Global.{Global}
use Rattle.sv8_phys.specs.declared.chunk.Chunk.{Chunk}
use Rattle.sv8_phys.specs.declared.output.Tail.{Tail}
use Rattle.sv8_phys.specs.Chunks.{chunk_bytes, tail_bytes, output_bytes, IsFilled, IsWithin}
use Rattle.sv8_phys.specs.Ends.{IsEnd}
use Rattle.sv8_phys.specs.Pieces.{piece_of, bytes_of_piece, pieces_below}
use Rattle.sv8_phys.specs.Laws.{PiecesAreTheOutput}

-- ---- one piece

-- where there is one, and where there is none
piece_there : (bytes : List ℕ) (index : ℕ) → 512 * index < length bytes → piece_of bytes index ≡ Some (take 512 (drop (512 * index) bytes))
unfolding piece_of
piece_there bytes index below = grind (arith, nat_tests)

piece_past : (bytes : List ℕ) (index : ℕ) → length bytes ≤ 512 * index → piece_of bytes index ≡ None
unfolding piece_of
piece_past bytes index past = grind (arith, nat_tests)

module _ (front behind : List ℕ) (e : length front ≡ 512) where
  whole : length (front ++ behind) ≡ 512 + length behind
  whole = length-append front behind ∙ ap (λ n. n + length behind) e

  -- the piece in front
  first_piece : piece_of (front ++ behind) 0 ≡ Some front
  first_piece =
      piece_there (front ++ behind) 0 (omega (arith, whole))
      ∙ ap Some (ap (λ n. take n (front ++ behind)) (sym e) ∙ take-append_seam front behind)

  -- a piece behind it
  piece_behind : (index : ℕ) → piece_of (front ++ behind) (suc index) ≡ piece_of behind index
  piece_behind index = elim (cases_lt (512 * index) (length behind)) [
    | inl below ↦
        let at : 512 * suc index ≡ length front + 512 * index = omega (arith, e) in
        piece_there (front ++ behind) (suc index) (omega (arith, whole))
        ∙ ap (λ bytes. Some (take 512 bytes)) (ap (λ n. drop n (front ++ behind)) at ∙ drop-append-add front behind (512 * index))
        ∙ sym (piece_there behind index below)
    | inr past ↦ piece_past (front ++ behind) (suc index) (omega (arith, whole)) ∙ sym (piece_past behind index past)
  ]

-- ---- pieces of full chunks and of a tail

module _ (c : Rc Chunk Global) (chunks : List (Rc Chunk Global)) (behind : List ℕ) where
  more_chunks : chunk_bytes (c ∷ chunks) ++ behind ≡ c.value.bytes ++ (chunk_bytes chunks ++ behind)
  more_chunks = append_assoc c.value.bytes (chunk_bytes chunks) behind

  next_piece : (index : ℕ) → piece_of (chunk_bytes (c ∷ chunks) ++ behind) (suc index) ≡ piece_of (chunk_bytes chunks ++ behind) index
  next_piece index = ap (λ bytes. piece_of bytes (suc index)) more_chunks ∙ piece_behind c.value.bytes (chunk_bytes chunks ++ behind) c.value.full index

full_piece : (chunks : List (Rc Chunk Global)) (behind : List ℕ) (index : ℕ) (c : Rc Chunk Global) → index < length chunks → c ≡ get_or chunks index c
    → piece_of (chunk_bytes chunks ++ behind) index ≡ Some c.value.bytes
full_piece [] behind index c below e = absurd (omega arith)
full_piece (d ∷ chunks) behind zero c below e =
    ap (λ bytes. piece_of bytes 0) (more_chunks d chunks behind)
    ∙ first_piece d.value.bytes (chunk_bytes chunks ++ behind) d.value.full
    ∙ ap (λ (h : Rc Chunk Global). Some h.value.bytes) (sym e)
full_piece (d ∷ chunks) behind (suc index) c below e = next_piece d chunks behind index ∙ full_piece chunks behind index c (omega arith) e

-- a full chunk is a piece
pub full_piece_of : (chunks : List (Rc Chunk Global)) (t : Option Tail) (index : ℕ) (c : Rc Chunk Global) → index < length chunks → c ≡ get_or chunks index c
    → piece_of (output_bytes chunks t) index ≡ Some c.value.bytes
full_piece_of chunks None index c below e = ap (λ bytes. piece_of bytes index) (sym (append-nil (chunk_bytes chunks))) ∙ full_piece chunks [] index c below e
full_piece_of chunks (Some tail) index c below e = full_piece chunks (tail_bytes tail) index c below e

-- behind them stand the bytes of the tail
behind_chunks : (chunks : List (Rc Chunk Global)) (behind : List ℕ) (index rest : ℕ) → index ≡ length chunks + rest → piece_of (chunk_bytes chunks ++ behind) index ≡ piece_of behind rest
behind_chunks [] behind index rest e = ap (piece_of behind) (omega (arith, e))
behind_chunks (c ∷ chunks) behind zero rest e = absurd (omega arith)
behind_chunks (c ∷ chunks) behind (suc index) rest e = next_piece c chunks behind index ∙ behind_chunks chunks behind index rest (omega arith)

filled_length : (tail : Tail) → IsFilled tail → length (tail_bytes tail) ≡ tail.count
filled_length tail h = length-take-le tail.count tail.chunk.value.bytes (omega (arith, h.1, tail.chunk.value.full))

-- the tail is the piece behind the full chunks
pub tail_piece : (chunks : List (Rc Chunk Global)) (tail : Tail) (index : ℕ) → IsFilled tail → index ≡ length chunks
    → piece_of (chunk_bytes chunks ++ tail_bytes tail) index ≡ Some (tail_bytes tail)
tail_piece chunks tail index h e =
    let count = filled_length tail h in
    behind_chunks chunks (tail_bytes tail) index 0 (omega (arith, e))
    ∙ piece_there (tail_bytes tail) 0 (omega (arith, count, h.0))
    ∙ ap Some (take_all 512 (tail_bytes tail) (omega (arith, count, h.1)))

-- and behind it there is none
pub no_piece : (chunks : List (Rc Chunk Global)) (t : Option Tail) (index : ℕ) → IsWithin t → length chunks ≤ index → ((tail : Tail) → t ≡ Some tail → index ≢ length chunks)
    → piece_of (output_bytes chunks t) index ≡ None
no_piece chunks None index h past other =
    ap (λ bytes. piece_of bytes index) (sym (append-nil (chunk_bytes chunks)))
    ∙ behind_chunks chunks [] index (index - length chunks) (omega arith)
    ∙ piece_past [] (index - length chunks) (omega arith)
no_piece chunks (Some tail) index h past other =
    let count = filled_length tail h in
    let apart = other tail refl in
    behind_chunks chunks (tail_bytes tail) index (index - length chunks) (omega arith)
    ∙ piece_past (tail_bytes tail) (index - length chunks) (omega (arith, count, h.1, apart))

-- ---- all pieces

some_is_none : {bytes : List ℕ} → Some bytes ≡ None → ⊥
some_is_none e = cc

piece_taken : (bytes : List ℕ) (index : ℕ) → bytes_of_piece (piece_of bytes index) ≡ take 512 (drop (512 * index) bytes)
piece_taken bytes index = elim (cases_lt (512 * index) (length bytes)) [
  | inl below ↦ ap bytes_of_piece (piece_there bytes index below)
  | inr past ↦ ap bytes_of_piece (piece_past bytes index past) ∙ sym (ap (take 512) (drop_all (512 * index) bytes past))
]

pieces_taken : (bytes : List ℕ) (index : ℕ) → pieces_below index bytes ≡ take (512 * index) bytes
pieces_taken bytes zero = refl
pieces_taken bytes (suc index) =
    ap₂ ◌++◌ (pieces_taken bytes index) (piece_taken bytes index)
    ∙ sym (take-add (512 * index) 512 bytes)
    ∙ ap (λ n. take n bytes) (omega arith)

pub pieces_are_output : PiecesAreTheOutput
pieces_are_output = record {
  whole = λ bytes index none. elim (cases_lt (512 * index) (length bytes)) [
    | inl below ↦ absurd (some_is_none (sym (piece_there bytes index below) ∙ none))
    | inr past ↦ pieces_taken bytes index ∙ take_all (512 * index) bytes past
  ];
  ends = λ bytes. piece_past bytes (length bytes) (omega arith);
}

-- ---- the end

pub chunks_length : (chunks : List (Rc Chunk Global)) → length (chunk_bytes chunks) ≡ 512 * length chunks
chunks_length [] = refl
chunks_length (c ∷ chunks) =
    let rest = chunks_length chunks in
    let whole = length-append c.value.bytes (chunk_bytes chunks) in
    let full = c.value.full in
    omega (arith, whole, full, rest)

pub output_length : (chunks : List (Rc Chunk Global)) (tail : Tail) → IsFilled tail → length (output_bytes chunks (Some tail)) ≡ 512 * length chunks + tail.count
output_length chunks tail h =
    let count = filled_length tail h in
    let full = chunks_length chunks in
    let whole = length-append (chunk_bytes chunks) (tail_bytes tail) in
    omega (arith, count, full, whole)

module _ (chunks : List (Rc Chunk Global)) (t : Option Tail) (size : ℕ) (bytes : List ℕ) (h : IsWithin t) (sized : size ≡ length chunks) (is : output_bytes chunks t ≡ bytes) where
  pub end_of_chunks : t ≡ None → IsEnd bytes (record { piece = size; place = 0 })
  end_of_chunks e =
      let all : length (output_bytes chunks t) ≡ length (chunk_bytes chunks) = ap (λ x. length (output_bytes chunks x)) e in
      let full = chunks_length chunks in
      let whole = ap length is in
      record { all = omega (arith, all, full, whole, sized); inside = omega arith }

  filled : (tail : Tail) → t ≡ Some tail → IsFilled tail
  filled tail e = subst IsWithin e h

  tail_and_chunks : (tail : Tail) → t ≡ Some tail → length bytes ≡ 512 * length chunks + tail.count
  tail_and_chunks tail e = ap length (sym is) ∙ ap (λ x. length (output_bytes chunks x)) e ∙ output_length chunks tail (filled tail e)

  pub end_of_tail : (tail : Tail) → t ≡ Some tail → tail.count < 512 → IsEnd bytes (record { piece = size; place = tail.count })
  end_of_tail tail e room =
      let whole = tail_and_chunks tail e in
      record { all = omega (arith, whole, sized); inside = room }

  pub end_of_full_tail : (tail : Tail) → t ≡ Some tail → 512 ≤ tail.count → IsEnd bytes (record { piece = size + 1; place = 0 })
  end_of_full_tail tail e full =
      let whole = tail_and_chunks tail e in
      let f = filled tail e in
      record { all = omega (arith, whole, sized, f.1, full); inside = omega arith }
