-- The bytes that were put out, in chunks.
use Rattle.std.specs.Prelude.{ℕ, ◌≤◌, List, ◌++◌, take, flat_map, Option, Some, None}
use Rattle.std.specs.declared.rc.Rc.{Rc}
use Rattle.std.specs.declared.alloc.Global.{Global}
use Rattle.sv8_phys.specs.declared.chunk.Chunk.{Chunk}
use Rattle.sv8_phys.specs.declared.output.Tail.{Tail}

-- the bytes of full chunks, one chunk after another
abbrev pub chunk_bytes : List (Rc Chunk Global) → List ℕ
chunk_bytes chunks = flat_map (λ chunk. chunk.value.bytes) chunks

-- the bytes of a tail, which is filled up to its count
abbrev pub tail_bytes : Tail → List ℕ
tail_bytes tail = take tail.count tail.chunk.value.bytes

-- the bytes of full chunks and of the tail, if there is one
abbrev pub output_bytes : List (Rc Chunk Global) → Option Tail → List ℕ
output_bytes chunks None = chunk_bytes chunks
output_bytes chunks (Some tail) = chunk_bytes chunks ++ tail_bytes tail

-- a tail has at least one byte, and at most as many as its chunk has room for
abbrev pub IsFilled : Tail → Type 0
IsFilled tail = (1 ≤ tail.count) × (tail.count ≤ 512)

-- the same of the tail, if there is one
abbrev pub IsWithin : Option Tail → Type 0
IsWithin None = Unit {0}
IsWithin (Some tail) = IsFilled tail
