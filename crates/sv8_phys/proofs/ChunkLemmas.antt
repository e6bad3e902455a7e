-- Bytes in chunks.
use Rattle.std.proofs.Common.{◌⊎◌, inl, inr, vec_len, ◌≡◌, refl, ap, ap₂, ◌∙◌, arith, ℕ, List, [], ◌∷◌, ◌++◌, length, take, get_or}
use Rattle.std.specs.List.{AllZip}
use Rattle.std.proofs.lemmas.Grind.{flat_map-append}
use Rattle.std.proofs.lemmas.List.{append-nil}
use Rattle.std.specs.declared.rc.Rc.{Rc}
use Rattle.std.specs.declared.vec.Vec.{Vec}
use Rattle.std.specs.declared.alloc.Global.{Global}
use Rattle.sv8_phys.specs.declared.chunk.Chunk.{Chunk}
use Rattle.sv8_phys.specs.Chunks.{chunk_bytes}

pub first_byte : (bytes : List ℕ) (byte : ℕ) → length bytes ≡ 512 → get_or bytes 0 0 ≡ byte → take 1 bytes ≡ byte ∷ []
first_byte [] byte h e = absurd (omega arith)
first_byte (b ∷ bytes) byte h e = ap (λ x. x ∷ []) e

-- chunks that are shared have the same bytes
same_bytes : (old new : List (Rc Chunk Global)) → AllZip (λ c d. d.value ≡ c.value) old new → chunk_bytes new ≡ chunk_bytes old
same_bytes [] [] h = refl
same_bytes [] (d ∷ new) h = absurd h
same_bytes (c ∷ old) [] h = absurd h
same_bytes (c ∷ old) (d ∷ new) h = ap₂ ◌++◌ (ap (λ (x : Chunk). x.bytes) h.0) (same_bytes old new h.1)

-- a list of chunks and its clone have the same bytes
pub clone_bytes : (old new : Vec (Rc Chunk Global) Global) → (new ≡ old) ⊎ (AllZip (λ c d. d.value ≡ c.value) old.items new.items × vec_len new ≡ vec_len old) → chunk_bytes new.items ≡ chunk_bytes old.items
clone_bytes old new (inl e) = ap (λ (v : Vec (Rc Chunk Global) Global). chunk_bytes v.items) e
clone_bytes old new (inr h) = same_bytes old.items new.items h.0

-- a chunk more
pub chunk_more : (chunks : List (Rc Chunk Global)) (c : Rc Chunk Global) → chunk_bytes (chunks ++ c ∷ []) ≡ chunk_bytes chunks ++ c.value.bytes
chunk_more chunks c = flat_map-append (λ (d : Rc Chunk Global). d.value.bytes) chunks (c ∷ []) ∙ ap (λ l. chunk_bytes chunks ++ l) (append-nil c.value.bytes)
