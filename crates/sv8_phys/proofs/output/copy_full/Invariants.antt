use Rattle.std.proofs.Common.{◌≡◌, ◌++◌, take}
use Rattle.sv8_phys.specs.Chunks.{chunk_bytes}
use Rattle.sv8_phys.proofs.output.copy_full.Given as goal

abbrev pub invariant-loop-chunk : goal.invariant-loop-chunk
invariant-loop-chunk l = l.bytes.items ≡ l.initial.bytes.items ++ chunk_bytes (take l.chunk-index l.full)
