use Rattle.std.proofs.Common.{rules, Some, ap, sym, ◌∙◌}
use Rattle.sv8_phys.specs.Chunks.{output_bytes}
use Rattle.sv8_phys.specs.Pieces.{piece_of}
use Rattle.sv8_phys.specs.declared.chunk.Chunk.{Chunk}
use Rattle.sv8_phys.proofs.PieceLemmas.{full_piece_of, tail_piece, no_piece}
use Rattle.sv8_phys.proofs.output.Output.piece.Goals as goal
use Rattle.sv8_phys.proofs.output.Output.piece.Goals.{in_default-tail-via-in-Some-tail+else-index-len, in_default-tail-via-in_default-tail}

pub returns-in-Some : goal.returns-in-Some
returns-in-Some c =
    let chunks = c.self.inside.full.value.items in
    ap (λ (chunk : Chunk). Some chunk.bytes) c.deref-in-Some.ensures
    ∙ sym (full_piece_of chunks c.self.inside.tail c.args.index c.in-Some.chunk.now (search rules) (search rules))
    ∙ ap (λ bytes. piece_of bytes c.args.index) c.self.view_is

pub returns-in-Some-tail : goal.returns-in-Some-tail
returns-in-Some-tail c =
    let chunks = c.self.inside.full.value.items in
    ap Some c.filled.ensures
    ∙ sym (tail_piece chunks c.in-Some-tail.tail c.args.index (search rules) (search rules))
    ∙ ap (λ bytes. piece_of bytes c.args.index) (ap (output_bytes chunks) (sym c.in-Some-tail.is) ∙ c.self.view_is)

pub returns-in_default-tail : goal.returns-in_default-tail
returns-in_default-tail c =
    let chunks = c.self.inside.full.value.items in
    sym (no_piece chunks c.self.inside.tail c.args.index c.self.invariant (search rules) (λ tail is. elim c.in_default-tail.branch [
      | in_default-tail-via-in-Some-tail+else-index-len w ↦ search rules
      | in_default-tail-via-in_default-tail w ↦ λ e. absurd (w.in_default-tail.not-Some tail is)
    ])) ∙ ap (λ bytes. piece_of bytes c.args.index) c.self.view_is
