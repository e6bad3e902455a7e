use Rattle.std.proofs.Common.{rules, ◌++◌, ap, ◌∙◌}
use Rattle.std.proofs.lemmas.Result.{err_from_is_err_and, IfErr-at_err}
use Rattle.std.specs.declared.rc.Rc.{Rc}
use Rattle.std.specs.declared.vec.Vec.{Vec}
use Rattle.std.specs.declared.alloc.Global.{Global}
use Rattle.sv8_phys.specs.declared.chunk.Chunk.{Chunk}
use Rattle.sv8_phys.specs.Chunks.{chunk_bytes}
use Rattle.sv8_phys.proofs.ChunkLemmas.{clone_bytes, chunk_more}
use Rattle.sv8_phys.proofs.output.add.Goals as goal

pub returns-in_err-chunks-clause-err : goal.returns-in_err-chunks-clause-err
returns-in_err-chunks-clause-err c =
    let p = err_from_is_err_and c.from_residual.result c.from_residual.ensures.1 in
    rw p.1 (clone_bytes c.args.full.now.value c.make_mut.follows.lender-at-none.value (IfErr-at_err _ c.in_err-chunks.was c.make_mut.follows.holds-at-none))

pub returns-in_err-push-clause-err : goal.returns-in_err-push-clause-err
returns-in_err-push-clause-err c =
    let p = err_from_is_err_and c.from_residual-in_err-push.result c.from_residual-in_err-push.ensures.1 in
    rw p.1 (ap (λ (v : Vec (Rc Chunk Global) Global). chunk_bytes v.items) (c.make_mut.follows.holds c.push.new.self (search rules))
    ∙ ap chunk_bytes c.in_err-push.ensures.items ∙ clone_bytes c.args.full.now.value c.in_ok-chunks.chunks.now c.in_ok-chunks.ensures.value)

pub returns-clause-ok : goal.returns-clause-ok
returns-clause-ok c =
    ap (λ (v : Vec (Rc Chunk Global) Global). chunk_bytes v.items) (c.make_mut.follows.holds c.push.new.self (search rules))
    ∙ ap chunk_bytes c.in_ok-push.ensures.items ∙ chunk_more c.in_ok-chunks.chunks.now.items c.args.chunk
    ∙ ap (λ l. l ++ c.args.chunk.value.bytes) (clone_bytes c.args.full.now.value c.in_ok-chunks.chunks.now c.in_ok-chunks.ensures.value)
