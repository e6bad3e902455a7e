use Rattle.std.proofs.Common.{◌/◌, ◌%◌, ap, ◌∙◌}
use Rattle.std.proofs.lemmas.Result.{err_from_is_err_and}
use Rattle.sv8_phys.specs.Memory.{with_value}
use Rattle.sv8_phys.specs.Parts.{with_value_in}
use Rattle.sv8_phys.proofs.GroupLemmas.{in_group, group_written, group_left}
use Rattle.sv8_phys.proofs.directory.Directory.write_copying.Goals as goal

pub returns-clause-ok : goal.returns-clause-ok
returns-clause-ok c = λ n below.
    let at = c.args.at in
    let write = with_value_in c.args.size (at % 32768) c.args.value in
    group_written _ c.args.size at c.args.value c.index_mut-handle.result.now _ c.in_ok-reach.ensures.reached c.requires.aligned
    (c.in_ok-write_copying.ensures.ok ∙ ap (λ h. write (in_group h)) c.index_mut-handle.ensures.value) n below
    ∙ ap (with_value c.args.size at c.args.value) (c.in_ok-reach.ensures.same n)

pub returns-in_err-write_copying-clause-err : goal.returns-in_err-write_copying-clause-err
returns-in_err-write_copying-clause-err c =
    let p = err_from_is_err_and c.from_residual-in_err-write_copying.result c.from_residual-in_err-write_copying.ensures.1 in
    rw p.1 (λ n.
    group_left _ (c.args.at / 32768) c.index_mut-handle.result.now _ c.in_ok-reach.ensures.reached
    (c.in_err-write_copying.ensures.err ∙ ap in_group c.index_mut-handle.ensures.value) n
    ∙ c.in_ok-reach.ensures.same n)
