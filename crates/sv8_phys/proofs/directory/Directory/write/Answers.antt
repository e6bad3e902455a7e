use Rattle.std.proofs.Common.{◌∙◌}
use Rattle.std.proofs.lemmas.Result.{err_from_is_err_and}
use Rattle.sv8_phys.proofs.directory.Directory.write.Goals as goal

pub returns-in_err-write_copying-clause-err : goal.returns-in_err-write_copying-clause-err
returns-in_err-write_copying-clause-err c =
    let p = err_from_is_err_and c.from_residual.result c.from_residual.ensures.1 in
    rw p.1 (λ n. c.in_err-write_copying.ensures.err n ∙ c.if-write_unshared.ensures n)
