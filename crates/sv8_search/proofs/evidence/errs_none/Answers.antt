use Rattle.std.proofs.Common.{◌∙◌, sym}
use Rattle.sv8_search.proofs.Shown.{of_found, none_errs}
use Rattle.sv8_search.proofs.evidence.errs_none.Goals as goal

pub returns-in-Some : goal.returns-in-Some
returns-in-Some g c = λ e.
    let there = of_found c.checkpoint.result c.in-Some.last _ _ c.checkpoint.ensures c.in-Some.is in
    none_errs c.args.bench.now.kept c.args.from c.args.to (sym there.1.running ∙ e)
