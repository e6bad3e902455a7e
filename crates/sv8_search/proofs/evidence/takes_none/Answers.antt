use Rattle.std.proofs.Common.{◌∙◌, sym}
use Rattle.sv8_search.proofs.Shown.{of_found, equal_count, none_takes}
use Rattle.sv8_search.proofs.evidence.takes_none.Goals as goal

pub returns-in-Some-checkpoint : goal.returns-in-Some-checkpoint
returns-in-Some-checkpoint g c = λ e.
    let first = of_found c.checkpoint.result c.in-Some.first _ _ c.checkpoint.ensures c.in-Some.is in
    let last = of_found c.checkpoint-in-Some.result c.in-Some-checkpoint.last _ _ c.checkpoint-in-Some.ensures c.in-Some-checkpoint.is in
    none_takes c.args.bench.now.kept c.args.from c.args.to
    (sym first.1.taken ∙ equal_count c.in-Some.first.taken c.in-Some-checkpoint.last.taken e ∙ last.1.taken)
