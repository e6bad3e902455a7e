use Rattle.sv8_watch.proofs.Quiet.{same_end}
use Rattle.sv8_search.proofs.Shown.{of_found, equal_count, none_puts}
use Rattle.sv8_search.proofs.evidence.puts_none.Goals as goal

pub returns-then-first-last : goal.returns-then-first-last
returns-then-first-last g c = λ e.
    let first = of_found c.checkpoint.result c.in-Some.first _ _ c.checkpoint.ensures c.in-Some.is in
    let last = of_found c.checkpoint-in-Some.result c.in-Some-checkpoint.last _ _ c.checkpoint-in-Some.ensures c.in-Some-checkpoint.is in
    none_puts c.args.bench.now.kept c.args.from c.args.to
    (same_end _ _ c.in-Some.first.output_end c.in-Some-checkpoint.last.output_end first.1.output last.1.output c.if-first-last.true
    (equal_count c.in-Some.first.output_end.place c.in-Some-checkpoint.last.output_end.place e))
