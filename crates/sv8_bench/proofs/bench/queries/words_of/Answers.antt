use Rattle.sv8_bench.proofs.ShownWords.{words_inside}
use Rattle.sv8_bench.proofs.bench.queries.words_of.Goals as goal

pub returns-clause-inside : goal.returns-clause-inside
returns-clause-inside g c =
    words_inside c.args.machine.now.memory.ram c.loop-index.words.items c.args.address c.args.count c.loop-index.index g.row.PAGES c.requires.few_pages c.requires.within
    c.loop-index.auto.index-end c.loop-index.invariant
