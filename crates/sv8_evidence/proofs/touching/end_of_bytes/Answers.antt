use Rattle.std.proofs.Common.{◌/◌, arith}
use Rattle.sv8_evidence.proofs.Untouched.{same_word}
use Rattle.sv8_evidence.proofs.touching.end_of_bytes.Goals as goal

pub returns-clause-none : goal.returns-clause-none
returns-clause-none g c = λ kind n i low high a b.
    let past = c.loop-word-test.false in
    same_word kind g.row.NW g.row.PAGES g.row.K c.args.trace.now n i
    (c.loop-word.invariant.none (i / 4) n (omega (arith, a)) (omega (arith, b, past, c.requires.some)) low high)
