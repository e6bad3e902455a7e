use Rattle.std.proofs.Common.{◌∙◌}
use Rattle.sv8_walks.proofs.Ordinary.{fetched_word}
use Rattle.sv8_walks.proofs.machines.fetch_both.Goals as goal

pub returns-then-word-low_word-clause-own : goal.returns-then-word-low_word-clause-own
returns-then-word-low_word-clause-own g c =
    let told = c.in_ok-value.ensures in
    let fetched = rw (c.in-Some.is, c.psr-supervisor.ensures, c.registers.ensures, c.pc.ensures.value) at told in
    fetched_word _ _ _ _ _ fetched c.low_word-word.ensures

pub returns-then-word-low_word-clause-others : goal.returns-then-word-low_word-clause-others
returns-then-word-low_word-clause-others g c =
    let told = c.in_ok-other_value.ensures in
    let fetched = rw (c.in-Some-2.is, c.psr-supervisor.ensures, c.registers.ensures, c.pc-2.ensures.value) at told in
    fetched_word _ _ _ _ _ fetched (c.if-word-low_word.true ∙ c.low_word.ensures)
