use Rattle.std.proofs.Common.{◌≡◌, ◌-◌, ◌≤◌, length}
use Rattle.sv8_commands.specs.Words.{words_of}
use Rattle.sv8_monitor.specs.Conditions.{conditions_of}
use Rattle.sv8_monitor.proofs.ConditionLemmas.{with_others}
use Rattle.sv8_monitor.proofs.conditions.read_conditions.Given as goal

-- the conditions so far, with those that the rest reads as, are those of the whole text
abbrev pub invariant-loop-name : goal.invariant-loop-name
invariant-loop-name l = (length l.conditions ≤ 32) × (with_others l.conditions (words_of l.rest) ≡ conditions_of 32 (words_of l.text))

abbrev pub decreases-loop-name : goal.decreases-loop-name
decreases-loop-name l = 32 - length l.conditions
