use Rattle.std.proofs.Common.{sym, ◌∙◌}
use Rattle.sv8_memory.specs.View.{timed_units}
use Rattle.sv8_memory.proofs.Known.{stores_to_device}
use Rattle.sv8_memory.proofs.at_once.is_stored_to_device.Goals as goal

pub returns-in-Word : goal.returns-in-Word
returns-in-Word g c = λ device asi value timer o space.
    rw c.in-Word.is (stores_to_device _ (timed_units c.args.physical.now timer) o asi value c.args.at space (sym c.if-translates.ensures) (rw (← c.from.ensures) (sym c.if-is_ram.ensures))
    (rw (← c.from-in-Word.ensures) (sym c.is_device.ensures ∙ device)))
