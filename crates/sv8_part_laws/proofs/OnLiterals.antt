-- What an answer unfolds to compute accesses and steps of the timer on numbers.
use Rattle.std.specs.Prelude.{⊤}
use Rattle.sv8_model.specs.Action.{◌>>=◌}
use Rattle.sv8_model.specs.Levels.{asked, cleared}
use Rattle.sv8_model.specs.Outside.{word_of, with_word, with_byte}
use Rattle.sv8_phys.specs.Devices.{device_load, device_store, tick}

unfoldable pub phys_on_literals : ⊤
unfolding ◌>>=◌ asked cleared word_of with_word with_byte device_load device_store tick
phys_on_literals = tt
