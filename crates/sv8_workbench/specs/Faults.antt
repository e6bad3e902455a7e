-- The refusals.
use Rattle.std.specs.Prelude.{ℕ, ◌+◌, ◌*◌, ◌%◌, ◌==◌, ◌&&◌, Bool, max, List, Option, Some, None, option_map, nat_le, if◌then◌else◌}
use Rattle.sv8_model.specs.declared.refused.Refused.{Refused}
use Rattle.sv8_model.specs.declared.refused.Refused.TheVariants.{OutOfMemory, By}
use Rattle.sv8_source.specs.declared.fault.SourceFault.{SourceFault}
use Rattle.sv8_source.specs.Text.{edit_fault}
use Rattle.sv8_time.specs.declared.fault.TimeFault.{TimeFault}
use Rattle.sv8_time.specs.declared.fault.TimeFault.TheVariants.{StepTooLarge, BadAddress}
use Rattle.sv8_workbench.specs.declared.fault.BenchFault.{BenchFault}
use Rattle.sv8_workbench.specs.declared.fault.BenchFault.TheVariants.{Source, Time}
use Rattle.sv8_workbench.specs.Kept.{Kept}

-- a refusal by the source, as the workbench's own
abbrev pub of_source : Refused SourceFault → Refused BenchFault
of_source OutOfMemory = OutOfMemory
of_source (By fault) = By (Source fault)

-- a refusal by the timeline, as the workbench's own
abbrev pub of_time : Refused TimeFault → Refused BenchFault
of_time OutOfMemory = OutOfMemory
of_time (By fault) = By (Time fault)

-- why the lines first to last cannot be replaced by these, or none
abbrev pub edit_refusal : ℕ → ℕ → List (List ℕ) → Kept → Option BenchFault
edit_refusal first last lines k = option_map Source (edit_fault first last lines k.source)

-- the last step that is shown
abbrev pub last_step : ℕ
last_step = 1000000

-- why a step is not shown, or none
unfoldable pub step_refusal : ℕ → Option BenchFault
step_refusal step = if nat_le step last_step then None else Some (Time StepTooLarge)

-- so many words of RAM from an address on, of so many bytes; none at all still asks for the word at the address
abbrev pub are_words : ℕ → ℕ → ℕ → Bool
are_words address count size = address % 4 == 0 && nat_le (address + 4 * max count 1) size

-- why words are not shown, or none
unfoldable pub words_refusal : ℕ → ℕ → ℕ → Kept → Option BenchFault
words_refusal step address count k =
    if nat_le step last_step then (if are_words address count (4096 * k.pages) then None else Some (Time BadAddress)) else Some (Time StepTooLarge)
