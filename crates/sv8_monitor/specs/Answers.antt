-- What a question of one workbench comes to.
use Rattle.std.specs.Prelude.{ℕ, ◌+◌, ◌-◌, ◌*◌, Bool, true, false, List, length, map, take, drop, nat_le, ◌&&◌, Option, Some, None, if◌then◌else◌}
use Rattle.sv8_mmu.specs.Place.{place_of}
use Rattle.sv8_source.specs.Listing.{listing}
use Rattle.sv8_source.specs.Names.{names}
use Rattle.sv8_source.specs.declared.fault.SourceFault.TheVariants.{NoSuchLine}
use Rattle.sv8_workbench.specs.declared.fault.BenchFault.{BenchFault}
use Rattle.sv8_workbench.specs.declared.fault.BenchFault.TheVariants.{Source}
use Rattle.sv8_workbench.specs.Faults.{step_refusal}
use Rattle.sv8_workbench.specs.Kept.{Kept}
use Rattle.sv8_workbench.specs.Shown.{machine_state}
use Rattle.sv8_answers.specs.Outcome.{Outcome, told, unless_refused}
use Rattle.sv8_commands.specs.Text.{numbered_text}
use Rattle.sv8_answers.specs.Commands as shell
use Rattle.sv8_answers.specs.Text.{listing_line}
use Rattle.sv8_monitor.specs.declared.question.Query.{Query}
use Rattle.sv8_monitor.specs.declared.question.Query.TheVariants.{Workbench, Steps, Windows, Where, Lines, Names, Events}
use Rattle.sv8_search.specs.Search.{found_at, steps_refusal, steps_told}
use Rattle.sv8_search.specs.Comparing.{range_refusal, differences}
use Rattle.sv8_monitor.specs.Events.{events_text}
use Rattle.sv8_monitor.specs.Texts.{steps_text, windows_text, place_text, names_text, differences_text}

-- ---- refusals

-- lines that are there, or none in front of one or behind the last
abbrev pub are_lines : ℕ → ℕ → Kept → Bool
are_lines first last k = nat_le 1 first && nat_le first (length k.source.lines + 1) && nat_le first (last + 1) && nat_le last (length k.source.lines)

abbrev pub lines_refusal : ℕ → ℕ → Kept → Option BenchFault
lines_refusal first last k = if are_lines first last k then None else Some (Source NoSuchLine)

-- ---- outcomes

abbrev pub lines_told : ℕ → ℕ → Kept → List ℕ
lines_told first last k = numbered_text listing_line first (take (last + 1 - first) (drop (first - 1) (listing k.source)))

abbrev pub query_outcome : Query → Kept → Outcome
query_outcome (Workbench query) k = shell.query_outcome query k
query_outcome (Steps from to count conditions) k =
    unless_refused (steps_refusal from to conditions k) (told true (steps_text (map (found_at k) (steps_told k from to count conditions))))
query_outcome (Windows step) k = unless_refused (step_refusal step) (told true (windows_text k.windows (machine_state k step).processor.registers))
query_outcome (Where step address) k =
    unless_refused (step_refusal step) (told true (place_text (place_of (4096 * k.pages) (machine_state k step).mmu (machine_state k step).memory.ram address)))
query_outcome (Lines first last) k = unless_refused (lines_refusal first last k) (told false (lines_told first last k))
query_outcome Names k = told true (names_text (names k.source))
query_outcome (Events first last) k = unless_refused (range_refusal first last) (told false (events_text k.timeline first (last + 1)))

-- ---- both

-- the least word by word
abbrev pub differ_outcome : ℕ → ℕ → ℕ → Kept → Kept → Outcome
differ_outcome at_now at_before count before now =
    unless_refused (range_refusal at_now at_before)
    (told true (differences_text (differences (4096 * now.pages) (machine_state before at_before).memory.ram (machine_state now at_now).memory.ram count)))
