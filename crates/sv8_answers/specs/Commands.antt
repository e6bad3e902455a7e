-- What each command asks of the workbench.
use Rattle.std.specs.Prelude.{ℕ, true, false, List, [], option_map}
use Rattle.sv8_source.specs.Listing.{listing}
use Rattle.sv8_time.specs.declared.edit.TimelineEdit.{TimelineEdit}
use Rattle.sv8_time.specs.declared.edit.TimelineEdit.TheVariants.{SetInput}
use Rattle.sv8_time.specs.Edits.{timeline_fault, with_edit}
use Rattle.sv8_workbench.specs.Kept.{Kept, edited, with_timeline}
use Rattle.sv8_workbench.specs.declared.fault.BenchFault.TheVariants.{Time}
use Rattle.sv8_workbench.specs.Faults.{edit_refusal, step_refusal, words_refusal}
use Rattle.sv8_workbench.specs.Shown.{shown_at, words_shown, output_shown}
use Rattle.sv8_commands.specs.declared.command.Command.{Command}
use Rattle.sv8_commands.specs.declared.command.Command.TheVariants.{Edit, Input, Timeline, Ask, Quit}
use Rattle.sv8_commands.specs.declared.command.Query.{Query}
use Rattle.sv8_commands.specs.declared.command.Query.TheVariants.{Listing, Regs, Mem, Out}
use Rattle.sv8_commands.specs.Text.{memory_text, output_text}
use Rattle.sv8_answers.specs.Text.{listing_text, regs_text}
use Rattle.sv8_answers.specs.Outcome.{Outcome, changed, told, unless_refused}

-- lines first to last are replaced by these
abbrev pub edit_outcome : ℕ → ℕ → List (List ℕ) → Kept → Outcome
edit_outcome first last lines kept = unless_refused (edit_refusal first last lines kept) (changed (edited first last lines kept))

-- the timeline is edited
abbrev pub timeline_outcome : TimelineEdit → Kept → Outcome
timeline_outcome edit kept =
    unless_refused (option_map Time (timeline_fault edit kept.timeline)) (changed (with_timeline (with_edit edit kept.timeline) kept))

-- what a query tells
abbrev pub query_outcome : Query → Kept → Outcome
query_outcome Listing kept = told false (listing_text (listing kept.source))
query_outcome (Regs step) kept = unless_refused (step_refusal step) (told true (regs_text step (shown_at kept step)))
query_outcome (Mem step address count) kept =
    unless_refused (words_refusal step address count kept) (told true (memory_text address (words_shown kept step address count)))
query_outcome (Out step) kept = unless_refused (step_refusal step) (told true (output_text (output_shown kept step)))

-- what a command that takes no lines comes to
abbrev pub outcome_of : Command → Kept → Outcome
outcome_of (Edit first last count) kept = edit_outcome first last [] kept
outcome_of (Input step bytes) kept = timeline_outcome (SetInput step bytes) kept
outcome_of (Timeline edit) kept = timeline_outcome edit kept
outcome_of (Ask query) kept = query_outcome query kept
outcome_of Quit kept = told false []
