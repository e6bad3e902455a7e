-- The orders of a script: what a command begins, and the order that it makes with the lines that it took.
use Rattle.std.specs.Prelude.{ℕ, List, [], ◌∷◌, Option, Some, None, ◌==◌, if◌then◌else◌}
use Rattle.sv8_session.specs.declared.begun.Begun.{Begun}
use Rattle.sv8_session.specs.declared.begun.Begun.TheVariants.{Nothing, Bad, Takes, Ends}
use Rattle.sv8_commands.specs.declared.command.Command.{Command}
use Rattle.sv8_commands.specs.declared.command.Command.TheVariants.{Edit, Quit}
use Rattle.sv8_commands.specs.Commands.{command_of}

-- an edit with its lines, a command that takes none, or a line that is no command
pub data Order : Type 0 where
  edit : ℕ → ℕ → List (List ℕ) → Order
  command : Command → Order
  bad : Order

-- an edit waits for its lines, and `quit` ends the run
abbrev pub begun : Command → Begun
begun (Edit first last count) = Takes count
begun Quit = Ends
begun c = Takes 0

abbrev pub begun_of : Option Command → Begun
begun_of None = Bad
begun_of (Some c) = begun c

-- a blank line begins nothing
abbrev pub begins : List (List ℕ) → Begun
begins [] = Nothing
begins (word ∷ words) = begun_of (command_of (word ∷ words))

-- the range of an edit that takes lines
abbrev pub range_of : Command → Option (ℕ × ℕ)
range_of (Edit first last count) = if count == 0 then None else Some (first, last)
range_of c = None

abbrev pub order_by : Option (ℕ × ℕ) → Command → List (List ℕ) → Order
order_by None c lines = command c
order_by (Some range) c lines = edit range.0 range.1 lines

abbrev pub order : Command → List (List ℕ) → Order
order c lines = order_by (range_of c) c lines

abbrev pub order_of : Option Command → List (List ℕ) → Order
order_of None lines = bad
order_of (Some c) lines = order c lines
