-- The monitor over scripts that ask nothing of it.
use Rattle.std.specs.Prelude.{◌≡◌, ◌↔◌, ℕ, List, [], ◌∷◌, map, None, ⊤}
use Rattle.sv8_session.specs.Script.{Stage, idle, taking, over, step, all_lines, text_of}
use Rattle.sv8_commands.specs.Words.{words_of}
use Rattle.sv8_commands.specs.Order as workbench_order
use Rattle.sv8_answers.specs.Session as workbench
use Rattle.sv8_answers.specs.Script as workbench_script
use Rattle.sv8_monitor.specs.Questions.{question_of}
use Rattle.sv8_monitor.specs.Session.{Both, Order, shell, Session, orders_in, orders_of}

-- a line that begins an order is none of the monitor's; one that a command has taken may be any
abbrev pub AsksNothing : Stage → List ℕ → Type 0
AsksNothing idle line = question_of (words_of (text_of line)) ≡ None
AsksNothing (taking text left lines) line = ⊤
AsksNothing over line = ⊤

-- none of these lines is, as the workbench reads them
abbrev pub NoneAsks : Stage → List (List ℕ) → Type 0
NoneAsks stage [] = ⊤
NoneAsks stage (line ∷ lines) = AsksNothing stage line × NoneAsks (step workbench.language stage line).stage lines

-- the same texts answer some orders of the monitor's and some of the workbench's, and the same is kept after each; before stays as it is
abbrev pub AreAnsweredAlike : List Order → List workbench_order.Order → Type 0
AreAnsweredAlike orders own = (start last : Both) (text : List ℕ) → Session start orders text last ↔ (workbench.Session start.now own text last.now × (last.before ≡ start.before))

-- the orders of the workbench
abbrev pub OrdersAlike : Type 0
OrdersAlike = (orders : List workbench_order.Order) → AreAnsweredAlike (map shell orders) orders

-- those of lines
abbrev pub LinesAlike : Type 0
LinesAlike = (lines : List (List ℕ)) → NoneAsks idle lines → AreAnsweredAlike (orders_in lines) (workbench_script.orders_in lines)

-- TO A SCRIPT OF THE WORKBENCH'S COMMANDS THE MONITOR ANSWERS WHAT THE WORKBENCH DOES
abbrev pub ScriptsAlike : Type 0
ScriptsAlike = (script : List ℕ) → NoneAsks idle (all_lines script) → AreAnsweredAlike (orders_of script) (workbench_script.orders_of script)
