-- How words read as questions of the monitor: each has its name, the form of its operands, and what is made of them.
use Rattle.std.specs.Prelude.{ℕ, List, [], ◌∷◌, Option, Some, None, if◌then◌else◌, codes, bytes_eq, option_map}
use Rattle.std.specs.Option.{option_or}
use Rattle.sv8_commands.specs.Words.{first_number}
use Rattle.sv8_commands.specs.Operands.{◌>>=◌, alone, one_number, two_numbers, three_numbers, number_address}
use Rattle.sv8_commands.specs.Commands as commands
use Rattle.sv8_monitor.specs.declared.question.Query.{Query}
use Rattle.sv8_monitor.specs.declared.question.Query.TheVariants.{Workbench, Steps, Windows, Where, Lines, Names, Events}
use Rattle.sv8_monitor.specs.declared.question.Question.{Question}
use Rattle.sv8_monitor.specs.declared.question.Question.TheVariants.{Now, Before, Keep, Part, Differ}
use Rattle.sv8_monitor.specs.Conditions.{conditions_of}

-- ---- questions about one workbench

-- three numbers, and conditions
unfoldable pub steps_of : List (List ℕ) → Option Query
steps_of words = do
  from ← first_number words
  to ← first_number from.1
  count ← first_number to.1
  conditions ← conditions_of 32 count.1
  Some (Steps from.0 to.0 count.0 conditions)

unfoldable pub query_of : List ℕ → List (List ℕ) → Option Query
query_of name words =
    if bytes_eq name (codes "steps") then steps_of words
    else (if bytes_eq name (codes "windows") then option_map Windows (one_number words)
    else (if bytes_eq name (codes "where") then option_map (λ x. Where x.0 x.1) (number_address words)
    else (if bytes_eq name (codes "list") then option_map (λ x. Lines x.0 x.1) (two_numbers words)
    else (if bytes_eq name (codes "names") then alone Names words
    else (if bytes_eq name (codes "events") then option_map (λ x. Events x.0 x.1) (two_numbers words)
    else None)))))

-- ---- questions about before, and about both

-- the query behind `before`: one of the monitor's, or one of the workbench's
unfoldable pub before_of : List (List ℕ) → Option Question
before_of [] = None
before_of (name ∷ words) = option_map Before (option_or (query_of name words) (option_map Workbench (commands.query_of name words)))

unfoldable pub named_of : List ℕ → List (List ℕ) → Option Question
named_of name words =
    if bytes_eq name (codes "keep") then alone Keep words
    else (if bytes_eq name (codes "before") then before_of words
    else (if bytes_eq name (codes "part") then option_map (λ x. Part x.0 x.1) (two_numbers words)
    else (if bytes_eq name (codes "differ") then option_map (λ x. Differ x.0 x.1 x.2) (three_numbers words)
    else option_map Now (query_of name words))))

-- the question that words ask of the monitor; where they ask none, they are read as a command of the workbench
abbrev pub question_of : List (List ℕ) → Option Question
question_of [] = None
question_of (name ∷ words) = named_of name words
