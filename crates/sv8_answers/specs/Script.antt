-- A script: the orders that its lines make.
use Rattle.std.specs.Prelude.{ℕ, List}
use Rattle.sv8_session.specs.Script as script
use Rattle.sv8_commands.specs.Order.{Order}
use Rattle.sv8_answers.specs.Session.{language}

abbrev pub orders_in : List (List ℕ) → List Order
orders_in lines = script.orders_in language lines

abbrev pub orders_of : List ℕ → List Order
orders_of bytes = script.orders_of language bytes

abbrev pub EndsByQuit : List (List ℕ) → Type 0
EndsByQuit lines = script.EndsByQuit language lines

abbrev pub HasNoQuit : List (List ℕ) → Type 0
HasNoQuit lines = script.HasNoQuit language lines
