-- How words read as conditions on steps.
use Rattle.std.specs.Prelude.{ℕ, zero, suc, List, [], ◌∷◌, Option, Some, None, if◌then◌else◌, codes, bytes_eq, nat_lt, nat_le, ◌&&◌, option_and_then, option_map}
use Rattle.sv8_watch.specs.declared.condition.Condition.{Condition}
use Rattle.sv8_watch.specs.declared.condition.Condition.TheVariants.{Pc, Load, Store, Touch, Change, Trap, TrapType, Error, Input, Output, Event, Every}
use Rattle.sv8_commands.specs.Words.{first_number, first_hex}

-- something that was read, with the words after it
abbrev pub Reading : Type 0 → Type 0
Reading A = Option (A × List (List ℕ))

-- a number from 1 to so many
unfoldable pub first_up_to : ℕ → List (List ℕ) → Reading ℕ
first_up_to most words = option_and_then (λ n. if nat_lt 0 n.0 && nat_le n.0 most then Some n else None) (first_number words)

-- an address, and how many bytes from there on, 1 to 4,096
unfoldable pub first_span : List (List ℕ) → Reading (ℕ × ℕ)
first_span words = option_and_then (λ address. option_map (λ count. ((address.0, count.0), count.1)) (first_up_to 4096 address.1)) (first_hex 8 words)

-- ---- how the words after a name are read

unfoldable pub pc_of : List (List ℕ) → Reading Condition
pc_of words = option_map (λ address. (Pc address.0, address.1)) (first_hex 8 words)

unfoldable pub load_of : List (List ℕ) → Reading Condition
load_of words = option_map (λ span. (Load span.0.0 span.0.1, span.1)) (first_span words)

unfoldable pub store_of : List (List ℕ) → Reading Condition
store_of words = option_map (λ span. (Store span.0.0 span.0.1, span.1)) (first_span words)

unfoldable pub touch_of : List (List ℕ) → Reading Condition
touch_of words = option_map (λ address. (Touch address.0, address.1)) (first_hex 8 words)

unfoldable pub change_of : List (List ℕ) → Reading Condition
change_of words = option_map (λ span. (Change span.0.0 span.0.1, span.1)) (first_span words)

unfoldable pub trap_type_of : List (List ℕ) → Reading Condition
trap_type_of words = option_map (λ type. (TrapType type.0, type.1)) (first_hex 2 words)

unfoldable pub every_of : List (List ℕ) → Reading Condition
every_of words = option_map (λ number. (Every number.0, number.1)) (first_up_to 4294967295 words)

-- the condition of a name, with what follows it
unfoldable pub condition_of : List ℕ → List (List ℕ) → Reading Condition
condition_of name words =
    if bytes_eq name (codes "pc") then pc_of words
    else (if bytes_eq name (codes "load") then load_of words
    else (if bytes_eq name (codes "store") then store_of words
    else (if bytes_eq name (codes "touch") then touch_of words
    else (if bytes_eq name (codes "change") then change_of words
    else (if bytes_eq name (codes "trap") then Some (Trap, words)
    else (if bytes_eq name (codes "tt") then trap_type_of words
    else (if bytes_eq name (codes "error") then Some (Error, words)
    else (if bytes_eq name (codes "in") then Some (Input, words)
    else (if bytes_eq name (codes "out") then Some (Output, words)
    else (if bytes_eq name (codes "event") then Some (Event, words)
    else (if bytes_eq name (codes "every") then every_of words
    else None)))))))))))

-- words that are at most so many conditions, and nothing else
abbrev pub conditions_of : ℕ → List (List ℕ) → Option (List Condition)
conditions_of most [] = Some []
conditions_of zero (name ∷ words) = None
conditions_of (suc most) (name ∷ words) = option_and_then (λ c. option_map (λ cs. c.0 ∷ cs) (conditions_of most c.1)) (condition_of name words)
