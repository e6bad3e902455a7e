-- The commands: each has its name, the form of its operands, and what is made of them.
use Rattle.std.specs.Prelude.{ℕ, List, [], ◌∷◌, Option, None, if◌then◌else◌, codes, bytes_eq, option_map}
use Rattle.std.specs.Option.{option_or}
use Rattle.sv8_time.specs.declared.edit.TimelineEdit.{TimelineEdit}
use Rattle.sv8_time.specs.declared.edit.TimelineEdit.TheVariants.{SetPoke, ClearPoke, SetPokeByte, ClearPokeByte, ClearInput, SetRequest, ClearRequest}
use Rattle.sv8_commands.specs.declared.command.Command.{Command}
use Rattle.sv8_commands.specs.declared.command.Command.TheVariants.{Edit, Input, Timeline, Ask, Quit}
use Rattle.sv8_commands.specs.declared.command.Query.{Query}
use Rattle.sv8_commands.specs.declared.command.Query.TheVariants.{Listing, Regs, Mem, Out}
use Rattle.sv8_commands.specs.Operands.{alone, one_number, two_numbers, three_numbers, number_address, number_address_value, number_address_number, number_bytes}

-- the edit of a name that pokes RAM, or clears what is poked; a value of a byte has at most two digits
unfoldable pub poke_of : List ℕ → List (List ℕ) → Option TimelineEdit
poke_of name words =
    if bytes_eq name (codes "poke") then option_map (λ x. SetPoke x.0 x.1 x.2) (number_address_value 8 words)
    else (if bytes_eq name (codes "unpoke") then option_map (λ x. ClearPoke x.0 x.1) (number_address words)
    else (if bytes_eq name (codes "pokeb") then option_map (λ x. SetPokeByte x.0 x.1 x.2) (number_address_value 2 words)
    else (if bytes_eq name (codes "unpokeb") then option_map (λ x. ClearPokeByte x.0 x.1) (number_address words)
    else None)))

-- the edit of the timeline of a name, but for bytes that come in
unfoldable pub timeline_of : List ℕ → List (List ℕ) → Option TimelineEdit
timeline_of name words =
    if bytes_eq name (codes "uninput") then option_map ClearInput (one_number words)
    else (if bytes_eq name (codes "irq") then option_map (λ x. SetRequest x.0 x.1) (two_numbers words)
    else (if bytes_eq name (codes "unirq") then option_map (λ x. ClearRequest x.0 x.1) (two_numbers words)
    else poke_of name words))

-- the edit of a name, of the source or of the timeline
unfoldable pub edit_of : List ℕ → List (List ℕ) → Option Command
edit_of name words =
    if bytes_eq name (codes "edit") then option_map (λ x. Edit x.0 x.1 x.2) (three_numbers words)
    else (if bytes_eq name (codes "input") then option_map (λ x. Input x.0 x.1) (number_bytes words)
    else option_map Timeline (timeline_of name words))

-- the query of a name
unfoldable pub query_of : List ℕ → List (List ℕ) → Option Query
query_of name words =
    if bytes_eq name (codes "list") then alone Listing words
    else (if bytes_eq name (codes "regs") then option_map Regs (one_number words)
    else (if bytes_eq name (codes "mem") then option_map (λ x. Mem x.0 x.1 x.2) (number_address_number words)
    else (if bytes_eq name (codes "out") then option_map Out (one_number words)
    else None)))

-- the command of a name that edits nothing: the end of the run, or a query
unfoldable pub asking_of : List ℕ → List (List ℕ) → Option Command
asking_of name words = if bytes_eq name (codes "quit") then alone Quit words else option_map Ask (query_of name words)

-- the command that words are
unfoldable pub command_of : List (List ℕ) → Option Command
command_of [] = None
command_of (name ∷ words) = option_or (edit_of name words) (asking_of name words)
