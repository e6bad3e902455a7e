-- What the words of the command line choose. `matches_of` of clap's definitions is what a command line makes of words.
use Rattle.std.specs.Prelude.{◌≡◌, ℕ, List, [], ◌∷◌, Option, Some, None, map, codes, bytes_eq, if◌then◌else◌, true, false, ◌⊎◌, Result, Ok, Err}
use Rattle.clap.specs.Words.{App, Rule, Text, Kinds, IsAmong, fault_of, first_of, kind_of, matches_of, new_rule, with_rule, takes}
use Rattle.clap.specs.declared.error.Error.{Error}
use Rattle.clap.specs.declared.error.kind.ErrorKind.TheVariants.{OutOfMemory}
use Rattle.clap.specs.Simple.{new_shape}
use Rattle.clap.specs.declared.builder.value_parser.ValueParser.{ValueParser}
use Rattle.clap.specs.declared.builder.value_parser.ValueParser.TheVariants.{Names}

-- one of these five words
abbrev pub IsFiveCounts : ValueParser → Type 0
IsFiveCounts (Names names) = map (λ name. name.now) names.now ≡ codes "2" ∷ codes "4" ∷ codes "8" ∷ codes "16" ∷ codes "32" ∷ []
IsFiveCounts other = ⊥

-- `--windows N`, 8 where it is left out
abbrev pub windows_rule : ValueParser → Rule
windows_rule counts = record (new_rule (codes "windows")) { long = Some (codes "windows"); value_names = 1; defaults = codes "8" ∷ []; parser = Some counts }

abbrev pub script_rule : Rule
script_rule = new_rule (codes "SCRIPT")

-- `[--windows N] [SCRIPT]`, without the program's name in front
abbrev pub command_line : Text → ValueParser → App
command_line name counts =
    let bare : App = record { top = record (new_shape name) { no_binary_name = true }; subs = [] } in
    with_rule (with_rule bare (windows_rule counts)) script_rule

-- the command line of a program of this name
abbrev pub IsCommandLine : Text → App → Type 0
IsCommandLine name app = (counts : ValueParser) × IsFiveCounts counts × (app ≡ command_line name counts)

-- the number that one of the five words names; 8 for any other
abbrev pub count_of : Text → ℕ
count_of word =
    if bytes_eq word (codes "2") then 2
    else (if bytes_eq word (codes "4") then 4
    else (if bytes_eq word (codes "16") then 16
    else (if bytes_eq word (codes "32") then 32 else 8)))

-- the number of windows where `--windows` has this value, or none
abbrev pub windows_of : Option Text → ℕ
windows_of (Some word) = count_of word
windows_of None = 8

-- the windows and the script that words choose
pub record Chooses (name : Text) (words : List Text) (windows : ℕ) (script : Option Text) : Type 0 where
  pub counts : ValueParser
  pub five : IsFiveCounts counts
  pub windows_is : windows ≡ windows_of (first_of (codes "windows") (matches_of (command_line name counts) words))
  pub script_is : script ≡ first_of (codes "SCRIPT") (matches_of (command_line name counts) words)

-- the words are none that the command line takes
abbrev pub IsNotTaken : Text → List Text → Type 0
IsNotTaken name words = (counts : ValueParser) × IsFiveCounts counts × (takes (command_line name counts) words ≡ false)

-- these words may have these errors: none where the command line takes them
abbrev pub MayFailBy : Text → List Text → Kinds → Type 0
MayFailBy name words kinds = (counts : ValueParser) × IsFiveCounts counts × (kinds ≡ fault_of (command_line name counts) words)

-- an `Ok` comes only where the words have no error, and an `Err` is one of theirs, or memory could not be had
abbrev pub IsJudged : {A : Type 0} → Text → List Text → Result A Error → Type 0
IsJudged name words (Ok _) = MayFailBy name words []
IsJudged name words (Err e) = (kind_of e ≡ OutOfMemory) ⊎ ((kinds : Kinds) × MayFailBy name words kinds × IsAmong (kind_of e) kinds)
