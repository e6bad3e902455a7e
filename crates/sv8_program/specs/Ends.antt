-- How each run ends a program: how far it came, its exit status, and its line on standard error.
use Rattle.std.specs.Prelude.{◌≡◌, ◌⊎◌, ℕ, Bool, true, false, IsTrue, List, [], ◌∷◌, ◌++◌, Option, Result, Ok, Err, IfSome, codes}
use Rattle.clap.specs.Words.{Kinds}
use Rattle.clap.specs.declared.error.kind.ErrorKind.{ErrorKind}
use Rattle.clap.specs.declared.error.kind.ErrorKind.TheVariants as kind
use Rattle.sv8_session.specs.declared.driver.RunFault.{RunFault}
use Rattle.sv8_session.specs.declared.driver.RunFault.TheVariants as fault
use Rattle.sv8_session.specs.Language.{Language}
use Rattle.sv8_session.specs.Script.{lines_within, orders_in, orders_of, IsTooLong}
use Rattle.sv8_session.specs.Session.{Answered, Cut}
use Rattle.sv8_session.specs.Run.{AnsweredGiven}
use Rattle.sv8_program.specs.declared.end.End.{End}
use Rattle.sv8_program.specs.declared.end.End.TheVariants.{Done, Help, Usage, ReadFault, WriteFault, TooMany, NoScript, Memory}

-- HOW FAR A RUN CAME in a language of commands, by its end, where this was kept when it began: what its reader had and has left, and what its writer had
-- and has
abbrev pub Serves : {K O : Type 0} → Language K O → K → End → Option (List ℕ) → Option (List ℕ) → Option (List ℕ) → Option (List ℕ) → Type 0
-- the whole script was answered
Serves {K} L start Done known left old new = IfSome known (λ input. (last : K) × Answered L old new start (orders_of L input) last)
-- what had been read was answered, up to its last whole line
Serves {K} L start ReadFault known left old new = (last : K) × AnsweredGiven L known left old new start last
-- the answers to the script are cut short, where it is too long those to its lines within the bounds
Serves {K} L start WriteFault known left old new =
    IfSome known (λ input. (last : K) × Cut L old new start (orders_of L input) last × (IsTooLong input → Cut L old new start (orders_in L (lines_within input)) last))
-- the script is too long, and its lines within the bounds were answered
Serves {K} L start TooMany known left old new = IfSome known (λ input. IsTooLong input × ((last : K) × Answered L old new start (orders_in L (lines_within input)) last))
-- nothing was read or written
Serves {K} L start Memory known left old new = (known ≡ left) × (old ≡ new)
Serves {K} L start Help known left old new = ⊥
Serves {K} L start Usage known left old new = ⊥
Serves {K} L start NoScript known left old new = ⊥

-- what a program says of an end, empty where there is nothing to say
abbrev pub fault_of : End → List ℕ
fault_of Done = []
fault_of Help = []
fault_of Usage = []
fault_of ReadFault = codes "read fault"
fault_of WriteFault = codes "write fault"
fault_of TooMany = codes "too many commands"
fault_of NoScript = codes "cannot open script"
fault_of Memory = codes "out of memory"

-- the line that a fault comes to where the program has this name, none for the empty one
abbrev pub line_with : List ℕ → List ℕ → List ℕ
line_with name [] = []
line_with name (b ∷ bs) = name ++ codes ": " ++ (b ∷ bs) ++ codes "\n"

-- what goes to standard error at an end of a program of this name
abbrev pub line_of : List ℕ → End → List ℕ
line_of name end = line_with name (fault_of end)

abbrev pub status_of : End → ℕ
status_of Done = 0
status_of Help = 0
status_of Usage = 2
status_of ReadFault = 3
status_of WriteFault = 3
status_of TooMany = 3
status_of NoScript = 3
status_of Memory = 3

-- the end after a run
abbrev pub end_of : {A : Type 0} → Result A RunFault → End
end_of (Ok _) = Done
end_of (Err fault.Read) = ReadFault
end_of (Err fault.Write) = WriteFault
end_of (Err fault.TooManyCommands) = TooMany

-- the end that an error of the words comes to
abbrev pub refusal_end : ErrorKind → End
refusal_end kind.OutOfMemory = Memory
refusal_end kind.DisplayHelp = Help
refusal_end kind.DisplayVersion = Help
refusal_end _ = Usage

-- an end that is not one of the words
abbrev pub is_run_end : End → Bool
is_run_end Help = false
is_run_end Usage = false
is_run_end _ = true

-- the end of one of these errors
abbrev pub IsRefusalEnd : Kinds → End → Type 0
IsRefusalEnd [] end = ⊥
IsRefusalEnd (k ∷ ks) end = (end ≡ refusal_end k) ⊎ IsRefusalEnd ks end

-- an end where the words may have these errors: with none that of a run, else that of one of them
abbrev pub EndsBy : Kinds → End → Type 0
EndsBy [] end = IsTrue (is_run_end end)
EndsBy (k ∷ ks) end = IsRefusalEnd (k ∷ ks) end

-- what holds of a writer's contents before and after holds of some, where it is not said which
abbrev pub IntoSome : (Option (List ℕ) → Option (List ℕ) → Type 0) → Type 0
IntoSome holds = (old : Option (List ℕ)) × (new : Option (List ℕ)) × holds old new
