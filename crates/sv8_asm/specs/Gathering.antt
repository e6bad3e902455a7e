-- How the code gathers the bytes of values: what was done so far, and what the rest gives.
use Rattle.std.specs.Prelude.{ℕ, List, ◌++◌, Option, Some, None, Result, Ok, Err}
use Rattle.sv8_statements.specs.Faults.{least}
use Rattle.sv8_statements.specs.declared.fault.LineFault.{LineFault}

-- the least fault so far and the bytes so far, and what the rest gives
abbrev pub carried : Option LineFault → List ℕ → Result (List ℕ) LineFault → Result (List ℕ) LineFault
carried None done (Ok rest) = Ok (done ++ rest)
carried None done (Err e) = Err e
carried (Some f) done (Ok rest) = Err f
carried (Some f) done (Err e) = Err (least (Some f) e)
