-- A line's fault, with the line.
use Rattle.std.specs.Prelude.{ℕ, Result, Ok, Err}
use Rattle.sv8_model.specs.declared.refused.Refused.{Refused}
use Rattle.sv8_model.specs.declared.refused.Refused.TheVariants.{OutOfMemory, By}
use Rattle.sv8_statements.specs.declared.fault.LineFault.{LineFault}
use Rattle.sv8_source.specs.declared.fault.SourceFault.{SourceFault}
use Rattle.sv8_source.specs.declared.fault.SourceFault.TheVariants.{Line}

-- a refusal of a line, with its number
abbrev pub refused_in : ℕ → Refused LineFault → Refused SourceFault
refused_in number OutOfMemory = OutOfMemory
refused_in number (By what) = By (Line number what)

-- a line's result, then the rest
abbrev pub after_line : {A B : Type 0} → ℕ → Result A LineFault → (A → Result B SourceFault) → Result B SourceFault
after_line number (Ok v) rest = rest v
after_line number (Err what) rest = Err (Line number what)
