-- What the readers of parts of a line answer, which may also find no memory.
use Rattle.std.specs.Prelude.{◌≡◌, Option, Some, None, Result, Ok, Err}
use Rattle.sv8_model.specs.declared.refused.Refused.{Refused}
use Rattle.sv8_model.specs.declared.refused.Refused.TheVariants.{OutOfMemory, By}
use Rattle.sv8_statements.specs.declared.fault.LineFault.{LineFault}
use Rattle.sv8_statements.specs.declared.fault.LineFault.TheVariants.{Syntax}

-- a fault is Syntax where nothing is read, and may be want of memory anywhere
abbrev pub Fails : {X : Type 0} → Refused LineFault → Option X → Type 0
Fails OutOfMemory read = Unit {0}
Fails (By Syntax) read = read ≡ None
Fails _ read = ⊥

-- what a function returned, seen by view, is what reading gives, unless memory ran out
abbrev pub Gives : {X Y : Type 0} → (X → Y) → Result X (Refused LineFault) → Option Y → Type 0
Gives view (Ok x) read = read ≡ Some (view x)
Gives view (Err e) read = Fails e read
