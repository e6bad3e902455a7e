-- The number and the name of each refusal by the workbench, and the line that is at fault.
use Rattle.std.specs.Prelude.{ℕ, List, codes, Some, None}
use Rattle.sv8_model.specs.declared.refused.Refused.{Refused}
use Rattle.sv8_model.specs.declared.refused.Refused.TheVariants.{OutOfMemory, By}
use Rattle.sv8_statements.specs.declared.fault.LineFault.{LineFault}
use Rattle.sv8_statements.specs.declared.fault.LineFault.TheVariants.{LineTooLong, NotAscii, Syntax, UnknownName, DuplicateLabel, OutOfRange, BadAlignment, OrgBackwards, ImageTooLarge}
use Rattle.sv8_statements.specs.Faults.{rank}
use Rattle.sv8_source.specs.declared.fault.SourceFault.TheVariants.{NoSuchLine, TooManyLines, Line}
use Rattle.sv8_time.specs.declared.fault.TimeFault.TheVariants.{StepTooLarge, BadAddress, BadLevel, NothingThere, TooManyEvents, InputTooLong}
use Rattle.sv8_commands.specs.Refusal.{Refusal, refusal}
use Rattle.sv8_workbench.specs.declared.fault.BenchFault.{BenchFault}
use Rattle.sv8_workbench.specs.declared.fault.BenchFault.TheVariants.{Source, Time}

abbrev pub name_of : LineFault → List ℕ
name_of LineTooLong = codes "LineTooLong"
name_of NotAscii = codes "NotAscii"
name_of Syntax = codes "Syntax"
name_of UnknownName = codes "UnknownName"
name_of DuplicateLabel = codes "DuplicateLabel"
name_of OutOfRange = codes "OutOfRange"
name_of BadAlignment = codes "BadAlignment"
name_of OrgBackwards = codes "OrgBackwards"
name_of ImageTooLarge = codes "ImageTooLarge"

-- a refusal by the workbench
abbrev pub refusal_of : Refused BenchFault → Refusal
refusal_of OutOfMemory = refusal 1 (codes "OutOfMemory") None
refusal_of (By (Source NoSuchLine)) = refusal 2 (codes "NoSuchLine") None
refusal_of (By (Source TooManyLines)) = refusal 3 (codes "TooManyLines") None
refusal_of (By (Source (Line number what))) = refusal (rank what) (name_of what) (Some number)
refusal_of (By (Time StepTooLarge)) = refusal 13 (codes "StepTooLarge") None
refusal_of (By (Time BadAddress)) = refusal 14 (codes "BadAddress") None
refusal_of (By (Time BadLevel)) = refusal 15 (codes "BadLevel") None
refusal_of (By (Time NothingThere)) = refusal 16 (codes "NothingThere") None
refusal_of (By (Time TooManyEvents)) = refusal 17 (codes "TooManyEvents") None
refusal_of (By (Time InputTooLong)) = refusal 19 (codes "InputTooLong") None
