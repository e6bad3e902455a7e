-- The order of faults, by the numbers of their refusals.
use Rattle.std.specs.Prelude.{ℕ, Option, Some, None, nat_lt, if◌then◌else◌}
use Rattle.sv8_statements.specs.declared.fault.LineFault.{LineFault}
use Rattle.sv8_statements.specs.declared.fault.LineFault.TheVariants.{LineTooLong, NotAscii, Syntax, UnknownName, DuplicateLabel, OutOfRange, BadAlignment, OrgBackwards, ImageTooLarge}

-- the number that a refusal has in answers
abbrev pub rank : LineFault → ℕ
rank LineTooLong = 4
rank NotAscii = 5
rank Syntax = 6
rank UnknownName = 7
rank DuplicateLabel = 8
rank OutOfRange = 9
rank BadAlignment = 10
rank OrgBackwards = 11
rank ImageTooLarge = 12

-- of a fault that was found, if any, and another: the one of the lower number
unfoldable pub least : Option LineFault → LineFault → LineFault
least None other = other
least (Some found) other = if nat_lt (rank other) (rank found) then other else found
