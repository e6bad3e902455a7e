-- How far a statement moves the location.
use Rattle.std.specs.Prelude.{ℕ, ℤ, pos, ◌-◌, ◌*◌, ◌%◌, ◌^◌, ◌==◌, ◌&&◌, neg_ℤ, not, Bool, nat_lt, length, Option, Some, None, Result, Ok, Err, if◌then◌else◌}
use Rattle.sv8_model.specs.Words.{word_of_number}
use Rattle.sv8_statements.specs.declared.fault.LineFault.{LineFault}
use Rattle.sv8_statements.specs.declared.fault.LineFault.TheVariants.{OutOfRange, BadAlignment, OrgBackwards, ImageTooLarge}
use Rattle.sv8_statements.specs.declared.value.Expr.{Expr}
use Rattle.sv8_statements.specs.declared.value.Expr.TheVariants as expr
use Rattle.sv8_statements.specs.declared.statement.Width.{Width}
use Rattle.sv8_statements.specs.declared.statement.Width.TheVariants as width
use Rattle.sv8_statements.specs.declared.statement.Motion.{Motion}
use Rattle.sv8_statements.specs.declared.statement.Motion.TheVariants as motion
use Rattle.sv8_statements.specs.declared.statement.Statement.{Statement}
use Rattle.sv8_statements.specs.declared.statement.Statement.TheVariants as statement
use Rattle.sv8_statements.specs.declared.statement.Stmt.{Stmt}
use Rattle.sv8_asm.specs.Value.{is_outside}

-- so many bytes, at a multiple of a number
abbrev pub aligned : ℕ → ℕ → ℕ → Result ℕ LineFault
aligned unit at bytes = if at % unit == 0 then Ok bytes else Err BadAlignment

-- ---- set

-- a number without a name
abbrev pub plain : Expr → Option ℤ
plain (expr.Number n) = Some (pos n)
plain (expr.Minus n) = Some (neg_ℤ (pos n))
plain e = None

-- a number that the field simm13 holds
abbrev pub fits_simm13 : ℤ → Bool
fits_simm13 v = not (is_outside (neg_ℤ (pos 4096)) (pos 4095) v)

-- a number whose low 10 bits are 0
abbrev pub has_no_low_bits : ℤ → Bool
has_no_low_bits v = word_of_number v % 2 ^ 10 == 0

-- how many instructions `set` is: one for a plain number of 13 bits or one without low bits, else two
abbrev pub set_count : Option ℤ → ℕ
set_count None = 2
set_count (Some v) = if fits_simm13 v then 1 else (if has_no_low_bits v then 1 else 2)

-- ---- directives

-- the bytes of a value in memory
abbrev pub bytes_of_width : Width → ℕ
bytes_of_width width.Byte = 1
bytes_of_width width.Half = 2
bytes_of_width width.Word = 4

-- a power of two from 1 to 4096: what divides 4096
abbrev pub is_alignment : ℕ → Bool
is_alignment n = nat_lt 0 n && (4096 % n == 0)

-- how far `.org`, `.skip` and `.align` move the location
abbrev pub motion_size : Motion → ℕ → ℕ → Result ℕ LineFault
motion_size motion.Org n at = if nat_lt n at then Err OrgBackwards else Ok (n - at)
motion_size motion.Skip n at = Ok n
motion_size motion.Align n at = if is_alignment n then Ok ((n - at % n) % n) else Err OutOfRange

-- a text takes its bytes, where a location can tell them
abbrev pub text_size : ℕ → Result ℕ LineFault
text_size count = if nat_lt count (2 ^ 32) then Ok count else Err ImageTooLarge

-- ---- statements

abbrev pub statement_size : Statement → ℕ → Result ℕ LineFault
statement_size (statement.Instruction i) at = aligned 4 at 4
statement_size (statement.Set value rd) at = aligned 4 at (4 * set_count (plain value))
statement_size (statement.Data w values) at = aligned (bytes_of_width w) at (bytes_of_width w * length values)
statement_size (statement.Ascii text) at = text_size (length text)
statement_size (statement.Motion m n) at = motion_size m n at
statement_size (statement.Equ name value) at = Ok 0

-- no statement takes no bytes and may stand anywhere
abbrev pub size_of_statement : Option Statement → ℕ → Result ℕ LineFault
size_of_statement None at = Ok 0
size_of_statement (Some s) at = statement_size s at

-- the number of bytes from a location to the one behind the statement
unfoldable pub size : Stmt → ℕ → Result ℕ LineFault
size s at = size_of_statement s.statement at
