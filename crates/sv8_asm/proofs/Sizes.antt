-- The bytes of a statement fit its size.
use Rattle.std.proofs.Common.{◌≡◌, ◌∙◌, ℕ, ℤ, ◌+◌, ◌*◌, ◌%◌, ◌^◌, ◌≤◌, ◌==◌, List, [], ◌∷◌, ◌++◌, length, length-append, Option, Some, None, Result, Ok, Err, IsOk, Bool, true, false, cond, nat_lt, arith, ap, refl}
use Rattle.std.specs.Int.{w32, to_be_bytes}
use Rattle.std.specs.Result.{result_unwrap_or}
use Rattle.sv8_isa.specs.Encoding.{encoding}
use Rattle.sv8_isa.specs.declared.instr.Instr.{Instr}
use Rattle.sv8_statements.specs.declared.fault.LineFault.{LineFault}
use Rattle.sv8_statements.specs.declared.fault.LineFault.TheVariants.{BadAlignment, ImageTooLarge}
use Rattle.sv8_statements.specs.declared.value.Expr.{Expr}
use Rattle.sv8_statements.specs.declared.statement.Width.{Width}
use Rattle.sv8_statements.specs.declared.statement.Width.TheVariants as width
use Rattle.sv8_statements.specs.declared.statement.Statement.{Statement}
use Rattle.sv8_statements.specs.declared.statement.Statement.TheVariants as statement
use Rattle.sv8_statements.specs.declared.statement.Stmt.{Stmt}
use Rattle.sv8_statements.specs.Registers.{number_of_register}
use Rattle.sv8_asm.specs.Names.{Names}
use Rattle.sv8_asm.specs.Value.{word_of, within, value_of}
use Rattle.sv8_asm.specs.Size.{aligned, plain, fits_simm13, has_no_low_bits, set_count, bytes_of_width, text_size, size_of_statement, size}
use Rattle.sv8_asm.specs.Code.{on_ok, word_and, instruction_bytes, code, before, least_datum, most_datum, datum_bytes, datum, data_bytes, instruction_of, set_short, set_long, set_instructions, bytes_of_statement, bytes}

-- ---- instructions

word_and_length : (w : Option ℕ) (rest : Result (List ℕ) LineFault) (b : List ℕ) (n : ℕ) → ((c : List ℕ) → rest ≡ Ok c → length c ≡ n) → word_and w rest ≡ Ok b → length b ≡ 4 + n
word_and_length None rest b n ih h = absurd (cc)
word_and_length (Some w) (Ok c) b n ih h =
    let e : to_be_bytes w32 w ++ c ≡ b = cc in
    let k : length c ≡ n = ih c refl in
    rw (← e) (length-append (to_be_bytes w32 w) c ∙ ap (λ m. 4 + m) k)
word_and_length (Some w) (Err f) b n ih h = absurd (cc)

instructions_length : (is : List Instr) (b : List ℕ) → instruction_bytes is ≡ Ok b → length b ≡ 4 * length is
instructions_length [] b h = let e : [] ≡ b = cc in rw (← e) refl
instructions_length (i ∷ is) b h = word_and_length (encoding i) (instruction_bytes is) b (4 * length is) (instructions_length is) h ∙ omega arith

code_length : (r : Result (List Instr) LineFault) (b : List ℕ) (n : ℕ) → ((is : List Instr) → r ≡ Ok is → length is ≤ n) → code r ≡ Ok b → length b ≤ 4 * n
code_length (Ok is) b n few h = omega (arith, instructions_length is b h, few is refl)
code_length (Err f) b n few h = absurd (cc)

one_only : (r : Result Instr LineFault) (is : List Instr) → on_ok r (λ x. x ∷ []) ≡ Ok is → length is ≤ 1
one_only (Ok i) is h = let e : i ∷ [] ≡ is = cc in rw (← e) (omega arith)
one_only (Err f) is h = absurd (cc)

long_count : (alone : Bool) (word : Result ℕ LineFault) (rd : ℕ) (is : List Instr) → on_ok word (set_long alone rd) ≡ Ok is → length is ≤ cond alone 1 2
long_count true (Ok w) rd is h = let e : set_long true rd w ≡ is = cc in rw (← e) (omega arith)
long_count false (Ok w) rd is h = let e : set_long false rd w ≡ is = cc in rw (← e) (omega arith)
long_count alone (Err f) rd is h = absurd (cc)

set_few : (v : Option ℤ) (word : Result ℕ LineFault) (rd : ℕ) (is : List Instr) → set_instructions v word rd ≡ Ok is → length is ≤ set_count v
set_few None word rd is h = long_count false word rd is h
set_few (Some v) word rd is h = by_size (fits_simm13 v) (has_no_low_bits v) refl h where
  by_size : (short alone : Bool) → has_no_low_bits v ≡ alone → cond short (Ok (set_short v rd ∷ [])) (on_ok word (set_long (has_no_low_bits v) rd)) ≡ Ok is → length is ≤ cond short 1 (cond alone 1 2)
  by_size true alone e h = let f : set_short v rd ∷ [] ≡ is = cc in rw (← f) (omega arith)
  by_size false alone e h = rw (← e) (long_count (has_no_low_bits v) word rd is h)

-- ---- data

before_length : (r rest : Result (List ℕ) LineFault) (b : List ℕ) (m n : ℕ) → ((c : List ℕ) → r ≡ Ok c → length c ≡ m) → ((c : List ℕ) → rest ≡ Ok c → length c ≡ n) → before r rest ≡ Ok b → length b ≡ m + n
before_length (Ok a) (Ok c) b m n first ih h =
    let e : a ++ c ≡ b = cc in
    rw (← e) (length-append a c ∙ ap (λ x. x + length c) (first a refl) ∙ ap (λ x. m + x) (ih c refl))
before_length (Ok a) (Err f) b m n first ih h = absurd (cc)
before_length (Err f) (Ok c) b m n first ih h = absurd (cc)
before_length (Err f) (Err g) b m n first ih h = absurd (cc)

datum_long : (w : Width) (v : ℤ) → length (datum_bytes w v) ≡ bytes_of_width w
datum_long width.Byte v = refl
datum_long width.Half v = refl
datum_long width.Word v = refl

datum_length : (w : Width) (r : Result ℤ LineFault) (b : List ℕ) → on_ok r (datum_bytes w) ≡ Ok b → length b ≡ bytes_of_width w
datum_length w (Ok v) b h = let e : datum_bytes w v ≡ b = cc in rw (← e) (datum_long w v)
datum_length w (Err f) b h = absurd (cc)

data_length : (names : Names) (line : ℕ) (w : Width) (es : List Expr) (b : List ℕ) → data_bytes names line w es ≡ Ok b → length b ≡ bytes_of_width w * length es
unfolding data_bytes
data_length names line w [] b h = let e : [] ≡ b = cc in rw (← e) (omega arith)
data_length names line w (e ∷ es) b h =
    before_length (datum names line w e) (data_bytes names line w es) b (bytes_of_width w) (bytes_of_width w * length es)
    (datum_length w (within (least_datum w) (most_datum w) (value_of names line e))) (data_length names line w es) h ∙ grind arith

-- ---- statements

aligned_fits : (unit at n : ℕ) (b : List ℕ) → IsOk (aligned unit at n) → length b ≤ n → length b ≤ result_unwrap_or (aligned unit at n) 0
aligned_fits unit at n b ok k = go (at % unit == 0) ok
  where
    go : (t : Bool) → IsOk {T = ℕ} {E = LineFault} (cond t (Ok n) (Err BadAlignment)) → length b ≤ result_unwrap_or {T = ℕ} {E = LineFault} (cond t (Ok n) (Err BadAlignment)) 0
    go true o = k
    go false o = absurd (cc)

text_fits : (text : List ℕ) → IsOk (text_size (length text)) → length text ≤ result_unwrap_or (text_size (length text)) 0
text_fits text ok = go (nat_lt (length text) (2 ^ 32)) ok
  where
    go : (t : Bool) → IsOk {T = ℕ} {E = LineFault} (cond t (Ok (length text)) (Err ImageTooLarge)) → length text ≤ result_unwrap_or {T = ℕ} {E = LineFault} (cond t (Ok (length text)) (Err ImageTooLarge)) 0
    go true o = omega arith
    go false o = absurd (cc)

fits : (s : Option Statement) (line at : ℕ) (names : Names) (b : List ℕ) → IsOk (size_of_statement s at) → bytes_of_statement s line at names ≡ Ok b → length b ≤ result_unwrap_or (size_of_statement s at) 0
fits None line at names b ok h = let e : [] ≡ b = cc in rw (← e) (omega arith)
fits (Some (statement.Instruction i)) line at names b ok h = aligned_fits 4 at 4 b ok (code_length _ b 1 (one_only (instruction_of names line at i)) h)
fits (Some (statement.Set value rd)) line at names b ok h =
    aligned_fits 4 at (4 * set_count (plain value)) b ok (code_length _ b (set_count (plain value)) (set_few (plain value) (word_of names line value) (number_of_register rd)) h)
fits (Some (statement.Data w values)) line at names b ok h = aligned_fits (bytes_of_width w) at (bytes_of_width w * length values) b ok (omega (arith, data_length names line w values b h))
fits (Some (statement.Ascii text)) line at names b ok h = let e : text ≡ b = cc in rw (← e) (text_fits text ok)
fits (Some (statement.Motion m n)) line at names b ok h = let e : [] ≡ b = cc in rw (← e) (omega arith)
fits (Some (statement.Equ name value)) line at names b ok h = let e : [] ≡ b = cc in rw (← e) (omega arith)

pub bytes_fit : (s : Stmt) (line at : ℕ) (names : Names) (b : List ℕ) → IsOk (size s at) → bytes s line at names ≡ Ok b → length b ≤ result_unwrap_or (size s at) 0
unfolding bytes size
bytes_fit s line at names b ok h = fits s.statement line at names b ok h
