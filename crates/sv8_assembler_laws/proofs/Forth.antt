-- The word of an instruction, decoded.
use Rattle.std.proofs.Common.{◌≡◌, ℕ, ◌+◌, ◌*◌, ◌/◌, ◌%◌, ◌-◌, ◌^◌, ◌<◌, ◌≤◌, ℤ, pos, negsuc, ◌-ℤ◌, Bool, true, false, ◌==◌, inl, inr, Option, Some, None, refl, ap, sym, ◌∙◌, arith, lit<}
use Rattle.std.proofs.lemmas.Bool.{eqb-true, cases_Bool, cases_lt}
use Rattle.std.proofs.lemmas.Bool.Decides.{nat_tests}
use Rattle.std.proofs.lemmas.Int.{ints}
use Rattle.sv8_model.specs.Words.{field, signed}
use Rattle.sv8_isa.specs.Operands.{operand_of, count_of, trap_number_of, condition_of}
use Rattle.sv8_isa.specs.Table.{row_at, meaning, instr_at}
use Rattle.sv8_isa.specs.Encoding.{encoding, format_2, format_3, format_call, source_bits, natural_source, natural_bits, alternate_source, unsigned_bits, signed_bits, immediate_source, cond_code, annul_code, arith_code, cc_code, tagged_code, shift_code, read_code, write_code, memory_code, fp_word, cp_word}
use Rattle.sv8_assembler_laws.specs.WordLaws.{EncodingsDecode}
use Rattle.sv8_isa.proofs.FieldLemmas.{pow_half, signed_low, signed_high}
use Rattle.sv8_isa.proofs.Rows.{meaning_at}
use Rattle.sv8_isa.specs.declared.instr.Operand.{Operand}
use Rattle.sv8_isa.specs.declared.instr.Operand.TheVariants.{Register, Immediate}
use Rattle.sv8_isa.specs.declared.instr.Cond.{Cond}
use Rattle.sv8_isa.specs.declared.instr.Cond.TheVariants.{Never}
use Rattle.sv8_isa.specs.declared.instr.ArithOp.{ArithOp}
use Rattle.sv8_isa.specs.declared.instr.ArithOp.TheVariants.{Add}
use Rattle.sv8_isa.specs.declared.instr.TaggedOp.{TaggedOp}
use Rattle.sv8_isa.specs.declared.instr.TaggedOp.TheVariants.{TaddCc}
use Rattle.sv8_isa.specs.declared.instr.ShiftOp.{ShiftOp}
use Rattle.sv8_isa.specs.declared.instr.ShiftOp.TheVariants.{Sll}
use Rattle.sv8_isa.specs.declared.instr.StateRegister.{StateRegister}
use Rattle.sv8_isa.specs.declared.instr.StateRegister.TheVariants.{Y, Psr, Wim, Tbr}
use Rattle.sv8_isa.specs.declared.instr.MemoryOp.{MemoryOp}
use Rattle.sv8_isa.specs.declared.instr.MemoryOp.TheVariants.{Ld}
use Rattle.sv8_isa.specs.declared.instr.Instr.{Instr}
use Rattle.sv8_isa.specs.declared.instr.Instr.TheVariants.{Unimp, Bicc, Sethi, Call, Arith, Tagged, Mulscc, Shift, ReadState, Stbar, WriteState, Jmpl, Rett, Ticc, Flush, Save, Restore, Memory, Alternate, Fp, Cp, AltImm, Illegal}

-- ---- numbers in fields

unsigned_read : (v k n : ℕ) → unsigned_bits v k ≡ Some n → (v ≡ n) × (n < 2 ^ k)
unfolding unsigned_bits
unsigned_read v k n e =
    elim (cases_lt v (2 ^ k)) [
      | inl l ↦ let s : unsigned_bits v k ≡ Some v = grind (arith, nat_tests) in let q : v ≡ n = cc in (q, rw q at l)
      | inr l ↦ let s : unsigned_bits v k ≡ None = grind (arith, nat_tests) in (cc, absurd (cc))
    ]

signed_read : (z : ℤ) (k n : ℕ) → 0 < k → signed_bits z k ≡ Some n → (signed n k ≡ z) × (n < 2 ^ k)
unfolding signed_bits
signed_read (pos m) k n some e =
    let half = pow_half k some in
    elim (cases_lt m (2 ^ (k - 1))) [
      | inl l ↦
          let s : signed_bits (pos m) k ≡ Some m = grind (arith, nat_tests) in
          let q : m ≡ n = cc in
          let wide : m < 2 ^ k = omega arith in
          (rw (← q) (signed_low m k l), rw q at wide)
      | inr l ↦ let s : signed_bits (pos m) k ≡ None = grind (arith, nat_tests) in (cc, absurd (cc))
    ]
signed_read (negsuc m) k n some e =
    let half = pow_half k some in
    elim (cases_lt m (2 ^ (k - 1))) [
      | inl l ↦
          let s : signed_bits (negsuc m) k ≡ Some (2 ^ k - (m + 1)) = grind (arith, nat_tests) in
          let q : 2 ^ k - (m + 1) ≡ n = cc in
          let high : 2 ^ (k - 1) ≤ n = omega arith in
          let z : pos n -ℤ pos (2 ^ k) ≡ negsuc m = omega (arith, ints) in
          (signed_high n k high ∙ z, omega arith)
      | inr l ↦ let s : signed_bits (negsuc m) k ≡ None = grind (arith, nat_tests) in (cc, absurd (cc))
    ]

-- ---- formats

record Read3 (o a c b : ℕ) (s : Option ℕ) (w : ℕ) : Type 0 where
  low : ℕ
  is : s ≡ Some low
  whole : w ≡ o * 2 ^ 30 + a * 2 ^ 25 + c * 2 ^ 19 + b * 2 ^ 14 + low
  first : a < 32
  second : b < 32

format_3_read : (o a c b : ℕ) (s : Option ℕ) (w : ℕ) → format_3 o a c b s ≡ Some w → Read3 o a c b s w
unfolding format_3
format_3_read o a c b None w e = absurd (cc)
format_3_read o a c b (Some n) w e =
    elim (cases_lt a 32) [
      | inl la ↦ elim (cases_lt b 32) [
        | inl lb ↦
            let s : format_3 o a c b (Some n) ≡ Some (o * 2 ^ 30 + a * 2 ^ 25 + c * 2 ^ 19 + b * 2 ^ 14 + n) = grind (arith, nat_tests) in
            record { low = n; is = refl; whole = cc; first = la; second = lb }
        | inr lb ↦ let s : format_3 o a c b (Some n) ≡ None = grind (arith, nat_tests) in absurd (cc)
      ]
      | inr la ↦ let s : format_3 o a c b (Some n) ≡ None = grind (arith, nat_tests) in absurd (cc)
    ]

-- the fields of such a word
record Fields3 (o a c b low w : ℕ) : Type 0 where
  op : field w 31 30 ≡ o
  rd : field w 29 25 ≡ a
  op3 : field w 24 19 ≡ c
  rs1 : field w 18 14 ≡ b
  rest : w % 2 ^ 14 ≡ low
  small : w < 2 ^ 32

fields_3 : (o a c b low w : ℕ) → o < 4 → a < 32 → c < 64 → b < 32 → low < 2 ^ 14 → w ≡ o * 2 ^ 30 + a * 2 ^ 25 + c * 2 ^ 19 + b * 2 ^ 14 + low → Fields3 o a c b low w
unfolding field
fields_3 o a c b low w ho ha hc hb hl e = record {
  op = omega arith;
  rd = omega arith;
  op3 = omega arith;
  rs1 = omega arith;
  rest = omega arith;
  small = omega arith;
}

-- ---- second sources

immediate_read : (o : Option ℕ) (n : ℕ) → immediate_source o ≡ Some n → (v : ℕ) × ((o ≡ Some v) × (n ≡ 2 ^ 13 + v))
immediate_read None n e = absurd (cc)
immediate_read (Some v) n e = (v, (refl, cc))

natural_read : (z : ℤ) (k n : ℕ) → natural_bits z k ≡ Some n → (z ≡ pos n) × (n < 2 ^ k)
natural_read (pos m) k n e = let h = unsigned_read m k n e in (ap pos h.0, h.1)
natural_read (negsuc m) k n e = absurd (cc)

register_fields : (w n : ℕ) → w % 2 ^ 14 ≡ n → n < 32 → (field w 13 13 ≡ 0) × (field w 4 0 ≡ n)
unfolding field
register_fields w n e l = (omega arith, omega arith)

immediate_fields : (w v : ℕ) → w % 2 ^ 14 ≡ 2 ^ 13 + v → v < 2 ^ 13 → (field w 13 13 ≡ 1) × (field w 12 0 ≡ v)
unfolding field
immediate_fields w v e l = (omega arith, omega arith)

count_fields : (w v : ℕ) → w % 2 ^ 14 ≡ 2 ^ 13 + v → v < 2 ^ 5 → (field w 13 13 ≡ 1) × (field w 4 0 ≡ v)
unfolding field
count_fields w v e l = (omega arith, omega arith)

trap_fields : (w v : ℕ) → w % 2 ^ 14 ≡ 2 ^ 13 + v → v < 2 ^ 7 → (field w 13 13 ≡ 1) × (field w 6 0 ≡ v)
unfolding field
trap_fields w v e l = (omega arith, omega arith)

-- what a second source is read as, and that its bits are 14
record Source (n : ℕ) (P : ℕ → Type 0) : Type 0 where
  below : n < 2 ^ 14
  then : (w : ℕ) → w % 2 ^ 14 ≡ n → P w

source_read : (x : Operand) (n : ℕ) → source_bits x ≡ Some n → Source n (λ w. operand_of w ≡ x)
unfolding operand_of
source_read (Register r) n e =
    let h = unsigned_read r 5 n e in
    record {
      below = omega arith;
      then = λ w m. let f = register_fields w n m h.1 in rw (f.0, f.1, h.0) refl;
    }
source_read (Immediate z) n e =
    let v = immediate_read (signed_bits z 13) n e in
    let h = signed_read z 13 v.0 (omega arith) v.1.0 in
    record {
      below = omega arith;
      then = λ w m. let f = immediate_fields w v.0 (m ∙ v.1.1) h.1 in rw (f.0, f.1, h.0) refl;
    }

count_read : (x : Operand) (n : ℕ) → natural_source 5 x ≡ Some n → Source n (λ w. count_of w ≡ x)
unfolding count_of
count_read (Register r) n e =
    let h = unsigned_read r 5 n e in
    record {
      below = omega arith;
      then = λ w m. let f = register_fields w n m h.1 in rw (f.0, f.1, h.0) refl;
    }
count_read (Immediate z) n e =
    let v = immediate_read (natural_bits z 5) n e in
    let h = natural_read z 5 v.0 v.1.0 in
    record {
      below = omega arith;
      then = λ w m. let f = count_fields w v.0 (m ∙ v.1.1) h.1 in rw (f.0, f.1) (ap Immediate (sym h.0));
    }

trap_number_read : (x : Operand) (n : ℕ) → natural_source 7 x ≡ Some n → Source n (λ w. trap_number_of w ≡ x)
unfolding trap_number_of
trap_number_read (Register r) n e =
    let h = unsigned_read r 5 n e in
    record {
      below = omega arith;
      then = λ w m. let f = register_fields w n m h.1 in rw (f.0, f.1, h.0) refl;
    }
trap_number_read (Immediate z) n e =
    let v = immediate_read (natural_bits z 7) n e in
    let h = natural_read z 7 v.0 v.1.0 in
    record {
      below = omega arith;
      then = λ w m. let f = trap_fields w v.0 (m ∙ v.1.1) h.1 in rw (f.0, f.1) (ap Immediate (sym h.0));
    }

none_read : (n : ℕ) → Some 0 ≡ Some n → Source n (λ w. Unit {0})
none_read n e = let z : 0 ≡ n = cc in record { below = omega arith; then = λ w m. tt }

-- i = 0, asi and rs2
record AlternateFields (a b w : ℕ) : Type 0 where
  i : field w 13 13 ≡ 0
  asi : field w 12 5 ≡ a
  rs2 : field w 4 0 ≡ b

alternate_fields : (a b w : ℕ) → a < 2 ^ 8 → b < 2 ^ 5 → w % 2 ^ 14 ≡ a * 2 ^ 5 + b → AlternateFields a b w
unfolding field
alternate_fields a b w la lb m = record { i = omega arith; asi = omega arith; rs2 = omega arith }

alternate_read : (a b n : ℕ) → alternate_source a b ≡ Some n → Source n (λ w. AlternateFields a b w)
unfolding alternate_source
alternate_read a b n e =
    elim (cases_lt a (2 ^ 8)) [
      | inl la ↦ elim (cases_lt b (2 ^ 5)) [
        | inl lb ↦
            let s : alternate_source a b ≡ Some (a * 2 ^ 5 + b) = grind (arith, nat_tests) in
            let q : n ≡ a * 2 ^ 5 + b = cc in
            record { below = omega arith; then = λ w m. alternate_fields a b w la lb (m ∙ q) }
        | inr lb ↦ let s : alternate_source a b ≡ None = grind (arith, nat_tests) in absurd (cc)
      ]
      | inr la ↦ let s : alternate_source a b ≡ None = grind (arith, nat_tests) in absurd (cc)
    ]

-- ---- whole words

record Word3 (o a c b w : ℕ) (P : ℕ → Type 0) : Type 0 where
  op : field w 31 30 ≡ o
  rd : field w 29 25 ≡ a
  op3 : field w 24 19 ≡ c
  rs1 : field w 18 14 ≡ b
  small : w < 2 ^ 32
  second : P w

word_3 : (P : ℕ → Type 0) (o a c b w : ℕ) (s : Option ℕ) → o < 4 → c < 64 → ((n : ℕ) → s ≡ Some n → Source n P) → format_3 o a c b s ≡ Some w → Word3 o a c b w P
word_3 P o a c b w s ho hc source e =
    let r = format_3_read o a c b s w e in
    let t = source r.low r.is in
    let f = fields_3 o a c b r.low w ho r.first hc r.second t.below r.whole in
    record { op = f.op; rd = f.rd; op3 = f.op3; rs1 = f.rs1; small = f.small; second = t.then w f.rest }

-- ---- rows

arith_small : (o : ArithOp) (cc : Bool) → arith_code o + cc_code cc < 64
arith_small Add true = lit< tt
arith_small Add false = lit< tt
arith_small o true = lit< tt
arith_small o false = lit< tt

arith_row : (o : ArithOp) (cc : Bool) (w : ℕ) → instr_at (row_at 2 (arith_code o + cc_code cc) w) w ≡ Arith o cc (field w 29 25) (field w 18 14) (operand_of w)
arith_row Add true w = refl
arith_row Add false w = refl
arith_row o true w = refl
arith_row o false w = refl

tagged_small : (o : TaggedOp) → tagged_code o < 64
tagged_small TaddCc = lit< tt
tagged_small o = lit< tt

tagged_row : (o : TaggedOp) (w : ℕ) → instr_at (row_at 2 (tagged_code o) w) w ≡ Tagged o (field w 29 25) (field w 18 14) (operand_of w)
tagged_row TaddCc w = refl
tagged_row o w = refl

shift_small : (o : ShiftOp) → shift_code o < 64
shift_small Sll = lit< tt
shift_small o = lit< tt

shift_row : (o : ShiftOp) (w : ℕ) → instr_at (row_at 2 (shift_code o) w) w ≡ Shift o (field w 29 25) (field w 18 14) (count_of w)
shift_row Sll w = refl
shift_row o w = refl

memory_small : (o : MemoryOp) → (memory_code o < 64) × (memory_code o + 0x10 < 64)
memory_small Ld = (lit< tt, lit< tt)
memory_small o = (lit< tt, lit< tt)

memory_row : (o : MemoryOp) (w : ℕ) → instr_at (row_at 3 (memory_code o) w) w ≡ Memory o (field w 29 25) (field w 18 14) (operand_of w)
memory_row Ld w = refl
memory_row o w = refl

alternate_row : (o : MemoryOp) (w : ℕ) → field w 13 13 ≡ 0 → instr_at (row_at 3 (memory_code o + 0x10) w) w ≡ Alternate o (field w 29 25) (field w 18 14) (field w 4 0) (field w 12 5)
alternate_row Ld w e = rw e refl
alternate_row o w e = rw e refl

read_small : (r : StateRegister) → read_code r < 64
read_small Y = lit< tt
read_small r = lit< tt

read_row : (r : StateRegister) (w : ℕ) → field w 18 14 ≡ 0 → instr_at (row_at 2 (read_code r) w) w ≡ ReadState r (field w 29 25)
read_row Y w e = rw e refl
read_row Psr w e = refl
read_row Wim w e = refl
read_row Tbr w e = refl

write_small : (r : StateRegister) → write_code r < 64
write_small Y = lit< tt
write_small r = lit< tt

write_row : (r : StateRegister) (w : ℕ) → field w 29 25 ≡ 0 → instr_at (row_at 2 (write_code r) w) w ≡ WriteState r (field w 18 14) (operand_of w)
write_row Y w e = rw e refl
write_row Psr w e = refl
write_row Wim w e = refl
write_row Tbr w e = refl

-- ---- conditions

cond_back : (c : Cond) → condition_of (cond_code c) ≡ c
unfolding condition_of
cond_back Never = refl
cond_back c = refl

cond_small : (c : Cond) → cond_code c < 16
cond_small Never = lit< tt
cond_small c = lit< tt

condition_fields : (w c : ℕ) → field w 29 25 ≡ c → c < 16 → field w 28 25 ≡ c
unfolding field
condition_fields w c e l = omega arith

annul_fields : (w c : ℕ) → field w 29 25 ≡ 16 + c → c < 16 → (field w 28 25 ≡ c) × (field w 29 29 ≡ 1)
unfolding field
annul_fields w c e l = (omega arith, omega arith)

stay_fields : (w c : ℕ) → field w 29 25 ≡ 0 + c → c < 16 → (field w 28 25 ≡ c) × (field w 29 29 ≡ 0)
unfolding field
stay_fields w c e l = (omega arith, omega arith)

-- ---- op 0 and 1

record Word2 (a c : ℕ) (s : Option ℕ) (w : ℕ) : Type 0 where
  op : field w 31 30 ≡ 0
  first : field w 29 25 ≡ a
  op2 : field w 24 22 ≡ c
  is : s ≡ Some (field w 21 0)
  small : w < 2 ^ 32

fields_2 : (a c n w : ℕ) → a < 32 → c < 8 → n < 2 ^ 22 → w ≡ a * 2 ^ 25 + c * 2 ^ 22 + n → Word2 a c (Some n) w
unfolding field
fields_2 a c n w ha hc hn e =
    let f : n ≡ w / 2 ^ 0 % 2 ^ (21 - 0 + 1) = omega arith in
    record { op = omega arith; first = omega arith; op2 = omega arith; is = ap Some f; small = omega arith }

word_2 : (a c w : ℕ) (s : Option ℕ) → c < 8 → ((n : ℕ) → s ≡ Some n → n < 2 ^ 22) → format_2 a c s ≡ Some w → Word2 a c s w
unfolding format_2
word_2 a c w None hc small e = absurd (cc)
word_2 a c w (Some n) hc small e =
    elim (cases_lt a 32) [
      | inl la ↦
          let s : format_2 a c (Some n) ≡ Some (a * 2 ^ 25 + c * 2 ^ 22 + n) = grind (arith, nat_tests) in
          let q : w ≡ a * 2 ^ 25 + c * 2 ^ 22 + n = cc in
          fields_2 a c n w la hc (small n refl) q
      | inr la ↦ let s : format_2 a c (Some n) ≡ None = grind (arith, nat_tests) in absurd (cc)
    ]

record WordCall (s : Option ℕ) (w : ℕ) : Type 0 where
  op : field w 31 30 ≡ 1
  is : s ≡ Some (field w 29 0)
  small : w < 2 ^ 32

fields_call : (n w : ℕ) → n < 2 ^ 30 → w ≡ 1 * 2 ^ 30 + n → WordCall (Some n) w
unfolding field
fields_call n w hn e =
    let f : n ≡ w / 2 ^ 0 % 2 ^ (29 - 0 + 1) = omega arith in
    record { op = omega arith; is = ap Some f; small = omega arith }

word_call : (w : ℕ) (s : Option ℕ) → ((n : ℕ) → s ≡ Some n → n < 2 ^ 30) → format_call 1 s ≡ Some w → WordCall s w
unfolding format_call
word_call w None small e = absurd (cc)
word_call w (Some n) small e = fields_call n w (small n refl) (cc)

branch_read : (cond : Cond) (annul : Bool) (z : ℤ) (w : ℕ) → format_2 (annul_code annul + cond_code cond) 2 (signed_bits z 22) ≡ Some w → meaning w ≡ Bicc cond annul z
branch_read cond true z w e =
    let r = word_2 (16 + cond_code cond) 2 w (signed_bits z 22) (lit< tt) (λ n h. (signed_read z 22 n (omega arith) h).1) e in
    let f = annul_fields w (cond_code cond) r.first (cond_small cond) in
    let d = signed_read z 22 (field w 21 0) (omega arith) r.is in
    meaning_at w 0 (field w 24 19) r.op refl ∙ rw (r.op2, f.0, f.1, cond_back cond, d.0) refl
branch_read cond false z w e =
    let r = word_2 (0 + cond_code cond) 2 w (signed_bits z 22) (lit< tt) (λ n h. (signed_read z 22 n (omega arith) h).1) e in
    let f = stay_fields w (cond_code cond) r.first (cond_small cond) in
    let d = signed_read z 22 (field w 21 0) (omega arith) r.is in
    meaning_at w 0 (field w 24 19) r.op refl ∙ rw (r.op2, f.0, f.1, cond_back cond, d.0) refl

-- ---- words kept whole

fp_read : (w v : ℕ) (i : Instr) → fp_word v i ≡ Some w → (i ≡ Fp v) × (v ≡ w)
fp_read w v (Fp u) e =
    elim (cases_Bool (u == v)) [
      | inl h ↦ let s : fp_word v (Fp u) ≡ Some v = rw h in (ap Fp (eqb-true _ _ h), cc)
      | inr h ↦ let s : fp_word v (Fp u) ≡ None = rw h in (absurd (cc), absurd (cc))
    ]
fp_read w v i e = (absurd (cc), absurd (cc))

cp_read : (w v : ℕ) (i : Instr) → cp_word v i ≡ Some w → (i ≡ Cp v) × (v ≡ w)
cp_read w v (Cp u) e =
    elim (cases_Bool (u == v)) [
      | inl h ↦ let s : cp_word v (Cp u) ≡ Some v = rw h in (ap Cp (eqb-true _ _ h), cc)
      | inr h ↦ let s : cp_word v (Cp u) ≡ None = rw h in (absurd (cc), absurd (cc))
    ]
cp_read w v i e = (absurd (cc), absurd (cc))

pub forth : EncodingsDecode
unfolding encoding
forth (Unimp n) w e =
    let r = word_2 0 0 w (unsigned_bits n 22) (lit< tt) (λ m h. (unsigned_read n 22 m h).1) e in
    let d = unsigned_read n 22 (field w 21 0) r.is in
    meaning_at w 0 (field w 24 19) r.op refl ∙ rw r.op2 (ap Unimp (sym d.0))
forth (Bicc cond annul z) w e = branch_read cond annul z w e
forth (Sethi n rd) w e =
    let r = word_2 rd 4 w (unsigned_bits n 22) (lit< tt) (λ m h. (unsigned_read n 22 m h).1) e in
    let d = unsigned_read n 22 (field w 21 0) r.is in
    meaning_at w 0 (field w 24 19) r.op refl ∙ rw (r.op2, r.first) (ap (λ m. Sethi m rd) (sym d.0))
forth (Call z) w e =
    let r = word_call w (signed_bits z 30) (λ n h. (signed_read z 30 n (omega arith) h).1) e in
    let d = signed_read z 30 (field w 29 0) (omega arith) r.is in
    meaning_at w 1 (field w 24 19) r.op refl ∙ ap Call d.0
forth (Arith o cc rd rs1 x) w e =
    let r = word_3 (λ w. operand_of w ≡ x) 2 rd (arith_code o + cc_code cc) rs1 w (source_bits x) (lit< tt) (arith_small o cc) (source_read x) e in
    meaning_at w 2 (arith_code o + cc_code cc) r.op r.op3 ∙ arith_row o cc w ∙ rw (r.rd, r.rs1, r.second) refl
forth (Tagged o rd rs1 x) w e =
    let r = word_3 (λ w. operand_of w ≡ x) 2 rd (tagged_code o) rs1 w (source_bits x) (lit< tt) (tagged_small o) (source_read x) e in
    meaning_at w 2 (tagged_code o) r.op r.op3 ∙ tagged_row o w ∙ rw (r.rd, r.rs1, r.second) refl
forth (Mulscc rd rs1 x) w e =
    let r = word_3 (λ w. operand_of w ≡ x) 2 rd 0x24 rs1 w (source_bits x) (lit< tt) (lit< tt) (source_read x) e in
    meaning_at w 2 0x24 r.op r.op3 ∙ rw (r.rd, r.rs1, r.second) refl
forth (Shift o rd rs1 x) w e =
    let r = word_3 (λ w. count_of w ≡ x) 2 rd (shift_code o) rs1 w (natural_source 5 x) (lit< tt) (shift_small o) (count_read x) e in
    meaning_at w 2 (shift_code o) r.op r.op3 ∙ shift_row o w ∙ rw (r.rd, r.rs1, r.second) refl
forth (ReadState s rd) w e =
    let r = word_3 (λ w. Unit {0}) 2 rd (read_code s) 0 w (Some 0) (lit< tt) (read_small s) none_read e in
    meaning_at w 2 (read_code s) r.op r.op3 ∙ read_row s w r.rs1 ∙ rw r.rd refl
forth Stbar w e =
    let r = word_3 (λ w. Unit {0}) 2 0 0x28 15 w (Some 0) (lit< tt) (lit< tt) none_read e in
    meaning_at w 2 0x28 r.op r.op3 ∙ rw (r.rs1, r.rd) (refl {a = Stbar})
forth (WriteState s rs1 x) w e =
    let r = word_3 (λ w. operand_of w ≡ x) 2 0 (write_code s) rs1 w (source_bits x) (lit< tt) (write_small s) (source_read x) e in
    meaning_at w 2 (write_code s) r.op r.op3 ∙ write_row s w r.rd ∙ rw (r.rs1, r.second) refl
forth (Jmpl rd rs1 x) w e =
    let r = word_3 (λ w. operand_of w ≡ x) 2 rd 0x38 rs1 w (source_bits x) (lit< tt) (lit< tt) (source_read x) e in
    meaning_at w 2 0x38 r.op r.op3 ∙ rw (r.rd, r.rs1, r.second) refl
forth (Rett rs1 x) w e =
    let r = word_3 (λ w. operand_of w ≡ x) 2 0 0x39 rs1 w (source_bits x) (lit< tt) (lit< tt) (source_read x) e in
    meaning_at w 2 0x39 r.op r.op3 ∙ rw (r.rs1, r.second) refl
forth (Ticc cond rs1 x) w e =
    let r = word_3 (λ w. trap_number_of w ≡ x) 2 (cond_code cond) 0x3A rs1 w (natural_source 7 x) (lit< tt) (lit< tt) (trap_number_read x) e in
    let c = condition_fields w (cond_code cond) r.rd (cond_small cond) in
    meaning_at w 2 0x3A r.op r.op3 ∙ rw (c, cond_back cond, r.rs1, r.second) refl
forth (Flush rs1 x) w e =
    let r = word_3 (λ w. operand_of w ≡ x) 2 0 0x3B rs1 w (source_bits x) (lit< tt) (lit< tt) (source_read x) e in
    meaning_at w 2 0x3B r.op r.op3 ∙ rw (r.rs1, r.second) refl
forth (Save rd rs1 x) w e =
    let r = word_3 (λ w. operand_of w ≡ x) 2 rd 0x3C rs1 w (source_bits x) (lit< tt) (lit< tt) (source_read x) e in
    meaning_at w 2 0x3C r.op r.op3 ∙ rw (r.rd, r.rs1, r.second) refl
forth (Restore rd rs1 x) w e =
    let r = word_3 (λ w. operand_of w ≡ x) 2 rd 0x3D rs1 w (source_bits x) (lit< tt) (lit< tt) (source_read x) e in
    meaning_at w 2 0x3D r.op r.op3 ∙ rw (r.rd, r.rs1, r.second) refl
forth (Memory o rd rs1 x) w e =
    let r = word_3 (λ w. operand_of w ≡ x) 3 rd (memory_code o) rs1 w (source_bits x) (lit< tt) (memory_small o).0 (source_read x) e in
    meaning_at w 3 (memory_code o) r.op r.op3 ∙ memory_row o w ∙ rw (r.rd, r.rs1, r.second) refl
forth (Alternate o rd rs1 rs2 asi) w e =
    let r = word_3 (λ w. AlternateFields asi rs2 w) 3 rd (memory_code o + 0x10) rs1 w (alternate_source asi rs2) (lit< tt) (memory_small o).1 (alternate_read asi rs2) e in
    meaning_at w 3 (memory_code o + 0x10) r.op r.op3 ∙ alternate_row o w r.second.i ∙ rw (r.rd, r.rs1, r.second.asi, r.second.rs2) refl
forth (Fp v) w e = let r = fp_read w v (meaning v) e in rw (← r.1) r.0
forth (Cp v) w e = let r = cp_read w v (meaning v) e in rw (← r.1) r.0
forth AltImm w e = absurd (cc)
forth Illegal w e = absurd (cc)
