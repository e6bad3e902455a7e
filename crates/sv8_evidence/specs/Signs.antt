-- What the signs of recorded steps say.
use Rattle.std.specs.Prelude.{ℕ, ◌^◌, ◌%◌, ◌==◌, ◌&&◌, nat_le, nat_lt, Bool, true, false, Option, Some, None}
use Rattle.std.specs.List.{list_any}
use Rattle.sv8_mmu.specs.Registers.{translates}
use Rattle.sv8_cpu.specs.State.{State}
use Rattle.sv8_cpu.specs.Trapping.{may_have_trapped, may_have_trapped_of}
use Rattle.sv8_trace.specs.declared.signs.TrapNote.{TrapNote}
use Rattle.sv8_trace.specs.Signs.{Signs}
use Rattle.sv8_evidence.specs.declared.signs.Sign.{Sign}
use Rattle.sv8_evidence.specs.declared.signs.Sign.TheVariants as sign

-- a trap may have been of a type: this type stands in TBR after it, or it led to error mode
abbrev pub may_be_of : ℕ → Option ℕ → Bool
may_be_of type None = true
may_be_of type (Some there) = there == type % 2 ^ 8

-- THE STEP WITH THIS OFFSET HAS A SIGN; the translation of addresses is that of all steps together
abbrev pub has_sign : Sign → ℕ → Signs → Bool
has_sign sign.Translation j s = s.translation
has_sign sign.Trap j s = list_any (λ t. t.offset == j) s.traps
has_sign (sign.TrapType type) j s = list_any (λ t. t.offset == j && may_be_of type t.trap_type) s.traps

-- the trap of a note has the sign
abbrev pub is_note_of : Sign → TrapNote → Bool
is_note_of sign.Translation t = false
is_note_of sign.Trap t = true
is_note_of (sign.TrapType type) t = may_be_of type t.trap_type

-- the same of the trap of a step from one offset on and below another
abbrev pub is_note_between : Sign → (from end : ℕ) → TrapNote → Bool
is_note_between sign from end t = (nat_le from t.offset && nat_lt t.offset end) && is_note_of sign t

-- ONE OF THE STEPS FROM ONE OFFSET ON AND BELOW ANOTHER HAS A SIGN
abbrev pub has_sign_between : Sign → (from end : ℕ) → Signs → Bool
has_sign_between sign.Translation from end s = s.translation
has_sign_between sign.Trap from end s = list_any (is_note_between sign.Trap from end) s.traps
has_sign_between (sign.TrapType type) from end s = list_any (is_note_between (sign.TrapType type) from end) s.traps

-- ---- what states show

-- the states before and after a step show it
abbrev pub shows : Sign → State → State → Bool
shows sign.Translation before after = translates before.mmu
shows sign.Trap before after = may_have_trapped before.processor after.processor
shows (sign.TrapType type) before after = may_have_trapped_of type before.processor after.processor
