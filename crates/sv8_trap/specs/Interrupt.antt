-- Which interrupt is taken (section 7.5).
use Rattle.std.specs.Prelude.{ℕ, zero, suc, ◌-◌, ◌*◌, ◌^◌, ◌==◌, if◌then◌else◌}
use Rattle.sv8_model.specs.Words.{bit}

-- the levels that are not masked, bit l for level l: those above PIL, and 15 always
unfoldable pub unmasked : ℕ → ℕ
unmasked pil = if pil == 15 then 2 ^ 15 else 2 ^ 16 - 2 * 2 ^ pil

-- the highest level of a word, from one down; 0 where there is none
abbrev pub highest_from : ℕ → ℕ → ℕ
highest_from zero word = 0
highest_from (suc l) word = if bit word (suc l) then suc l else highest_from l word

-- the highest level of a word
abbrev pub highest : ℕ → ℕ
highest word = highest_from 15 word
