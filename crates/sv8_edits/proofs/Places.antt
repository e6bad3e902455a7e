-- What an edit of the timeline that is not refused says of its step and its place.
use Rattle.std.proofs.Common.{◌≡◌, ℕ, ◌+◌, ◌%◌, ◌<◌, ◌≤◌, ◌==◌, ◌&&◌, Bool, true, false, not, cond, nat_lt, nat_le, Option, Some, None, refl}
use Rattle.std.proofs.lemmas.Bool.{eqb-true, ltb-false, ltb-true, leb-true}
use Rattle.sv8_time.specs.declared.fault.TimeFault.{TimeFault}
use Rattle.sv8_time.specs.declared.fault.TimeFault.TheVariants.{StepTooLarge, BadAddress, BadLevel, NothingThere, TooManyEvents}
use Rattle.sv8_time.specs.Schedule.{Schedule, has_poke, has_word, has_request, is_one_too_many, is_word, is_level, set_poke_fault, set_poke_byte_fault, clear_poke_fault, clear_poke_byte_fault, set_request_fault, clear_request_fault}

first_false : (a b : Bool) (x y : TimeFault) (rest : Option TimeFault) → cond a (Some x) (cond (not b) (Some y) rest) ≡ None → a ≡ false
first_false true b x y rest e = absurd (cc)
first_false false b x y rest e = refl

then_true : (a b : Bool) (x y : TimeFault) (rest : Option TimeFault) → cond a (Some x) (cond (not b) (Some y) rest) ≡ None → b ≡ true
then_true true b x y rest e = absurd (cc)
then_true false true x y rest e = refl
then_true false false x y rest e = absurd (cc)

step_of : (step : ℕ) (b : Bool) (y : TimeFault) (rest : Option TimeFault) → cond (nat_lt 1000000 step) (Some StepTooLarge) (cond (not b) (Some y) rest) ≡ None → step ≤ 1000000
step_of step b y rest e = ltb-false 1000000 step (first_false (nat_lt 1000000 step) b StepTooLarge y rest e)

left : (p q : Bool) → (p && q) ≡ true → p ≡ true
left true q e = refl
left false q e = absurd (cc)

right : (p q : Bool) → (p && q) ≡ true → q ≡ true
right true q e = e
right false q e = absurd (cc)

word_parts : (a limit : ℕ) → is_word a limit ≡ true → (a % 4 ≡ 0) × (a + 4 ≤ limit)
word_parts a limit h = (eqb-true (a % 4) 0 (left (a % 4 == 0) (nat_le (a + 4) limit) h), leb-true (a + 4) limit (right (a % 4 == 0) (nat_le (a + 4) limit) h))

level_parts : (l : ℕ) → is_level l ≡ true → (1 ≤ l) × (l ≤ 15)
level_parts l h = (leb-true 1 l (left (nat_le 1 l) (nat_le l 15) h), leb-true l 15 (right (nat_le 1 l) (nat_le l 15) h))

module _ (step : ℕ) (s : Schedule) where
  pub poke_step : (address : ℕ) → set_poke_fault step address s ≡ None → step ≤ 1000000
  poke_step address e = step_of step (is_word address s.limit) BadAddress (cond (is_one_too_many (has_word step address s.pokes) s) (Some TooManyEvents) None) e

  pub poke_word : (address : ℕ) → set_poke_fault step address s ≡ None → (address % 4 ≡ 0) × (address + 4 ≤ s.limit)
  poke_word address e = word_parts address s.limit (then_true (nat_lt 1000000 step) (is_word address s.limit) StepTooLarge BadAddress (cond (is_one_too_many (has_word step address s.pokes) s) (Some TooManyEvents) None) e)

  pub clear_word : (address : ℕ) → clear_poke_fault step address s ≡ None → (address % 4 ≡ 0) × (address + 4 ≤ s.limit)
  clear_word address e = word_parts address s.limit (then_true (nat_lt 1000000 step) (is_word address s.limit) StepTooLarge BadAddress (cond (not (has_word step address s.pokes)) (Some NothingThere) None) e)

  pub poke_byte_step : (address : ℕ) → set_poke_byte_fault step address s ≡ None → step ≤ 1000000
  poke_byte_step address e = step_of step (nat_lt address s.limit) BadAddress (cond (is_one_too_many (has_word step address s.pokes) s) (Some TooManyEvents) None) e

  pub poke_byte_place : (address : ℕ) → set_poke_byte_fault step address s ≡ None → address < s.limit
  poke_byte_place address e = ltb-true address s.limit (then_true (nat_lt 1000000 step) (nat_lt address s.limit) StepTooLarge BadAddress (cond (is_one_too_many (has_word step address s.pokes) s) (Some TooManyEvents) None) e)

  pub clear_byte_place : (address : ℕ) → clear_poke_byte_fault step address s ≡ None → address < s.limit
  clear_byte_place address e = ltb-true address s.limit (then_true (nat_lt 1000000 step) (nat_lt address s.limit) StepTooLarge BadAddress (cond (not (has_poke step address s.pokes)) (Some NothingThere) None) e)

  pub request_step : (level : ℕ) → set_request_fault step level s ≡ None → step ≤ 1000000
  request_step level e = step_of step (is_level level) BadLevel (cond (is_one_too_many (has_request step level s.requests) s) (Some TooManyEvents) None) e

  pub request_level : (level : ℕ) → set_request_fault step level s ≡ None → (1 ≤ level) × (level ≤ 15)
  request_level level e = level_parts level (then_true (nat_lt 1000000 step) (is_level level) StepTooLarge BadLevel (cond (is_one_too_many (has_request step level s.requests) s) (Some TooManyEvents) None) e)

  pub clear_request_level : (level : ℕ) → clear_request_fault step level s ≡ None → (1 ≤ level) × (level ≤ 15)
  clear_request_level level e = level_parts level (then_true (nat_lt 1000000 step) (is_level level) StepTooLarge BadLevel (cond (not (has_request step level s.requests)) (Some NothingThere) None) e)
