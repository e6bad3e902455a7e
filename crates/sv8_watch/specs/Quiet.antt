-- Steps that take no trap, and steps that leave the console alone, by the states before and after them.
use Rattle.std.specs.Prelude.{◌≡◌, ℕ, false, length}
use Rattle.sv8_time.specs.Schedule.{Schedule}
use Rattle.sv8_cpu.specs.State.{State}
use Rattle.sv8_cpu.specs.Run.{step}
use Rattle.sv8_cpu.specs.Trapping.{may_have_trapped, may_have_trapped_of}
use Rattle.sv8_watch.specs.declared.condition.Condition.TheVariants as condition
use Rattle.sv8_watch.specs.Conditions.{meets}

-- A STEP THAT DID NOT LEAD A MACHINE THAT RAN WHERE A TRAP LEADS takes none, of whatever type, and none that ends in error mode.
pub record TakesNoTrap (windows pages : ℕ) (schedule : Schedule) (n : ℕ) (s : State) : Type 0 where
  pub none : meets windows pages schedule n s condition.Trap ≡ false
  pub none_of : (tt : ℕ) → meets windows pages schedule n s (condition.TrapType tt) ≡ false
  pub no_error : meets windows pages schedule n s condition.Error ≡ false

abbrev pub TraplessStepsMiss : Type 0
TraplessStepsMiss = (windows pages : ℕ) (schedule : Schedule) (n : ℕ) (s : State) → may_have_trapped s.processor (step windows pages schedule n s).processor ≡ false
    → TakesNoTrap windows pages schedule n s

-- A STEP THAT DID NOT LEAD A MACHINE THAT RAN WHERE A TRAP OF A TYPE LEADS takes none of this type.
abbrev pub OtherTypesMiss : Type 0
OtherTypesMiss = (type windows pages : ℕ) (schedule : Schedule) (n : ℕ) (s : State)
    → may_have_trapped_of type s.processor (step windows pages schedule n s).processor ≡ false → meets windows pages schedule n s (condition.TrapType type) ≡ false

-- A STEP AFTER WHICH AS MANY BYTES ARE TAKEN as before takes none; one after which as many are put out puts none out.
pub record QuietStepsMiss : Type 0 where
  pub taken : (windows pages : ℕ) (schedule : Schedule) (n : ℕ) (s : State) → s.memory.taken ≡ (step windows pages schedule n s).memory.taken
      → meets windows pages schedule n s condition.Input ≡ false
  pub put : (windows pages : ℕ) (schedule : Schedule) (n : ℕ) (s : State) → length s.memory.output ≡ length (step windows pages schedule n s).memory.output
      → meets windows pages schedule n s condition.Output ≡ false
