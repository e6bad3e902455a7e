use Rattle.sv8_reset.proofs.Runs.{state_is, footprint_is}
use Rattle.sv8_step_laws.proofs.laws.runs_agree.Goals as goal

pub returns : goal.returns
returns c = λ windows pages source schedule valid n. (state_is windows pages source schedule valid n, footprint_is windows pages source schedule valid n)
