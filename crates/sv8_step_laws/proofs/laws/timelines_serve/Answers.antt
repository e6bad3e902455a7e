use Rattle.sv8_cpu.proofs.Common.{serves}
use Rattle.sv8_step_laws.proofs.laws.timelines_serve.Goals as goal

pub returns : goal.returns
returns c = serves
