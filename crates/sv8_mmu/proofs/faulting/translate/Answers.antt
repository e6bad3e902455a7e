use Rattle.sv8_model.proofs.Common.{does_map}
use Rattle.sv8_mmu.specs.Answers.{answer_of}
use Rattle.sv8_mmu.proofs.faulting.translate.Goals as goal

pub returns-clause-ok : goal.returns-clause-ok
returns-clause-ok g c = λ bytes. does_map _ _ (answer_of c.args.access.address c.args.access.access_type) _ _ _ _ _ _ (c.in_ok-translated.ensures.ok bytes) c.answer_of.ensures
