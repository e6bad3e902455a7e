use Rattle.std.proofs.Common.{ap, ◌∙◌}
use Rattle.sv8_notes.specs.Kept.{kept_in}
use Rattle.sv8_notes.proofs.KeptLists.{kept_in-without}
use Rattle.sv8_notes.proofs.kept.KeptList.remove.Goals as goal

pub returns : goal.returns
returns c = λ j cell. ap (kept_in j cell) c.drop_value.ensures ∙ kept_in-without c.args.offset c.args.cell j cell c.args.self.now
