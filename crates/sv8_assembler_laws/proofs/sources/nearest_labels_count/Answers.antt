use Rattle.sv8_assembler_laws.proofs.LaidMarks.{nearest_labels_count}
use Rattle.sv8_assembler_laws.proofs.sources.nearest_labels_count.Goals as goal

pub returns : goal.returns
returns c = nearest_labels_count
