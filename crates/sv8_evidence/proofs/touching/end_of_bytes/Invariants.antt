use Rattle.std.proofs.Common.{◌≡◌, ◌≤◌, ◌<◌, ◌*◌, ◌/◌, ℕ, false}
use Rattle.sv8_notes.specs.declared.cell.Cell.TheVariants.{Byte}
use Rattle.sv8_notes.specs.declared.notes.Sought.TheVariants.{Touch}
use Rattle.sv8_notes.specs.Sought.{is_met}
use Rattle.sv8_trace.specs.Recording.{recorded, trace_of}
use Rattle.sv8_evidence.proofs.touching.end_of_bytes.Given as goal

abbrev pub invariant-loop-word : goal.invariant-loop-word
invariant-loop-word g l = record {
  end : l.end ≤ recorded g.row.K l.trace;
  none : (w n : ℕ) → l.address / 4 ≤ w → w < l.word → l.end ≤ n → n < recorded g.row.K l.trace
      → is_met (Touch (Byte (4 * w))) ((trace_of g.row.NW g.row.PAGES g.row.K l.trace).notes n) ≡ false;
}
