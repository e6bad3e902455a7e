use Rattle.std.proofs.Common.{◌≡◌, ℕ, false, length, get_or, cond, leb, ltb, ◌&&◌}
use Rattle.sv8_notes.proofs.column.LevelColumn.set.Given as goal

abbrev pub invariant-loop-index : goal.invariant-loop-index
invariant-loop-index l = record {
  long : length l.self-inside.pending.items ≡ length l.initial.self-inside.pending.items;
  done : (j : ℕ) → get_or l.self-inside.pending.items j false ≡ cond (leb l.low j && ltb j l.index) l.pending (get_or l.initial.self-inside.pending.items j false);
}
