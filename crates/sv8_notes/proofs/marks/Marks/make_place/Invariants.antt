use Rattle.std.proofs.Common.{ℕ, ◌≡◌, ◌+◌, ◌-◌, length}
use Rattle.sv8_notes.specs.Marks.{mark_of}
use Rattle.sv8_notes.proofs.marks.Marks.make_place.Given as goal

abbrev pub invariant-loop-alloc : goal.invariant-loop-alloc
invariant-loop-alloc l = (a : ℕ) → mark_of l.self-inside.pages.items a ≡ mark_of l.fn.self a

abbrev pub decreases-loop-alloc : goal.decreases-loop-alloc
decreases-loop-alloc l = l.page + 1 - length l.self-inside.pages.items
