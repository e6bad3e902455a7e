-- An edit keeps the recorded run, and leaves as much of it as its first read allows.
use Rattle.std.proofs.Common.{◌≡◌, ℕ, ◌*◌, ◌<◌, ◌≤◌, false, List, [], ◌∷◌, Option, Some, None, refl, ◌∙◌, mul-le-mul_left}
use Rattle.std.proofs.lemmas.Bool.{or_parts}
use Rattle.sv8_history.specs.Machine.{Machine, Run, footprint_at}
use Rattle.sv8_history.specs.Framed.{IsFramed}
use Rattle.sv8_history.specs.Trace.{Trace, IsTraceOf}
use Rattle.sv8_history.specs.Changes.{Cause, Image, Poke, Clear, Change, IsChanged, IsEdited, IsFitting, IsApart, ArePlanned}
use Rattle.sv8_history.specs.Reads.{reads_change, reads_edit, IsFirstRead, first_of_edit}
use Rattle.sv8_history.specs.Patches.{count_after, cut, patch, patch_all}
use Rattle.sv8_history.specs.Laws.{IsRightCount, EditCounts, EditKeeps}
use Rattle.sv8_history.proofs.Footprints.{edit_like}
use Rattle.sv8_history.proofs.Least.{right_count, cut_unread}
use Rattle.sv8_history.proofs.Silent.{later_keeps}
use Rattle.sv8_history.proofs.Cut.{cut_keeps}
use Rattle.sv8_history.proofs.Patched.{patch_keeps}
use Rattle.sv8_history.proofs.Others.{planned_all, planned_sooner}

-- a patch changes no note, nor how many there are
record SameNotes (m : Machine) (trace other : Trace m) : Type 0 where
  count : other.count ≡ trace.count
  notes : other.notes ≡ trace.notes

patch_notes : (m : Machine) (k : ℕ) (trace : Trace m) (c : Change m) → SameNotes m trace (patch m k trace c)
patch_notes m k trace c = parts c.cause
  where
    parts : (d : Cause m.Value) → SameNotes m trace (patch m k trace (record { cell = c.cell; from = c.from; to = c.to; cause = d }))
    parts (Poke v) = record { count = refl; notes = refl }
    parts (Image v) = record { count = refl; notes = refl }
    parts Clear = cleared (trace.kept c.from c.cell) refl
      where
        cleared : (o : Option m.Value) → trace.kept c.from c.cell ≡ o
            → SameNotes m trace (patch m k trace (record { cell = c.cell; from = c.from; to = c.to; cause = Clear }))
        cleared None e = rw e (record { count = refl; notes = refl })
        cleared (Some v) e = rw e (record { count = refl; notes = refl })

patched_plan : (m : Machine) → IsFramed m → (k : ℕ) (old mid : Run m) (trace : Trace m) (c : Change m) (cs : List (Change m))
    → m.Has c.cell old.start × IsFitting m c
    → IsApart m c.cell cs → ArePlanned m old (k * trace.count) cs → IsChanged m c old mid → ArePlanned m mid (k * (patch m k trace c).count) cs
patched_plan m law k old mid trace c cs fits apart plan change =
    let p = patch_notes m k trace c in
    let e = p.count in
    rw e (planned_all m law old mid (k * trace.count) c fits change cs apart plan)

patched_reads : (m : Machine) (k : ℕ) (trace : Trace m) (c : Change m) (cs : List (Change m))
    → ((n : ℕ) → n < k * trace.count → reads_edit m trace.notes (c ∷ cs) n ≡ false) → (n : ℕ) → n < k * (patch m k trace c).count
    → reads_edit m (patch m k trace c).notes cs n ≡ false
patched_reads m k trace c cs quiet n l =
    let p = patch_notes m k trace c in
    let e = p.count in
    let f = p.notes in
    let h : n < k * trace.count = rw (← e) l in
    rw f (or_parts (reads_change m trace.notes c n) (reads_edit m trace.notes cs n) (quiet n h)).1

patches_keep : (m : Machine) → IsFramed m → (k : ℕ) → 0 < k → (old new : Run m) (trace : Trace m) (cs : List (Change m)) → IsTraceOf m k old trace
    → ArePlanned m old (k * trace.count) cs → IsEdited m cs old new → ((n : ℕ) → n < k * trace.count → reads_edit m trace.notes cs n ≡ false)
    → IsTraceOf m k new (patch_all m k trace cs)
patches_keep m law k pos old new trace [] right plan edit quiet = later_keeps m k pos old new trace right edit.0 (λ n l. edit.1 n)
patches_keep m law k pos old new trace (c ∷ cs) right plan edit quiet =
    patches_keep
    m law k pos edit.0 new (patch m k trace c) cs
    (patch_keeps m law k pos old edit.0 trace c right plan.0 edit.1 (λ n l. (or_parts (reads_change m trace.notes c n) (reads_edit m trace.notes cs n) (quiet n l)).0))
    (patched_plan m law k old edit.0 trace c cs (plan.0.has, plan.0.fits) plan.1 plan.2 edit.1)
    edit.2
    (patched_reads m k trace c cs quiet)

first_read_cuts : (m : Machine) (k : ℕ) → 0 < k → (run : Run m) (trace : Trace m) (cs : List (Change m)) → IsTraceOf m k run trace
    → IsRightCount k trace.count (count_after k trace.count (first_of_edit m k trace cs)) (IsFirstRead m run cs)
first_read_cuts m k pos run trace cs right =
    right_count k trace.count pos (reads_edit m trace.notes cs) (reads_edit m (footprint_at m run) cs) (edit_like m trace.notes (footprint_at m run) (k * trace.count) right.notes cs)

patches_count : (m : Machine) (k : ℕ) (trace : Trace m) (cs : List (Change m)) → (patch_all m k trace cs).count ≡ trace.count
patches_count m k trace [] = refl
patches_count m k trace (c ∷ cs) = let p = patch_notes m k trace c in patches_count m k (patch m k trace c) cs ∙ p.count

pub edit_counts : (m : Machine) → EditCounts m
edit_counts m k pos run trace cs right =
    let e = patches_count m k (cut m k trace (count_after k trace.count (first_of_edit m k trace cs))) cs in
    rw e (first_read_cuts m k pos run trace cs right)

pub edit_keeps : (m : Machine) → EditKeeps m
edit_keeps m law k pos old new trace cs right plan edit =
    patches_keep
    m law k pos old new
    (cut m k trace (count_after k trace.count (first_of_edit m k trace cs)))
    cs
    (cut_keeps m k old trace (count_after k trace.count (first_of_edit m k trace cs)) fewer right)
    (planned_sooner m old (k * trace.count) (k * count_after k trace.count (first_of_edit m k trace cs)) (mul-le-mul_left k fewer) cs plan)
    edit
    (λ n l. cut_unread k trace.count pos (reads_edit m trace.notes cs) n l)
  where
    fewer : count_after k trace.count (first_of_edit m k trace cs) ≤ trace.count
    fewer = (first_read_cuts m k pos old trace cs right).fewer
