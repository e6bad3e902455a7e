-- The footprints of the runs before and after an edit are the same up to its first read, by either run.
use Rattle.std.proofs.Common.{◌≡◌, ℕ, suc, ◌<◌, ◌≤◌, false, List, [], ◌∷◌, sym, ◌∙◌}
use Rattle.std.proofs.lemmas.Bool.{or_parts}
use Rattle.sv8_history.specs.Machine.{Machine, Run, footprint_at}
use Rattle.sv8_history.specs.Framed.{IsFramed}
use Rattle.sv8_history.specs.Changes.{Change, IsChanged, IsEdited, IsPlanned, ArePlanned}
use Rattle.sv8_history.specs.Reads.{reads_change, reads_edit}
use Rattle.sv8_history.specs.Laws.{SameFootprints, FirstReadStays}
use Rattle.sv8_history.proofs.Footprints.{footprint_then, change_like, edit_like}
use Rattle.sv8_history.proofs.Least.{least_after}
use Rattle.sv8_history.proofs.Silent.{silent_same, silent_footprint}
use Rattle.sv8_history.proofs.Spread.{same_footprints}
use Rattle.sv8_history.proofs.Turning.{shift_of, turns_of}
use Rattle.sv8_history.proofs.Back.{back_one}
use Rattle.sv8_history.proofs.Others.{planned_all, planned_sooner}

pub rest_quiet : (m : Machine) → IsFramed m → (old mid : Run m) (r : ℕ) (c : Change m) (cs : List (Change m)) → IsPlanned m old r c
    → IsChanged m c old mid → ((n : ℕ) → n < r → reads_edit m (footprint_at m old) (c ∷ cs) n ≡ false) → (n : ℕ) → n < r
    → reads_edit m (footprint_at m mid) cs n ≡ false
rest_quiet m law old mid r c cs plan change quiet n l =
    edit_like m (footprint_at m mid) (footprint_at m old) r (λ j d. same_footprints m law (shift_of m old c) old mid r (turns_of m law old mid r c plan change one) j d) cs n l ∙ (or_parts (reads_change m (footprint_at m old) c n) (reads_edit m (footprint_at m old) cs n) (quiet n l)).1
  where
    one : (j : ℕ) → j < r → reads_change m (footprint_at m old) c j ≡ false
    one j d = (or_parts (reads_change m (footprint_at m old) c j) (reads_edit m (footprint_at m old) cs j) (quiet j d)).0

pub ahead : (m : Machine) → IsFramed m → (old new : Run m) (cs : List (Change m)) (r : ℕ) → ArePlanned m old r cs → IsEdited m cs old new
    → ((n : ℕ) → n < r → reads_edit m (footprint_at m old) cs n ≡ false) → SameFootprints m old new r
ahead m law old new [] r plan edit quiet n l = silent_footprint m old new r (silent_same m old new r edit.0 (λ j d. edit.1 j)) n l
ahead m law old new (c ∷ cs) r plan edit quiet n l =
    footprint_then (footprint_at m new n) (footprint_at m edit.0 n) (footprint_at m old n)
    (ahead m law edit.0 new cs r (planned_all m law old edit.0 r c (plan.0.has, plan.0.fits) edit.1 cs plan.1 plan.2) edit.2 rest n l)
    (first n l)
  where
    one : (j : ℕ) → j < r → reads_change m (footprint_at m old) c j ≡ false
    one j d = (or_parts (reads_change m (footprint_at m old) c j) (reads_edit m (footprint_at m old) cs j) (quiet j d)).0

    first : SameFootprints m old edit.0 r
    first j d = same_footprints m law (shift_of m old c) old edit.0 r (turns_of m law old edit.0 r c plan.0 edit.1 one) j d

    rest : (j : ℕ) → j < r → reads_edit m (footprint_at m edit.0) cs j ≡ false
    rest j d =
        edit_like m (footprint_at m edit.0) (footprint_at m old) r first cs j d ∙ (or_parts (reads_change m (footprint_at m old) c j) (reads_edit m (footprint_at m old) cs j) (quiet j d)).1

back_step : (m : Machine) → IsFramed m → (old mid new : Run m) (r : ℕ) (c : Change m) → IsPlanned m old r c → IsChanged m c old mid
    → SameFootprints m mid new r → ((n : ℕ) → n < r → reads_change m (footprint_at m new) c n ≡ false) → SameFootprints m old new r
back_step m law old mid new r c plan change rest quiet n l =
    footprint_then (footprint_at m new n) (footprint_at m mid n) (footprint_at m old n)
    (rest n l)
    (back_one m law old mid r c plan change (λ j d. sym (change_like m (footprint_at m new) (footprint_at m mid) r rest c j d) ∙ quiet j d) n l)

pub back : (m : Machine) → IsFramed m → (old new : Run m) (cs : List (Change m)) (r : ℕ) → ArePlanned m old r cs → IsEdited m cs old new
    → ((n : ℕ) → n < r → reads_edit m (footprint_at m new) cs n ≡ false) → SameFootprints m old new r
back m law old new [] r plan edit quiet n l = silent_footprint m old new r (silent_same m old new r edit.0 (λ j d. edit.1 j)) n l
back m law old new (c ∷ cs) r plan edit quiet n l =
    back_step
    m law old edit.0 new r c plan.0 edit.1
    (back m law edit.0 new cs r (planned_all m law old edit.0 r c (plan.0.has, plan.0.fits) edit.1 cs plan.1 plan.2) edit.2 (λ i b. (or_parts (reads_change m (footprint_at m new) c i) (reads_edit m (footprint_at m new) cs i) (quiet i b)).1))
    (λ i b. (or_parts (reads_change m (footprint_at m new) c i) (reads_edit m (footprint_at m new) cs i) (quiet i b)).0)
    n l

pub first_read_stays : (m : Machine) → FirstReadStays m
first_read_stays m law old new cs s plan edit = (
  least_after
      (reads_edit m (footprint_at m old) cs)
      (reads_edit m (footprint_at m new) cs)
      s
      (λ r b quiet n l. edit_like m (footprint_at m new) (footprint_at m old) r (ahead m law old new cs r (sooner r b) edit quiet) cs n l)
      (λ r b quiet n l. edit_like m (footprint_at m new) (footprint_at m old) r (back m law old new cs r (sooner r b) edit quiet) cs n l),
  least_after
      (reads_edit m (footprint_at m new) cs)
      (reads_edit m (footprint_at m old) cs)
      s
      (λ r b quiet n l. sym (edit_like m (footprint_at m new) (footprint_at m old) r (back m law old new cs r (sooner r b) edit quiet) cs n l))
      (λ r b quiet n l. sym (edit_like m (footprint_at m new) (footprint_at m old) r (ahead m law old new cs r (sooner r b) edit quiet) cs n l)),
)
  where
    sooner : (r : ℕ) → r ≤ suc s → ArePlanned m old r cs
    sooner r b = planned_sooner m old (suc s) r b cs plan
