-- What the notes of an interval have once a step has ended that was recorded touch by touch.
use Rattle.std.specs.Prelude.{◌≡◌, ℕ, List}
use Rattle.sv8_model.specs.declared.touch.Touch.{Touch}
use Rattle.sv8_model.specs.Footprint.{data_touches}
use Rattle.sv8_touches.specs.Told.{told}
use Rattle.sv8_notes.specs.Steps.{Steps, Gains}
use Rattle.sv8_notes.specs.Recording.{HasEnded, Recording, begun, with_touches}

-- whatever a step touched from its beginning on, the notes have gained what is told of that, with its data as such
abbrev pub EndedStepsAreTold : Type 0
EndedStepsAreTold = (base new : Steps) (offset : ℕ) (ts : List Touch) (r : Recording) → r ≡ with_touches (begun base offset) ts → HasEnded r.shape r.asked r.offset r.notes new
    → Gains offset (told ts) (data_touches ts) base new
