-- Whether the steps from a checkpoint to the next one touch some bytes of RAM, by their notes.
use Rattle.std.specs.Prelude.{ℕ, ◌%◌, ◌==◌, ◌&&◌, ◌||◌, Bool, nat_le, nat_lt, List, []}
use Rattle.std.specs.List.{list_any}
use Rattle.sv8_model.specs.Cells.{Cell}
use Rattle.sv8_history.specs.Machine.{Footprint}
use Rattle.sv8_model.specs.declared.touch.TouchKind.{TouchKind}
use Rattle.sv8_model.specs.declared.touch.TouchKind.TheVariants.{Any, Data}
use Rattle.sv8_notes.specs.declared.notes.WordNote.{WordNote}
use Rattle.sv8_notes.specs.Steps.{Steps}

-- a number is one of those from one to another
abbrev pub is_from_to : ℕ → ℕ → ℕ → Bool
is_from_to low last n = nat_le low n && nat_le n last

-- it is the note of a word whose address is from one to another, at a step from one on and below another
abbrev pub is_note_in : ℕ → ℕ → ℕ → ℕ → WordNote → Bool
is_note_in low last from end note = (note.address % 4 == 0 && is_from_to low last note.address) && (nat_le from note.offset && nat_lt note.offset end)

-- one of some notes is
abbrev pub are_notes_in : ℕ → ℕ → ℕ → ℕ → List WordNote → Bool
are_notes_in low last from end notes = list_any (is_note_in low last from end) notes

-- the words that are fetched, where they count
abbrev pub fetches_of : TouchKind → Steps → List WordNote
fetches_of Any s = s.fetches
fetches_of Data s = []

-- a word whose address is from one to another is read or written
abbrev pub touches_any : TouchKind → ℕ → ℕ → ℕ → ℕ → Steps → Bool
touches_any kind low last from end s = are_notes_in low last from end (fetches_of kind s) || (are_notes_in low last from end s.reads || are_notes_in low last from end s.writes)

-- a step with this footprint touches a cell, by the touches that count
abbrev pub touches_as : TouchKind → Footprint Cell → Cell → Bool
touches_as Any f c = f.reads c || f.writes c
touches_as Data f c = f.uses c
