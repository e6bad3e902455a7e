-- The edit of a timeline is an edit of the run.
use Rattle.std.proofs.Common.{◌≡◌, ℕ, ◌<◌, Bool, true, false, cond, List, length, Some, None, refl, arith}
use Rattle.std.specs.Prelude.{bytes_eq}
use Rattle.std.proofs.lemmas.Slice.Eq.{bytes_eq-Decides}
use Rattle.sv8_time.specs.declared.edit.TimelineEdit.TheVariants.{SetPoke, ClearPoke, SetPokeByte, ClearPokeByte, SetInput, ClearInput, SetRequest, ClearRequest}
use Rattle.sv8_time.specs.Schedule.{Schedule, bytes_of_step, with_input}
use Rattle.sv8_source.specs.Text.{Text}
use Rattle.sv8_edits.specs.Changes.{input}
use Rattle.sv8_edits.specs.EditLaws.{CanRun, Makes, TimelineEdits}
use Rattle.sv8_edits.proofs.EditedInput.{clear_input_edits, input_edits}
use Rattle.sv8_edits.proofs.EditedRequests.{clear_request_edits, request_edits}
use Rattle.sv8_edits.proofs.EditedPokes.{clear_byte_edits, poke_byte_edits}
use Rattle.sv8_edits.proofs.EditedWords.{clear_edits, poke_edits}
use Rattle.sv8_edits.proofs.Places.{poke_step, poke_word, clear_word, poke_byte_step, poke_byte_place, clear_byte_place, request_step, request_level, clear_request_level}
use Rattle.sv8_edits.proofs.Standing.{standing_inputs}

-- bytes that come in stand there already, or are others
input_makes : (windows pages : ℕ) (source : Text) (s : Schedule) (can : CanRun windows pages source s) (step : ℕ) (bytes : List ℕ) → 0 < length bytes
    → (b : Bool) → bytes_eq (bytes_of_step step s.inputs) bytes ≡ b → Makes windows pages (input (cond b None (Some step))) source s source (with_input step bytes s) can
input_makes windows pages source s can step bytes some true e =
    (refl, (standing_inputs s can.timeline step bytes some ((bytes_eq-Decides (bytes_of_step step s.inputs) bytes).0 e)).0)
input_makes windows pages source s can step bytes some false e = (refl, input_edits windows pages source s can step bytes)

pub timeline_edits : TimelineEdits
timeline_edits windows pages source s can (SetPoke step address value) bytes ok =
    let word = poke_word step s address ok in
    poke_edits windows pages source s can step address value (poke_step step s address ok) word.0 (omega (arith, word.1, can.limit))
timeline_edits windows pages source s can (ClearPoke step address) bytes ok =
    let word = clear_word step s address ok in
    clear_edits windows pages source s can step address word.0 (omega (arith, word.1, can.limit))
timeline_edits windows pages source s can (SetPokeByte step address value) byte ok =
    poke_byte_edits windows pages source s can step address value (poke_byte_step step s address ok) (omega (arith, poke_byte_place step s address ok, can.limit)) byte
timeline_edits windows pages source s can (ClearPokeByte step address) bytes ok =
    clear_byte_edits windows pages source s can step address (omega (arith, clear_byte_place step s address ok, can.limit))
timeline_edits windows pages source s can (SetInput step bytes) some ok = input_makes windows pages source s can step bytes some _ refl
timeline_edits windows pages source s can (ClearInput step) bytes ok = (refl, clear_input_edits windows pages source s can step)
timeline_edits windows pages source s can (SetRequest step level) bytes ok =
    let levels = request_level step s level ok in
    request_edits windows pages source s can step level (request_step step s level ok) levels.0 levels.1
timeline_edits windows pages source s can (ClearRequest step level) bytes ok =
    let levels = clear_request_level step s level ok in
    clear_request_edits windows pages source s can step level levels.0 levels.1
