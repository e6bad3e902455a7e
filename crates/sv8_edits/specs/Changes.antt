-- What an edit changes of the recorded run: the cells that it sets otherwise, each from the step of the edit up to the next event that sets the cell
-- anyway. An edit that sets what stands already changes nothing.
use Rattle.std.specs.Prelude.{ℕ, ◌+◌, ◌-◌, ◌/◌, ◌%◌, ◌^◌, ◌==◌, Bool, true, false, List, [], ◌∷◌, ◌++◌, Option, Some, None, unwrap_or, slice_index_or, flat_map, bytes_eq, if◌then◌else◌}
use Rattle.std.specs.List.{range_with_len}
use Rattle.sv8_model.specs.Cells.{ram_byte, pending_level, byte, held}
use Rattle.sv8_history.specs.Changes.{Change, Image, Poke, Clear}
use Rattle.sv8_time.specs.declared.edit.TimelineEdit.{TimelineEdit}
use Rattle.sv8_time.specs.declared.edit.TimelineEdit.TheVariants.{SetPoke, ClearPoke, SetPokeByte, ClearPokeByte, SetInput, ClearInput, SetRequest, ClearRequest}
use Rattle.sv8_time.specs.Schedule.{Schedule, poked_at, has_poke, has_request, bytes_of_step, poke_after, request_after}
use Rattle.sv8_phys.specs.Memory.{ram_size}
use Rattle.sv8_source.specs.Text.{Text}
use Rattle.sv8_source.specs.Image.{image_bytes}
use Rattle.sv8_cpu.specs.Recorded.{machine}

-- in place of a step: there is no such event
abbrev pub no_end : ℕ
no_end = 2 ^ 32 - 1

-- the next step above one that pokes a byte, or requests a level
abbrev pub next_poke : ℕ → ℕ → Schedule → ℕ
next_poke address after s = unwrap_or (poke_after address after s.pokes) no_end

abbrev pub next_request : ℕ → ℕ → Schedule → ℕ
next_request level after s = unwrap_or (request_after level after s.requests) no_end

-- the first step that pokes a byte
abbrev pub first_poke : ℕ → Schedule → ℕ
first_poke address s = if has_poke 0 address s.pokes then 0 else next_poke address 0 s

-- what a byte is poked with at a step, if it is
abbrev pub poked_with : ℕ → ℕ → Schedule → Option ℕ
poked_with step address s = poked_at step address s.pokes

abbrev pub stands : Option ℕ → ℕ → Bool
stands None value = false
stands (Some other) value = other == value

-- Bytes come in at a step: the step from which on the input is another, or none where these bytes come in there already.
abbrev pub input_change : ℕ → List ℕ → Schedule → Option ℕ
input_change step bytes s = if bytes_eq (bytes_of_step step s.inputs) bytes then None else Some step

module _ (windows pages : ℕ) where
  -- a byte is poked with a value
  abbrev pub poke_byte_changes : ℕ → ℕ → ℕ → Schedule → List (Change (machine windows pages))
  poke_byte_changes step address value s =
      if stands (poked_with step address s) value then []
      else (record { cell = ram_byte address; from = step; to = next_poke address step s; cause = Poke (byte value) } ∷ [])

  -- the poke of a byte is cleared
  abbrev pub clear_byte_changes : ℕ → ℕ → Schedule → List (Change (machine windows pages))
  clear_byte_changes step address s =
      if has_poke step address s.pokes then (record { cell = ram_byte address; from = step; to = next_poke address step s; cause = Clear } ∷ [])
      else []

  -- a word is poked, or its pokes are cleared: the same for its four bytes
  abbrev pub poke_changes : ℕ → ℕ → ℕ → Schedule → List (Change (machine windows pages))
  poke_changes step address value s =
      poke_byte_changes step address (value / 2 ^ 24 % 2 ^ 8) s ++ poke_byte_changes step (address + 1) (value / 2 ^ 16 % 2 ^ 8) s
      ++ poke_byte_changes step (address + 2) (value / 2 ^ 8 % 2 ^ 8) s ++ poke_byte_changes step (address + 3) (value % 2 ^ 8) s

  abbrev pub clear_changes : ℕ → ℕ → Schedule → List (Change (machine windows pages))
  clear_changes step address s =
      clear_byte_changes step address s ++ clear_byte_changes step (address + 1) s ++ clear_byte_changes step (address + 2) s
      ++ clear_byte_changes step (address + 3) s

  -- a level is requested, or its request cleared
  abbrev pub request_changes : ℕ → ℕ → Schedule → List (Change (machine windows pages))
  request_changes step level s =
      if has_request step level s.requests then []
      else (record { cell = pending_level level; from = step; to = next_request level step s; cause = Poke (held true) } ∷ [])

  abbrev pub clear_request_changes : ℕ → ℕ → Schedule → List (Change (machine windows pages))
  clear_request_changes step level s =
      if has_request step level s.requests then (record { cell = pending_level level; from = step; to = next_request level step s; cause = Clear } ∷ [])
      else []

  -- the source is edited: every byte of RAM that has another value after reset
  abbrev pub image_byte_changes : ℕ → ℕ → ℕ → Schedule → List (Change (machine windows pages))
  image_byte_changes address old new s =
      if old == new then [] else (record { cell = ram_byte address; from = 0; to = first_poke address s; cause = Image (byte new) } ∷ [])

  abbrev pub image_changes : Text → Text → Schedule → List (Change (machine windows pages))
  image_changes old new s =
      flat_map
      (λ a. image_byte_changes a (slice_index_or (image_bytes old (ram_size pages)) a 0) (slice_index_or (image_bytes new (ram_size pages)) a 0) s)
      (range_with_len 0 (ram_size pages))

-- ---- what an edit changes

-- cells of the run, or the input from a step on, if it is another
pub data RunChange (windows pages : ℕ) : Type 0 where
  cells : List (Change (machine windows pages)) → RunChange windows pages
  input : Option ℕ → RunChange windows pages

-- an edit of the timeline
abbrev pub edit_change : (windows pages : ℕ) → TimelineEdit → Schedule → RunChange windows pages
edit_change windows pages (SetPoke step address value) s = cells (poke_changes windows pages step address value s)
edit_change windows pages (ClearPoke step address) s = cells (clear_changes windows pages step address s)
edit_change windows pages (SetPokeByte step address value) s = cells (poke_byte_changes windows pages step address value s)
edit_change windows pages (ClearPokeByte step address) s = cells (clear_byte_changes windows pages step address s)
edit_change windows pages (SetInput step bytes) s = input (input_change step bytes s)
edit_change windows pages (ClearInput step) s = input (Some step)
edit_change windows pages (SetRequest step level) s = cells (request_changes windows pages step level s)
edit_change windows pages (ClearRequest step level) s = cells (clear_request_changes windows pages step level s)

-- an edit of the source
abbrev pub source_change : (windows pages : ℕ) → Text → Text → Schedule → RunChange windows pages
source_change windows pages old new s = cells (image_changes windows pages old new s)
