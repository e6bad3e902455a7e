-- The outside events of a machine, and what an edit makes of them.
use Rattle.std.specs.Prelude.{◌≡◌, ◌<◌, ◌≤◌, true, false, ℕ, ◌+◌, ◌*◌, ◌/◌, ◌^◌, Bool, not, nat_lt, nat_le, ◌==◌, ◌&&◌, ◌%◌, List, [], ◌∷◌, length, filter, flat_map, find, Option, Some, None, option_map, if◌then◌else◌}
use Rattle.std.specs.List.{list_any}
pub use Rattle.sv8_model.specs.Levels.{is_level}
use Rattle.sv8_time.specs.declared.fault.TimeFault.{TimeFault}
use Rattle.sv8_time.specs.declared.fault.TimeFault.TheVariants.{StepTooLarge, BadAddress, BadLevel, NothingThere, TooManyEvents, InputTooLong}
use Rattle.sv8_time.specs.declared.requests.Request.{Request}
use Rattle.sv8_time.specs.Order.{Each, Rising, placed, comes_before, is_at, cleared_at, of_major}

-- a byte of RAM that gets a value at a step
pub record BytePoke : Type 0 where
  pub step : ℕ
  pub address : ℕ
  pub value : ℕ

-- the bytes that come in at a step
pub record Input : Type 0 where
  pub step : ℕ
  pub bytes : List ℕ

-- the size of RAM in bytes, and the events: poked bytes by step and address, inputs by step, requests by step and level
pub record Schedule : Type 0 where
  pub limit : ℕ
  pub pokes : List BytePoke
  pub inputs : List Input
  pub requests : List Request

-- poked bytes

abbrev pub poke_of : ℕ → ℕ → ℕ → BytePoke
poke_of step address value = record { step = step; address = address; value = value }

abbrev pub poke_before : BytePoke → BytePoke → Bool
poke_before = comes_before (λ p. p.step) (λ p. p.address)

abbrev pub is_poke_at : ℕ → ℕ → BytePoke → Bool
is_poke_at step address = is_at (λ p. p.step) (λ p. p.address) step address

abbrev pub has_poke : ℕ → ℕ → List BytePoke → Bool
has_poke step address pokes = list_any (is_poke_at step address) pokes

abbrev pub put_poke : BytePoke → List BytePoke → List BytePoke
put_poke p pokes = placed poke_before p pokes

abbrev pub cut_poke : ℕ → ℕ → List BytePoke → List BytePoke
cut_poke step address pokes = cleared_at (λ p. p.step) (λ p. p.address) step address pokes

-- the poked bytes of a step, in rising address
abbrev pub pokes_of_step : ℕ → List BytePoke → List BytePoke
pokes_of_step step pokes = of_major (λ p. p.step) step pokes

-- the first later step in which a byte is poked
abbrev pub poke_after : ℕ → ℕ → List BytePoke → Option ℕ
poke_after address after pokes = option_map (λ p. p.step) (find (λ p. p.address == address && nat_lt after p.step) pokes)

-- what a byte is poked with at a step, if it is
abbrev pub poked_at : ℕ → ℕ → List BytePoke → Option ℕ
poked_at step address pokes = option_map (λ p. p.value) (find (is_poke_at step address) pokes)

-- the word of a byte, named by its address
abbrev pub word_of : ℕ → ℕ
word_of address = address / 4 * 4

-- a poked byte is in the word of an address
abbrev pub is_poke_in : ℕ → ℕ → BytePoke → Bool
is_poke_in step address p = p.step == step && word_of p.address == word_of address

-- a byte of the word of an address is poked at a step
abbrev pub has_word : ℕ → ℕ → List BytePoke → Bool
has_word step address pokes = list_any (is_poke_in step address) pokes

-- the number of words that have poked bytes, a word counted once for each step:
-- of the bytes of one word and step the last one counts
abbrev pub word_count : List BytePoke → ℕ
word_count [] = 0
word_count (p ∷ pokes) = if has_word p.step p.address pokes then word_count pokes else word_count pokes + 1

-- requests

abbrev pub request_of : ℕ → ℕ → Request
request_of step level = record { step = step; level = level }

abbrev pub request_before : Request → Request → Bool
request_before = comes_before (λ r. r.step) (λ r. r.level)

abbrev pub is_request_at : ℕ → ℕ → Request → Bool
is_request_at step level = is_at (λ r. r.step) (λ r. r.level) step level

abbrev pub has_request : ℕ → ℕ → List Request → Bool
has_request step level requests = list_any (is_request_at step level) requests

abbrev pub put_request : Request → List Request → List Request
put_request r requests = placed request_before r requests

abbrev pub cut_request : ℕ → ℕ → List Request → List Request
cut_request step level requests = cleared_at (λ r. r.step) (λ r. r.level) step level requests

-- the requests of a step, in rising level
abbrev pub requests_of_step : ℕ → List Request → List Request
requests_of_step step requests = of_major (λ r. r.step) step requests

-- the first later step in which a level is requested
abbrev pub request_after : ℕ → ℕ → List Request → Option ℕ
request_after level after requests = option_map (λ r. r.step) (find (λ r. r.level == level && nat_lt after r.step) requests)

-- inputs

abbrev pub input_of : ℕ → List ℕ → Input
input_of step bytes = record { step = step; bytes = bytes }

abbrev pub input_before : Input → Input → Bool
input_before i j = nat_lt i.step j.step

abbrev pub is_input_at : ℕ → Input → Bool
is_input_at step i = i.step == step

abbrev pub has_input : ℕ → List Input → Bool
has_input step inputs = list_any (is_input_at step) inputs

abbrev pub put_input : Input → List Input → List Input
put_input i inputs = placed input_before i inputs

abbrev pub cut_input : ℕ → List Input → List Input
cut_input step inputs = filter (λ i. not (is_input_at step i)) inputs

abbrev pub input_bytes : List Input → List ℕ
input_bytes inputs = flat_map (λ i. i.bytes) inputs

-- the bytes of a step, none where nothing comes in
abbrev pub bytes_of_step : ℕ → List Input → List ℕ
bytes_of_step step inputs = input_bytes (filter (is_input_at step) inputs)

abbrev pub byte_count : List Input → ℕ
byte_count [] = 0
byte_count (i ∷ inputs) = length i.bytes + byte_count inputs

-- the number of bytes of all steps below one
abbrev pub bytes_below : ℕ → List Input → ℕ
bytes_below before inputs = byte_count (filter (λ i. nat_lt i.step before) inputs)

-- the bytes that came in at the steps below one, in the order of the steps
abbrev pub arrived : ℕ → Schedule → List ℕ
arrived before schedule = input_bytes (filter (λ i. nat_lt i.step before) schedule.inputs)

-- edits of the whole

abbrev pub with_poke_byte : ℕ → ℕ → ℕ → Schedule → Schedule
with_poke_byte step address value s = record s { pokes = put_poke (poke_of step address value) s.pokes }

abbrev pub without_poke_byte : ℕ → ℕ → Schedule → Schedule
without_poke_byte step address s = record s { pokes = cut_poke step address s.pokes }

-- a word is poked as its four bytes, one after the other, the most significant first
abbrev pub with_poke : ℕ → ℕ → ℕ → Schedule → Schedule
with_poke step address value s =
    with_poke_byte step (address + 3) (value % 2 ^ 8)
    (with_poke_byte step (address + 2) (value / 2 ^ 8 % 2 ^ 8)
    (with_poke_byte step (address + 1) (value / 2 ^ 16 % 2 ^ 8)
    (with_poke_byte step address (value / 2 ^ 24 % 2 ^ 8) s)))

abbrev pub without_poke : ℕ → ℕ → Schedule → Schedule
without_poke step address s = without_poke_byte step (address + 3) (without_poke_byte step (address + 2) (without_poke_byte step (address + 1) (without_poke_byte step address s)))

abbrev pub with_input : ℕ → List ℕ → Schedule → Schedule
with_input step bytes s = record s { inputs = put_input (input_of step bytes) s.inputs }

abbrev pub without_input : ℕ → Schedule → Schedule
without_input step s = record s { inputs = cut_input step s.inputs }

abbrev pub with_request : ℕ → ℕ → Schedule → Schedule
with_request step level s = record s { requests = put_request (request_of step level) s.requests }

abbrev pub without_request : ℕ → ℕ → Schedule → Schedule
without_request step level s = record s { requests = cut_request step level s.requests }

-- refusals

-- the number of events: a step and word with poked bytes is one
abbrev pub event_count : Schedule → ℕ
event_count s = word_count s.pokes + length s.inputs + length s.requests

-- an event where nothing stands yet, of which there is no place left
abbrev pub is_one_too_many : Bool → Schedule → Bool
is_one_too_many present s = nat_le 65536 (event_count s) && not present

abbrev pub is_word : ℕ → ℕ → Bool
is_word address limit = address % 4 == 0 && nat_le (address + 4) limit

abbrev pub set_poke_fault : ℕ → ℕ → Schedule → Option TimeFault
set_poke_fault step address s =
    if nat_lt 1000000 step then Some StepTooLarge
    else (if not (is_word address s.limit) then Some BadAddress
    else (if is_one_too_many (has_word step address s.pokes) s then Some TooManyEvents else None))

abbrev pub clear_poke_fault : ℕ → ℕ → Schedule → Option TimeFault
clear_poke_fault step address s =
    if nat_lt 1000000 step then Some StepTooLarge
    else (if not (is_word address s.limit) then Some BadAddress
    else (if not (has_word step address s.pokes) then Some NothingThere else None))

abbrev pub set_poke_byte_fault : ℕ → ℕ → Schedule → Option TimeFault
set_poke_byte_fault step address s =
    if nat_lt 1000000 step then Some StepTooLarge
    else (if not (nat_lt address s.limit) then Some BadAddress
    else (if is_one_too_many (has_word step address s.pokes) s then Some TooManyEvents else None))

abbrev pub clear_poke_byte_fault : ℕ → ℕ → Schedule → Option TimeFault
clear_poke_byte_fault step address s =
    if nat_lt 1000000 step then Some StepTooLarge
    else (if not (nat_lt address s.limit) then Some BadAddress
    else (if not (has_poke step address s.pokes) then Some NothingThere else None))

abbrev pub set_input_fault : ℕ → List ℕ → Schedule → Option TimeFault
set_input_fault step bytes s =
    if nat_lt 1000000 step then Some StepTooLarge
    else (if is_one_too_many (has_input step s.inputs) s then Some TooManyEvents
    else (if nat_lt 1024 (length bytes) then Some InputTooLong else None))

abbrev pub clear_input_fault : ℕ → Schedule → Option TimeFault
clear_input_fault step s =
    if nat_lt 1000000 step then Some StepTooLarge
    else (if not (has_input step s.inputs) then Some NothingThere else None)

abbrev pub set_request_fault : ℕ → ℕ → Schedule → Option TimeFault
set_request_fault step level s =
    if nat_lt 1000000 step then Some StepTooLarge
    else (if not (is_level level) then Some BadLevel
    else (if is_one_too_many (has_request step level s.requests) s then Some TooManyEvents else None))

abbrev pub clear_request_fault : ℕ → ℕ → Schedule → Option TimeFault
clear_request_fault step level s =
    if nat_lt 1000000 step then Some StepTooLarge
    else (if not (is_level level) then Some BadLevel
    else (if not (has_request step level s.requests) then Some NothingThere else None))

-- the least step above one that passes, or none where there is no such step
abbrev pub IsNext : (ℕ → Bool) → ℕ → Option ℕ → Type 0
IsNext has after None = (n : ℕ) → after < n → has n ≡ false
IsNext has after (Some m) = (after < m) × (has m ≡ true) × ((n : ℕ) → after < n → n < m → has n ≡ false)

-- the least step above one in which a byte is poked
abbrev pub IsNextPoke : ℕ → ℕ → List BytePoke → Option ℕ → Type 0
IsNextPoke address after pokes = IsNext (λ n. has_poke n address pokes) after

-- the least step above one in which a level is requested
abbrev pub IsNextRequest : ℕ → ℕ → List Request → Option ℕ → Type 0
IsNextRequest level after requests = IsNext (λ n. has_request n level requests) after

-- what holds of every timeline

abbrev pub IsPokePlace : ℕ → BytePoke → Type 0
IsPokePlace limit p = (p.step ≤ 1000000) × (p.address < limit) × (p.value < 256)

abbrev pub IsInputPlace : Input → Type 0
IsInputPlace i = (i.step ≤ 1000000) × (length i.bytes ≤ 1024)

abbrev pub IsRequestPlace : Request → Type 0
IsRequestPlace r = (r.step ≤ 1000000) × (1 ≤ r.level) × (r.level ≤ 15)

-- events in rising places, one at a place, each where it may be, and no more than may stand
pub record IsTimeline (s : Schedule) : Type 0 where
  pub pokes_rise : Rising poke_before s.pokes
  pub poke_places : Each (IsPokePlace s.limit) s.pokes
  pub inputs_rise : Rising input_before s.inputs
  pub input_places : Each IsInputPlace s.inputs
  pub requests_rise : Rising request_before s.requests
  pub request_places : Each IsRequestPlace s.requests
  pub few : event_count s ≤ 65536
