-- Small timelines, for the examples that are computed.
use Rattle.std.specs.Prelude.{[], ◌∷◌}
use Rattle.sv8_time.specs.Schedule.{Schedule, with_poke, with_poke_byte, without_poke_byte, with_input, with_request}

-- a RAM of 00100000 bytes and no events
abbrev pub nothing : Schedule
nothing = record { limit = 1048576; pokes = []; inputs = []; requests = [] }

-- at step 5 the word 11223344 at 100, and over it the byte AA at 101
abbrev pub word_and_byte : Schedule
word_and_byte = with_poke_byte 5 257 170 (with_poke 5 256 287454020 nothing)

-- the same without the byte at 101
abbrev pub three_bytes : Schedule
three_bytes = without_poke_byte 5 257 word_and_byte

-- and then the byte at 100 at step 7, the whole word at step 9
abbrev pub later_pokes : Schedule
later_pokes = with_poke 9 256 0 (with_poke_byte 7 256 1 word_and_byte)

-- level 9 at steps 3 and 8, level 4 at step 3, entered out of order
abbrev pub levels : Schedule
levels = with_request 3 9 (with_request 8 9 (with_request 3 4 nothing))

-- the bytes 64 65 66 at step 9, 61 62 63 at step 2, 2D at step 7, entered out of order
abbrev pub arrivals : Schedule
arrivals = with_input 7 (45 ∷ []) (with_input 2 (97 ∷ 98 ∷ 99 ∷ []) (with_input 9 (100 ∷ 101 ∷ 102 ∷ []) nothing))
