-- The events of a step, which come first in it: poked bytes and requests. Input bytes wait from then on.
use Rattle.std.specs.Prelude.{ℕ, true, Bool, List, [], ◌∷◌, slice_set}
use Rattle.sv8_time.specs.Schedule.{Schedule, BytePoke, pokes_of_step, requests_of_step}
use Rattle.sv8_time.specs.declared.requests.Request.{Request}
use Rattle.sv8_phys.specs.Contents.{Contents}

-- each poked byte is written to RAM
abbrev pub poked : List BytePoke → List ℕ → List ℕ
poked [] ram = ram
poked (p ∷ ps) ram = poked ps (slice_set ram p.address p.value)

-- each requested level becomes pending
abbrev pub marked : List Request → List Bool → List Bool
marked [] pending = pending
marked (r ∷ rs) pending = marked rs (slice_set pending r.level true)

-- memory and devices behind the events of step n
unfoldable pub with_events : Schedule → ℕ → Contents → Contents
with_events schedule n m =
    record m { ram = poked (pokes_of_step n schedule.pokes) m.ram; pending = marked (requests_of_step n schedule.requests) m.pending }
