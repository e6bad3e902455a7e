-- Which physical addresses are served: those at which a translation reaches RAM or a device are those at which the access itself is answered.
use Rattle.std.specs.Prelude.{◌≡◌, ℕ, Bool, true, false}
use Rattle.sv8_model.specs.Outside.{Outside}
use Rattle.sv8_model.specs.Action.{result_of}
use Rattle.sv8_model.specs.declared.size.Size.{Size}
use Rattle.sv8_mmu.specs.declared.translation.Reach.TheVariants.{Ram}
use Rattle.sv8_mmu.specs.Translation.{is_served}
use Rattle.sv8_trap.specs.declared.request.Response.{Response}
use Rattle.sv8_trap.specs.declared.request.Response.TheVariants.{Value, Refused}
use Rattle.sv8_memory.specs.Units.{Units, is_hidden}
use Rattle.sv8_memory.specs.Access.{reach_of, loaded_from, stored_at, exchanged_at, fetched_from}

-- an access is answered, and not refused
abbrev pub is_answered : Response → Bool
is_answered (Value value) = true
is_answered (Refused t) = false

-- at a physical address a load and a store of each size, an exchange and a fetch are answered exactly where the address is served: RAM serves all of
-- them, a device loads and stores of words alone
pub record AnsweredWhereServed (limit : ℕ) (u : Units) (size : Size) (asi va pa value : ℕ) (o : Outside) : Type 0 where
  pub loads : is_answered (result_of (loaded_from limit u size asi va pa) o).response ≡ is_served limit (reach_of size) pa
  pub stores : is_answered (result_of (stored_at limit u size asi value va pa) o).response ≡ is_served limit (reach_of size) pa
  pub exchanges : is_answered (result_of (exchanged_at limit u size asi value va pa) o).response ≡ is_served limit Ram pa
  pub fetches : is_answered (result_of (fetched_from limit u asi va pa) o).response ≡ is_served limit Ram pa

-- where NF hides no fault: one that is hidden is answered with 0
abbrev pub DevicesAreServed : Type 0
DevicesAreServed =
    (limit : ℕ) (u : Units) (size : Size) (asi va pa value : ℕ) (o : Outside) → is_hidden u.mmu asi ≡ false → AnsweredWhereServed limit u size asi va pa value o
