-- The access that an instruction asks for: the address spaces (Appendix I), and what holds of every address.
use Rattle.std.specs.Prelude.{◌≡◌, ℕ, ◌/◌, ◌%◌, ◌==◌, ◌&&◌, nat_le, if◌then◌else◌}
use Rattle.sv8_model.specs.Size.{bytes_in}
use Rattle.sv8_trap.specs.declared.request.AccessRequest.{AccessRequest}
use Rattle.sv8_trap.specs.declared.request.AccessRequest.TheVariants as request
use Rattle.sv8_trap.specs.declared.request.Space.{Space}
use Rattle.sv8_trap.specs.declared.request.Space.TheVariants as space

-- 3 probes the tables, 4 has the registers of the unit; 8 to B are user and supervisor instructions and data, and 20 to 2F physical addresses, of which
-- they are bits 35:32
unfoldable pub space_of : ℕ → Space
space_of asi =
    if asi == 0x03 then space.Probing else
    (if asi == 0x04 then space.Registers else
    (if nat_le 0x08 asi && nat_le asi 0x0b then space.Virtual else
    (if asi / 16 == 2 then space.Physical (asi % 16) else space.Unassigned)))

-- the address is a multiple of the size
abbrev pub IsAligned : AccessRequest → Type 0
IsAligned request.Nothing = Unit {0}
IsAligned (request.Fetch supervisor at) = at % 4 ≡ 0
IsAligned (request.Load size asi at) = at % bytes_in size ≡ 0
IsAligned (request.Store size asi at value) = at % bytes_in size ≡ 0
IsAligned (request.Exchange size asi at value) = at % bytes_in size ≡ 0
