-- Where an access may want memory: for a note, for the copy of a page that is shared, or for a byte that is put out.
use Rattle.std.specs.Prelude.{ℕ, Bool, false, nat_lt, ◌==◌, ◌&&◌, ◌||◌}
use Rattle.sv8_model.specs.declared.size.Size.{Size}
use Rattle.sv8_model.specs.declared.size.Size.TheVariants.{Word}
use Rattle.sv8_model.specs.Devices.{output_address, pending_address}

-- a load from what is not RAM asks the levels, which is noted, or touches nothing
abbrev pub outside_load_grows : Bool → Size → ℕ → Bool
outside_load_grows keeps Word a = keeps && a == pending_address
outside_load_grows keeps size a = false

-- a load notes what it touches, where notes are kept
abbrev pub load_grows : Bool → ℕ → Size → ℕ → Bool
load_grows keeps limit size a = (keeps && nat_lt a limit) || outside_load_grows keeps size a

-- a store to what is not RAM puts a byte out, or clears levels, which is noted; else it changes the timer alone, or nothing
abbrev pub outside_store_grows : Bool → Size → ℕ → Bool
outside_store_grows keeps Word a = a == output_address || (keeps && a == pending_address)
outside_store_grows keeps size a = false

-- a store to RAM copies a page that is shared
abbrev pub store_grows : Bool → ℕ → Size → ℕ → Bool
store_grows keeps limit size a = nat_lt a limit || outside_store_grows keeps size a
