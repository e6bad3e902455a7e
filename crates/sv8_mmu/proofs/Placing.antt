-- The place of an address, where addresses are translated.
use Rattle.std.proofs.Common.{◌≡◌, ℕ, true, cond, List, Some, sym, ap, ◌∙◌}
use Rattle.sv8_model.specs.Action.{result_of}
use Rattle.sv8_mmu.specs.declared.registers.Mmu.{Mmu}
use Rattle.sv8_mmu.specs.declared.walk.Walked.{Walked}
use Rattle.sv8_mmu.specs.Registers.{translates}
use Rattle.sv8_mmu.specs.Walk.{walk}
use Rattle.sv8_mmu.specs.Place.{only_ram, placed, untranslated, place_of}

pub by_walk : (limit : ℕ) (r : Mmu) (ram : List ℕ) (va : ℕ) (w : Walked) → translates r ≡ true → w ≡ result_of (walk limit r.table_pointer r.context va) (only_ram ram)
    → placed va w ≡ place_of limit r ram va
unfolding place_of
by_walk limit r ram va w on e =
    ap (placed va) e ∙ sym (ap (λ b. cond b (placed va (result_of (walk limit r.table_pointer r.context va) (only_ram ram))) (Some (untranslated va))) on)
