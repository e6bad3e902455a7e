-- Where a translation succeeds, it leads to the place of the address.
use Rattle.std.specs.Prelude.{◌≡◌, ℕ, Some, option_map}
use Rattle.sv8_model.specs.Outside.{Outside}
use Rattle.sv8_model.specs.Action.{result_of}
use Rattle.sv8_mmu.specs.declared.access_type.AccessType.{AccessType}
use Rattle.sv8_mmu.specs.declared.registers.Mmu.{Mmu}
use Rattle.sv8_mmu.specs.declared.translation.Reach.{Reach}
use Rattle.sv8_mmu.specs.declared.translation.Translated.TheVariants.{At}
use Rattle.sv8_mmu.specs.Translation.{translate}
use Rattle.sv8_mmu.specs.Place.{place_of}

abbrev pub TranslationsLeadToPlaces : Type 0
TranslationsLeadToPlaces =
    (limit : ℕ) (r : Mmu) (va : ℕ) (access_type : AccessType) (reach : Reach) (o : Outside) (pa : ℕ)
    → result_of (translate limit r va access_type reach) o ≡ At pa → option_map (λ p. p.pa) (place_of limit r o.ram va) ≡ Some pa
