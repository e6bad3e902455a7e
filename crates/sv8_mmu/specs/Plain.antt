-- What plain accesses to a page come to, as a memo of the lookaside buffer knows it. None of this shows in the definitions of an access.
use Rattle.std.specs.Prelude.{◌≡◌, ℕ, ◌+◌, ◌/◌, ◌%◌, ◌^◌, ◌≤◌, nat_lt, true, Option, Some, None}
use Rattle.sv8_model.specs.Action.{done}
use Rattle.sv8_mmu.specs.declared.access_type.AccessType.{AccessType}
use Rattle.sv8_mmu.specs.declared.memo.Plain.{Plain}
use Rattle.sv8_mmu.specs.declared.walk.Walked.{Walked}
use Rattle.sv8_mmu.specs.declared.translation.Reach.{Reach}
use Rattle.sv8_mmu.specs.declared.translation.Translated.TheVariants.{At}
use Rattle.sv8_mmu.specs.Translation.{settled}

-- by the end of its walk, accesses of a type to a page lead into the 4,096 bytes at a physical address where these are of RAM, and do nothing more
pub record LeadsPlainly (access_type : AccessType) (page base : ℕ) (end : Walked) : Type 0 where
  pub settles : (limit va : ℕ) (reach : Reach) → va / 4096 ≡ page → nat_lt (base + va % 4096) limit ≡ true → settled limit va access_type reach end ≡ done (At (base + va % 4096))
  pub aligned : base % 4096 ≡ 0
  pub small : base + 4096 ≤ 2 ^ 36

-- what is known of the accesses to a page holds
abbrev pub IsKnown : ℕ → Walked → Option Plain → Type 0
IsKnown page end None = Unit {0}
IsKnown page end (Some p) = LeadsPlainly p.access_type page p.base end
