-- What plain accesses to a page come to.
use Rattle.std.proofs.Common.{◌≡◌, ℕ, ◌+◌, ◌*◌, ◌/◌, ◌%◌, ◌^◌, ◌<◌, true, ◌==◌, nat_lt, None, refl, sym, ◌∙◌, ap, arith}
use Rattle.std.proofs.lemmas.Bool.Decides.{nat_tests}
use Rattle.sv8_model.specs.Action.{done}
use Rattle.sv8_mmu.specs.declared.access_type.AccessType.{AccessType}
use Rattle.sv8_mmu.specs.declared.table_level.TableLevel.{TableLevel}
use Rattle.sv8_mmu.specs.declared.table_level.TableLevel.TheVariants.{Context, Level1, Level2, Level3}
use Rattle.sv8_mmu.specs.declared.walk.Walked.{Walked}
use Rattle.sv8_mmu.specs.declared.walk.Walked.TheVariants.{Page}
use Rattle.sv8_mmu.specs.declared.translation.Reach.{Reach}
use Rattle.sv8_mmu.specs.declared.translation.Reach.TheVariants as reach
use Rattle.sv8_mmu.specs.declared.translation.Translated.TheVariants.{At}
use Rattle.sv8_mmu.specs.Translation.{fault_type, marked, physical_address, settled}
use Rattle.sv8_mmu.specs.Plain.{LeadsPlainly}

-- an address keeps its place in its page of 4,096 bytes
in_page : (e : ℕ) (level : TableLevel) (va : ℕ) → physical_address e level va ≡ physical_address e level (va / 4096 * 4096) + va % 4096
unfolding physical_address
in_page e Context va = omega arith
in_page e Level1 va = omega arith
in_page e Level2 va = omega arith
in_page e Level3 va = omega arith

same : (n : ℕ) → (n == n) ≡ true
same n = grind (arith, nat_tests)

-- an access that is allowed, of RAM, and leaves the entry as it is
settled_plainly : (limit va : ℕ) (access_type : AccessType) (reach : Reach) (e : ℕ) (level : TableLevel) (at pa : ℕ) → fault_type access_type e ≡ None → marked access_type e ≡ e
    → physical_address e level va ≡ pa → nat_lt pa limit ≡ true → settled limit va access_type reach (Page e level at) ≡ done (At pa)
unfolding settled
settled_plainly limit va access_type reach.Ram e level at pa allowed unmarked place ram = rw (allowed, place, ram, unmarked, same e) refl
settled_plainly limit va access_type reach.RamOrDevices e level at pa allowed unmarked place ram = rw (allowed, place, ram, unmarked, same e) refl

pub leads_plainly : (access_type : AccessType) (page base : ℕ) (w : Walked) (e : ℕ) (level : TableLevel) (at : ℕ) → w ≡ Page e level at → fault_type access_type e ≡ None → marked access_type e ≡ e
    → base ≡ physical_address e level (page * 4096) → base % 4096 ≡ page * 4096 % 4096 → base < 2 ^ 36 → LeadsPlainly access_type page base w
leads_plainly access_type page base w e level at is allowed unmarked place offset small = record {
  settles = λ limit va reach there ram.
      let start : physical_address e level (va / 4096 * 4096) ≡ base = ap (λ p. physical_address e level (p * 4096)) there ∙ sym place in
      let lands : physical_address e level va ≡ base + va % 4096 = in_page e level va ∙ ap (λ b. b + va % 4096) start in
      rw is (settled_plainly limit va access_type reach e level at (base + va % 4096) allowed unmarked lands ram);
  aligned = omega arith;
  small = omega arith;
}
