-- States whose processors are the same show the same.
use Rattle.std.proofs.Common.{◌≡◌, ℕ, zero, suc, ◌≤◌, refl, ◌∙◌, ap, ap₂, arith}
use Rattle.std.specs.Prelude.{◌||◌}
use Rattle.sv8_mmu.specs.Registers.{translates}
use Rattle.sv8_mmu.specs.declared.registers.Mmu.{Mmu}
use Rattle.sv8_trap.specs.Processor.{Processor}
use Rattle.sv8_cpu.specs.State.{State}
use Rattle.sv8_cpu.specs.Sameness.{IsSameProcessor}
use Rattle.sv8_trace.specs.Signs.{Signs, with_end, with_step, signs_among}

-- the signs with one step more, by what they are made of
stepped : Signs → ℕ → Mmu → Processor → Processor → Signs
stepped signs j mmu before after = with_end (record signs { translation = signs.translation || translates mmu }) j before.running after

-- the same processors show the same
pub signs_alike : (f g : ℕ → State) (count : ℕ) → ((j : ℕ) → j ≤ count → IsSameProcessor (f j) (g j)) → signs_among f count ≡ signs_among g count
unfolding stepped
signs_alike f g zero same = refl
signs_alike f g (suc count) same =
    let before = same count (omega arith) in
    let after = same (suc count) (omega arith) in
    ap (λ s. with_step s count (f count) (f (suc count))) (signs_alike f g count (λ j l. same j (omega (arith, l))))
    ∙ ap₂ (λ mmu p. stepped (signs_among g count) count mmu (f count).processor p) before.mmu after.processor
    ∙ ap (λ p. stepped (signs_among g count) count (g count).mmu p (g (suc count)).processor) before.processor
