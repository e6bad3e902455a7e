use Rattle.std.proofs.Common.{◌≡◌, sym, ap, ◌∙◌, inl, inr, subst, arith}
use Rattle.std.proofs.lemmas.Bool.{cases_lt}
use Rattle.sv8_phys.specs.declared.block.Block.{Block}
use Rattle.sv8_phys.specs.Parts.{part_at, part_of, blocks_of}
use Rattle.sv8_phys.proofs.AllBytes.{same-all}
use Rattle.sv8_phys.proofs.BlockLemmas.{in_block, block_full}
use Rattle.sv8_phys.proofs.Handles.{is_part, same_part}
use Rattle.sv8_phys.proofs.Sizes.{of_block}
use Rattle.sv8_phys.proofs.half_page.HalfPage.is_same.Goals as goal

pub returns-then-not-is_same : goal.returns-then-not-is_same
returns-then-not-is_same c = λ same.
    let own = c.args.self.now in
    let other = c.args.other.now in
    let p = c.loop-place.place in
    let below = c.loop-place-test.true in
    c.if-not-is_same.ensures (ap (λ (b : Block). b.bytes) c.deref.ensures
    ∙ is_part in_block 128 of_block 16 block_full own.blocks own.all p _ below
    ∙ ap (λ bytes. part_of 128 bytes p) same
    ∙ sym (ap (λ (b : Block). b.bytes) c.deref-in-loop-place.ensures ∙ is_part in_block 128 of_block 16 block_full other.blocks other.all p _ below))

pub loop-place-preserved : goal.loop-place-preserved
loop-place-preserved c = λ p below. elim (cases_lt p c.loop-place.place) [
  | inl before ↦ c.loop-place.invariant p before
  | inr past ↦
      let own = c.args.self.now in
      let other = c.args.other.now in
      let here : c.loop-place.place ≡ p = omega (arith, below, past) in
      let same = same_part in_block 128 of_block 16 block_full own.blocks own.all other.blocks c.loop-place.place _ _ other.all c.loop-place-test.true
      (sym (ap (λ (b : Block). b.bytes) c.deref.ensures) ∙ c.if-not-is_same.ensures ∙ ap (λ (b : Block). b.bytes) c.deref-in-loop-place.ensures) in
      subst (λ q. part_at (blocks_of own.blocks) q ≡ part_at (blocks_of other.blocks) q) here same
]

pub returns : goal.returns
returns c = same-all 128 of_block 16 (blocks_of c.args.self.now.blocks) (blocks_of c.args.other.now.blocks) (λ p below. c.loop-place.invariant p (omega (arith, below, c.loop-place-test.false)))
