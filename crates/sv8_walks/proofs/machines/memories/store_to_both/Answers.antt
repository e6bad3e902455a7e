use Rattle.std.proofs.Common.{◌∙◌, refl, ap}
use Rattle.sv8_memory.specs.declared.physical.Physical.{Physical}
use Rattle.sv8_walks.proofs.Ordinary.{stored_at_once}
use Rattle.sv8_walks.proofs.machines.memories.store_to_both.Goals as goal

pub returns-clause-own : goal.returns-clause-own
returns-clause-own g c =
    let next = c.in_ok-count_down_both.ensures.own in
    let told = c.in_ok-store.ensures.ok in
    let stored = rw next at told in
    stored_at_once _ _ _ _ _ _ _ (c.if-not-is_stored_at_once.ensures refl) stored (c.in_ok-store.ensures.taken ∙ ap (λ (m : Physical g.row.PAGES). m.phys.taken) next)

pub returns-clause-others : goal.returns-clause-others
returns-clause-others g c =
    let next = c.in_ok-count_down_both.ensures.others in
    let told = c.in_ok-store-2.ensures.ok in
    let stored = rw next at told in
    stored_at_once _ _ _ _ _ _ _ (c.if-not-is_stored_at_once-2.ensures refl) stored (c.in_ok-store-2.ensures.taken ∙ ap (λ (m : Physical g.row.PAGES). m.phys.taken) next)
