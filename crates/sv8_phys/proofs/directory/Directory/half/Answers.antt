use Rattle.std.proofs.Common.{◌<◌, ◌≤◌, ◌*◌, ◌/◌, ◌%◌, [], length, replicate, ap, sym, ◌∙◌, arith}
use Rattle.std.proofs.lemmas.List.{get_or-replicate}
use Rattle.sv8_phys.specs.declared.group.Group.{Group}
use Rattle.sv8_phys.specs.Parts.{part_at, halves_of, groups_halves}
use Rattle.sv8_phys.proofs.AllBytes.{part_of-all, missing-all}
use Rattle.sv8_phys.proofs.GroupLemmas.{count, half_in_group, long_in_group}
use Rattle.sv8_phys.proofs.Sizes.{of_half}
use Rattle.sv8_phys.proofs.directory.Directory.half.Goals as goal

pub returns-then-group-len : goal.returns-then-group-len
returns-then-group-len c = λ n below.
    let groups = c.args.self.now.groups.items in
    let half = c.args.half in
    let group = c.index.result.now in
    let there : half / 16 < length groups = omega (arith, c.if-group-len.true, c.len.ensures) in
    c.half.ensures
    ∙ ap (λ (g : Group). part_at (halves_of g.halves) (half % 16)) (c.deref.ensures ∙ ap (λ h. h.value) c.index.ensures)
    ∙ sym (half_in_group groups half group there)
    ∙ sym (part_of-all 2048 of_half (2 * n) (groups_halves groups) half below (long_in_group groups half group there))

pub returns-else-group-len : goal.returns-else-group-len
returns-else-group-len c = λ n below.
    let groups = c.args.self.now.groups.items in
    let half = c.args.half in
    let past : length (groups_halves groups) ≤ half = omega (arith, c.if-group-len.false, c.len.ensures, count groups) in
    c.half-else-group-len.ensures
    ∙ ap (λ halves. part_at halves (half % 16)) c.requires
    ∙ get_or-replicate 16 (half % 16) (replicate 2048 0) [] (omega arith)
    ∙ sym (missing-all 2048 of_half (2 * n) (groups_halves groups) half below past)
