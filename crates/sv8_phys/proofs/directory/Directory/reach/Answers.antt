use Rattle.std.proofs.Common.{◌≡◌, [], ◌∷◌, ◌++◌, ◌*◌, replicate, ap, ◌∙◌}
use Rattle.std.proofs.lemmas.Grind.{flat_map-append}
use Rattle.sv8_phys.specs.declared.group.Group.{Group}
use Rattle.sv8_phys.specs.Parts.{all_bytes, groups_halves, halves_of, ram_bytes}
use Rattle.sv8_phys.proofs.AllBytes.{more-all}
use Rattle.sv8_phys.proofs.GroupLemmas.{in_group, one_group}
use Rattle.sv8_phys.proofs.Sizes.{of_half}
use Rattle.sv8_phys.proofs.directory.Directory.reach.Goals as goal

pub loop-group-preserved : goal.loop-group-preserved
loop-group-preserved c = λ n.
    let before = groups_halves c.loop-group.self.groups.items in
    let zero : in_group c.in_ok-zero.zero ≡ replicate 16 (replicate 2048 0) = ap (λ (g : Group). halves_of g.halves) c.in_ok-zero.ensures.cases ∙ c.requires in
    ap (λ groups. ram_bytes n (groups_halves groups)) c.in_ok-push.ensures.items
    ∙ ap (all_bytes 2048 (2 * n)) (flat_map-append in_group c.loop-group.self.groups.items (c.in_ok-zero.zero ∷ []) ∙ ap (λ halves. before ++ halves) (one_group c.in_ok-zero.zero ∙ zero))
    ∙ more-all 2048 of_half (2 * n) before 16
    ∙ c.loop-group.invariant n
