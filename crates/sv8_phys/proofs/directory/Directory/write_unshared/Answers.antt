use Rattle.std.proofs.Common.{◌<◌, ◌/◌, ◌%◌, length, ap, ◌∙◌, arith}
use Rattle.sv8_phys.specs.Parts.{with_value_in}
use Rattle.sv8_phys.proofs.Handles.{answers}
use Rattle.sv8_phys.proofs.GroupLemmas.{in_group, group_written, group_left}
use Rattle.sv8_phys.proofs.directory.Directory.write_unshared.Goals as goal

pub returns : goal.returns
returns c =
    let groups = c.args.self.now.groups.items in
    let at = c.args.at in
    let handle = c.index_mut-handle.result.now in
    let write = with_value_in c.args.size (at % 32768) c.args.value in
    let there : at / 32768 < length groups = omega (arith, c.if-group-len.false, c.len.ensures) in
    answers c.write_unshared.result
    (λ h. group_written groups c.args.size at c.args.value handle _ there c.requires (h ∙ ap (λ h. write (in_group h)) c.index_mut-handle.ensures.value))
    (λ h. group_left groups (at / 32768) handle _ there (h ∙ ap in_group c.index_mut-handle.ensures.value))
    c.write_unshared.ensures
