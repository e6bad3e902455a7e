use Rattle.std.proofs.Common.{◌≡◌, ◌++◌, append_assoc}
use Rattle.std.specs.Prelude.{codes}
use Rattle.sv8_commands.specs.Text.{hex_word}
use Rattle.sv8_commands.proofs.PutLemmas.{gains-failed, Gains-after, gains-cut}
use Rattle.sv8_source.specs.Names.{Named}
use Rattle.sv8_monitor.specs.Texts.{name_kind_text, name_line}
use Rattle.sv8_monitor.proofs.lines.put_name.Goals as goal

name_line_is : (n : Named) → name_line n ≡ (hex_word n.value ++ name_kind_text n.kind) ++ (n.name ++ codes "\n")
unfolding name_line
name_line_is n = append_assoc (hex_word n.value ++ name_kind_text n.kind) n.name (codes "\n")

pub returns : goal.returns
returns g c = rw name_line_is (Gains-after c.add_all.result _ _ _ _ _ _ _ _ c.in_ok-put_value.ensures c.add_all.ensures)

pub returns-in_err-put_value : goal.returns-in_err-put_value
returns-in_err-put_value g c =
    let name = c.args.name.now in
    gains-failed c.from_residual.result _ _ _ _ _ c.from_residual.ensures.0 (rw name_line_is (gains-cut _ _ c.args.text.now (hex_word name.value ++ name_kind_text name.kind) (name.text.now ++ codes "\n") c.in_err-put_value.ensures))
