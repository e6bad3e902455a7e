use Rattle.std.proofs.Common.{◌++◌, Err}
use Rattle.std.specs.Prelude.{codes, decimal}
use Rattle.sv8_commands.specs.Text.{hex_word, numbered_text}
use Rattle.sv8_answers.specs.Text.{listed_byte, listing_line}
use Rattle.sv8_commands.proofs.PutLemmas.{gains-failed, Gains-after, gains-cut}
use Rattle.sv8_answers.proofs.lines.add_line.Goals as goal

pub returns : goal.returns
unfolding listing_line
returns g c = Gains-after c.add_all.result _ _ _ _ _ _ _ _ c.in_ok-add_place.ensures (Gains-after c.add_all.result _ _ _ _ _ _ _ _ c.in_ok-add_bytes.ensures c.add_all.ensures)

pub returns-in_err-add_bytes : goal.returns-in_err-add_bytes
unfolding listing_line
returns-in_err-add_bytes g c =
    let line = c.args.line.now in
    let part = gains-cut _ _ _ (numbered_text listed_byte 0 line.bytes.now) (codes " |" ++ line.text.now ++ codes "\n") c.in_err-add_bytes.ensures in
    gains-failed c.from_residual-in_err-add_bytes.result _ _ _ _ _ c.from_residual-in_err-add_bytes.ensures.0 (Gains-after {A = Unit {0}} {E = Unit {0}} (Err tt) _ _ _ _ _ c.add_bytes.new.text _ _ c.in_ok-add_place.ensures part)

pub returns-in_err-add_place : goal.returns-in_err-add_place
unfolding listing_line
returns-in_err-add_place g c =
    let line = c.args.line.now in
    gains-failed c.from_residual.result _ _ _ _ _ c.from_residual.ensures.0 (gains-cut _ _ c.args.text.now (decimal c.args.number ++ codes " " ++ hex_word line.address) (numbered_text listed_byte 0 line.bytes.now ++ (codes " |" ++ line.text.now ++ codes "\n")) c.in_err-add_place.ensures)
