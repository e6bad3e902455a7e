use Rattle.std.proofs.Common.{◌≡◌, ℕ, ◌++◌, List, [], ◌∷◌, length, eqb, false, refl, sym}
use Rattle.std.specs.Prelude.{codes, decimal}
use Rattle.sv8_commands.proofs.PutLemmas.{gains-failed, Gains-after, gains-cut}
use Rattle.sv8_monitor.specs.Events.{input_text, digits_text}
use Rattle.sv8_monitor.proofs.event_lines.put_input.Goals as goal

-- the line of an input of some bytes
some_input : (n : ℕ) (bytes : List ℕ) → eqb (length bytes) 0 ≡ false → input_text n bytes ≡ (codes "input " ++ decimal n ++ codes " ") ++ (digits_text bytes ++ codes "\n")
some_input n [] h = cc
some_input n (b ∷ bytes) h = refl

pub returns : goal.returns
returns g c =
    rw (some_input c.args.step c.args.bytes.now (sym c.if-is_empty.ensures))
    (Gains-after c.put_input_bytes.result _ _ _ _ _ _ _ _ c.in_ok-put_input_place.ensures c.put_input_bytes.ensures)

pub returns-in_err-put_input_place : goal.returns-in_err-put_input_place
returns-in_err-put_input_place g c = gains-failed c.from_residual.result _ _ _ _ _ c.from_residual.ensures.0 (rw (some_input c.args.step c.args.bytes.now (sym c.if-is_empty.ensures))
    (gains-cut _ _ c.args.text.now (codes "input " ++ decimal c.args.step ++ codes " ") (digits_text c.args.bytes.now ++ codes "\n") c.in_err-put_input_place.ensures))
