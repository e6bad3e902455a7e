use Rattle.std.proofs.Common.{◌≡◌, ◌≤◌, ◌-◌, ◌++◌, length, take, drop}
use Rattle.sv8_tokens.specs.Spelling.{is_name_byte, span}
use Rattle.sv8_tokens.proofs.lexer.name_span.Given as goal

abbrev pub invariant-loop-n : goal.invariant-loop-n
invariant-loop-n l = record {
  in_range : l.n ≤ length l.text;
  front : take l.n l.text ++ (span is_name_byte (drop l.n l.text)).0 ≡ (span is_name_byte l.text).0;
  rest : (span is_name_byte (drop l.n l.text)).1 ≡ (span is_name_byte l.text).1;
}

abbrev pub decreases-loop-n : goal.decreases-loop-n
decreases-loop-n l = length l.text - l.n
