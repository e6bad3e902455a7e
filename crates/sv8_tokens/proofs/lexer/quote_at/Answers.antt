use Rattle.sv8_tokens.proofs.Loops.{quote_at-escaped}
use Rattle.sv8_tokens.proofs.lexer.quote_at.Goals as goal

pub loop-n-preserved-then-escaped : goal.loop-n-preserved-then-escaped
loop-n-preserved-then-escaped c = quote_at-escaped c.args.text.now c.loop-n.n c.loop-n.escaped _ c.loop-n-test.true c.if-escaped.true c.loop-n.invariant
