use Rattle.std.proofs.Common.{◌<◌, arith, rules}
use Rattle.sv8_commands.proofs.WordLemmas.{below-digits}
use Rattle.sv8_commands.proofs.words.hex.Goals as goal

pub overflow_mul-n : goal.overflow_mul-n
overflow_mul-n c = let h : c.loop-b.n < 4294967296 = below-digits c.loop-b.n c.loop-b.b-index 8 c.loop-b.invariant.1 (omega arith) in search rules

pub overflow_add-n : goal.overflow_add-n
overflow_add-n c = let h : c.loop-b.n < 4294967296 = below-digits c.loop-b.n c.loop-b.b-index 8 c.loop-b.invariant.1 (omega arith) in search rules

pub overflow_cast-result : goal.overflow_cast-result
overflow_cast-result c = let h : c.loop-b.n < 4294967296 = below-digits c.loop-b.n c.loop-b.b-index 8 c.loop-b.invariant.1 (omega arith) in search rules

pub returns-clause-bound : goal.returns-clause-bound
returns-clause-bound c = below-digits c.loop-b.n c.loop-b.b-index c.args.most c.loop-b.invariant.1 (omega arith)
