use Rattle.std.proofs.Common.{rules}
use Rattle.sv8_phys.proofs.PieceLemmas.{end_of_chunks, end_of_tail, end_of_full_tail}
use Rattle.sv8_phys.proofs.output.Output.end.Goals as goal

pub returns-in-Some : goal.returns-in-Some
returns-in-Some c =
    end_of_tail c.self.inside.full.value.items c.self.inside.tail c.len-full.result c.args.self.now c.self.invariant (search rules) c.self.view_is c.in-Some.tail c.in-Some.is c.if-tail-lt-CHUNK_BYTES.true

pub returns-in-Some-2 : goal.returns-in-Some-2
returns-in-Some-2 c =
    end_of_full_tail c.self.inside.full.value.items c.self.inside.tail c.len-full.result c.args.self.now c.self.invariant (search rules) c.self.view_is c.in-Some.tail c.in-Some.is c.if-tail-lt-CHUNK_BYTES.false

pub returns-in-None : goal.returns-in-None
returns-in-None c =
    end_of_chunks c.self.inside.full.value.items c.self.inside.tail c.len-full.result c.args.self.now c.self.invariant (search rules) c.self.view_is c.in-None.is
