use Rattle.sv8_trace.proofs.Editing.{read_more, read_next}
use Rattle.sv8_trace.proofs.trace.Trace.first_of_all.Goals as goal

pub loop-rest-preserved-then-not-begins_alike : goal.loop-rest-preserved-then-not-begins_alike
loop-rest-preserved-then-not-begins_alike g c =
    read_more g.row.NW g.row.PAGES g.row.K c.args.self.now _ _ _ _ c.loop-rest.rest.now _ c.in-len1-up.len_at_least c.first_of.ensures c.earlier-first.ensures c.loop-rest.invariant

pub loop-rest-preserved : goal.loop-rest-preserved
loop-rest-preserved g c = read_next g.row.NW g.row.PAGES g.row.K c.args.self.now _ _ c.loop-rest.rest.now (c.begins_alike.ensures c.if-not-begins_alike.false) c.loop-rest.invariant
