use Rattle.std.proofs.Common.{rules, arith, ◌≡◌, ◌<◌, length, option_map}
use Rattle.std.proofs.lemmas.List.Edits.{map_over_more}
use Rattle.sv8_trace.proofs.points.columns.cut_all.Goals as goal

pub loop-index-preserved : goal.loop-index-preserved
loop-index-preserved g c =
    let size : c.len-index-end.result ≡ length c.args.places.now.items = search rules in
    let below : c.loop-index.index < length c.args.places.now.items = omega (arith, size, c.loop-index-test.true) in
    rw c.cut.ensures (map_over_more (option_map (g.C.Column.cut c.args.count)) c.args.places.now.items c.loop-index.places.items c.loop-index.index c.index_mut.result.now below c.loop-index.invariant c.index_mut.ensures.value)
