use Rattle.std.proofs.Common.{arith, ◌∙◌, length-set, map}
use Rattle.sv8_time.specs.Schedule.{byte_count}
use Rattle.sv8_time.proofs.InputPlaces.{drop_mapped, starts_more, count_more}
use Rattle.sv8_time.proofs.starts.recount.Goals as goal

pub byte_total-total-requires : goal.byte_total-total-requires
byte_total-total-requires g c =
    let held = g.H.Holder.held in
    let x = c.index-holders-index.result in
    let d = drop_mapped held c.args.holders.now c.loop-index.index x c.loop-index-test.true c.index-holders-index.is in
    let m = count_more c.loop-index.total c.loop-index.index (map held c.args.holders.now) (held x) (byte_count (map held c.args.holders.now)) d c.loop-index.invariant.sum in
    omega (arith, c.requires.fits)

pub overflow_add-total : goal.overflow_add-total
overflow_add-total g c =
    let held = g.H.Holder.held in
    let x = c.index-holders-index.result in
    let d = drop_mapped held c.args.holders.now c.loop-index.index x c.loop-index-test.true c.index-holders-index.is in
    let m = count_more c.loop-index.total c.loop-index.index (map held c.args.holders.now) (held x) (byte_count (map held c.args.holders.now)) d c.loop-index.invariant.sum in
    omega (arith, c.requires.fits, c.byte_total-total.ensures)

pub loop-index-preserved : goal.loop-index-preserved
loop-index-preserved g c =
    let held = g.H.Holder.held in
    let x = c.index-holders-index.result in
    let d = drop_mapped held c.args.holders.now c.loop-index.index x c.loop-index-test.true c.index-holders-index.is in
    record {
      same = length-set c.loop-index.starts.items c.loop-index.index c.loop-index.total ∙ c.loop-index.invariant.same;
      done = rw c.byte_total-total.ensures (starts_more c.loop-index.starts.items c.loop-index.total c.loop-index.index (map held c.args.holders.now) (held x) _ (omega (arith, c.loop-index.invariant.same)) d c.loop-index.invariant.done);
      sum = rw c.byte_total-total.ensures (count_more c.loop-index.total c.loop-index.index (map held c.args.holders.now) (held x) _ d c.loop-index.invariant.sum);
    }
