use Rattle.std.proofs.Common.{arith}
use Rattle.sv8_notes.proofs.RunLists.{has_run_inside, split_inside, cut_holds}
use Rattle.sv8_notes.proofs.runs.cut.Goals as goal

pub index_mut-requires : goal.index_mut-requires
index_mut-requires c =
    let there = has_run_inside c.args.runs.now.items c.deref.result.now c.find-place.result.run c.find-place.result.offset c.args.at c.deref.ensures.value c.find-place.ensures.reaches c.requires c.if-place-eq0.false in
    omega arith

pub split_off-requires : goal.split_off-requires
split_off-requires c =
    let there = has_run_inside c.args.runs.now.items c.deref.result.now c.find-place.result.run c.find-place.result.offset c.args.at c.deref.ensures.value c.find-place.ensures.reaches c.requires c.if-place-eq0.false in
    split_inside c.args.runs.now.items c.deref.result.now c.find-place.result.run c.find-place.result.offset c.index_mut.result.now there c.deref.ensures.value c.find-place.ensures.inside c.index_mut.ensures.value

pub insert-requires : goal.insert-requires
insert-requires c =
    let there = has_run_inside c.args.runs.now.items c.deref.result.now c.find-place.result.run c.find-place.result.offset c.args.at c.deref.ensures.value c.find-place.ensures.reaches c.requires c.if-place-eq0.false in
    omega arith

pub returns : goal.returns
returns c =
    let there = has_run_inside c.args.runs.now.items c.deref.result.now c.find-place.result.run c.find-place.result.offset c.args.at c.deref.ensures.value c.find-place.ensures.reaches c.requires c.if-place-eq0.false in
    let cut = cut_holds c.args.runs.now.items c.deref.result.now c.insert.new.self.items c.find-place.result.run c.find-place.result.offset c.args.at
    c.index_mut.result.now c.split_off.new.self c.in_ok-rest.rest there c.deref.ensures.value c.find-place.ensures.reaches c.find-place.ensures.inside
    c.index_mut.ensures.value c.in_ok-rest.ensures.first c.in_ok-rest.ensures.rest c.in_ok-insert.ensures.items in
    record { same = cut.same; inside = cut.inside; place = cut.place; kept = cut.kept }
