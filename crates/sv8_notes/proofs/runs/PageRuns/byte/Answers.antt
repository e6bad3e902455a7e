use Rattle.std.proofs.Common.{◌%◌, get_or, ap, ◌∙◌, arith}
use Rattle.sv8_notes.proofs.RunLists.{has_run, page_found}
use Rattle.sv8_notes.proofs.runs.PageRuns.byte.Goals as goal

pub index-requires : goal.index-requires
index-requires c =
    let there = has_run c.self.inside.runs.items c.deref.result.now c.args.self.now c.find-place.result.run c.find-place.result.offset c.args.index c.deref.ensures.value c.self.view_is c.find-place.ensures.reaches c.requires in
    omega arith

pub returns : goal.returns
returns c =
    c.byte.ensures
    ∙ ap (λ p. get_or p (c.args.address % 4096) 0)
    (page_found c.self.inside.runs.items c.deref.result.now c.args.self.now c.find-place.result.run c.find-place.result.offset c.args.index c.index.result.now
    c.deref.ensures.value c.self.view_is c.find-place.ensures.reaches c.requires c.find-place.ensures.inside c.index.ensures)
