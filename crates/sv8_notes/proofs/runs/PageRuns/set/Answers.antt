use Rattle.sv8_notes.proofs.RunLists.{set_between, set_whole_long}
use Rattle.sv8_notes.proofs.runs.PageRuns.set.Goals as goal

pub returns-clause-length : goal.returns-clause-length
returns-clause-length c =
    set_whole_long c.args.address c.args.value c.args.low c.args.end c.in_ok-first.first c.in_ok-last.last c.self.inside.runs.items c.cut.new.runs.items c.cut-2.new.runs.items c.set_in_runs.new.runs.items
    c.args.self.now c.self.view_is c.if-low-end.false c.in_ok-first.ensures.same c.in_ok-first.ensures.place c.in_ok-last.ensures.same c.in_ok-last.ensures.place c.in_ok-last.ensures.kept
    c.in_ok-set_in_runs.ensures.length c.in_ok-set_in_runs.ensures.set

pub returns-clause-set : goal.returns-clause-set
returns-clause-set c =
    set_between c.args.address c.args.value c.args.low c.args.end c.in_ok-first.first c.in_ok-last.last c.self.inside.runs.items c.cut.new.runs.items c.cut-2.new.runs.items c.set_in_runs.new.runs.items
    c.args.self.now c.self.view_is c.if-low-end.false c.in_ok-first.ensures.same c.in_ok-first.ensures.place c.in_ok-last.ensures.same c.in_ok-last.ensures.place c.in_ok-last.ensures.kept
    c.in_ok-set_in_runs.ensures.length c.in_ok-set_in_runs.ensures.set
