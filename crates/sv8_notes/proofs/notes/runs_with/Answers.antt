use Rattle.std.proofs.Common.{rules, ◌≡◌, ◌++◌, ◌∷◌, [], ap, sym, ◌∙◌}
use Rattle.std.specs.List.{each_same}
use Rattle.sv8_notes.specs.WordRuns.{words_of}
use Rattle.sv8_notes.proofs.RunsOfWords.{words_with, words_without}
use Rattle.sv8_notes.proofs.notes.runs_with.Goals as goal

pub returns-then-count-eq0 : goal.returns-then-count-eq0
returns-then-count-eq0 c =
    ap words_of (each_same c.args.runs.now.items c.in_ok-all.all.items c.in_ok-all.ensures.cases.0) ∙ words_without c.args.runs.now.items c.args.run (sym c.count.ensures.value ∙ c.if-count-eq0.true)

pub returns : goal.returns
returns c =
    let all : c.push.new.self.items ≡ c.args.runs.now.items ++ c.args.run ∷ [] = search rules in
    ap words_of all ∙ words_with c.args.runs.now.items c.args.run
