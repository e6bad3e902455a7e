use Rattle.std.proofs.Common.{◌≡◌, ◌∙◌, ◌+◌, ◌-◌, ◌<◌, ◌≤◌, ℕ, List, take, drop, length, get_or, ap, subst, arith, length-take}
use Rattle.std.proofs.lemmas.List.{length-drop, get_or-drop, get_or-take, take_all}
use Rattle.sv8_source.specs.Listing.{ListedLine, listing}
use Rattle.sv8_commands.specs.Text.{numbered_text}
use Rattle.sv8_answers.specs.Text.{listing_line}
use Rattle.sv8_commands.specs.Put.{Gained}
use Rattle.sv8_answers.specs.Put.{no_line}
use Rattle.sv8_commands.proofs.PutLemmas.{gains-failed, gained-none}
use Rattle.sv8_commands.proofs.NumberedLemmas.{numbered-cut, numbered-next}
use Rattle.sv8_answers.proofs.listing.add_lines.Goals as goal

-- so many lines from a place on
asked : List ListedLine → ℕ → ℕ → List ListedLine
asked lines from to = take (to - from) (drop from lines)

module _ (lines : List ListedLine) (from to place : ℕ) (low : from ≤ place) (high : place < to) (all : to ≤ length lines) where
  -- one of them by its place
  line_is : get_or (asked lines from to) (place - from) no_line ≡ get_or lines place no_line
  unfolding asked
  line_is =
      let here : from + (place - from) ≡ place = omega (arith, low) in
      get_or-take (to - from) (drop from lines) (place - from) no_line (omega (arith, low, high)) ∙ get_or-drop from lines (place - from) no_line ∙ ap (λ i. get_or lines i no_line) here

  there : place - from < length (asked lines from to)
  unfolding asked
  there = omega (arith, low, high, all, length-take (to - from) (drop from lines), length-drop from lines)

pub loop-place-init : goal.loop-place-init
loop-place-init g c = let none : c.args.from - c.args.from ≡ 0 = omega arith in rw none (gained-none _ _)

pub returns-in_err-add_line_at : goal.returns-in_err-add_line_at
unfolding asked
returns-in_err-add_line_at g c =
    let lines = listing (g.B.Workbench.kept c.args.bench.now).source in
    let from = c.args.from in
    let place = c.loop-place.place in
    let is = line_is lines from c.args.to place (omega arith) (omega arith) (omega arith) in
    gains-failed c.from_residual.result _ _ _ _ _ c.from_residual.ensures.0 (numbered-cut listing_line (from + 1) (asked lines from c.args.to) (place - from) (place + 1) no_line _ _ _ _ _ (there lines from c.args.to place (omega arith) (omega arith) (omega arith)) (omega arith)
    c.loop-place.invariant (rw is c.in_err-add_line_at.ensures))

pub loop-place-preserved : goal.loop-place-preserved
unfolding asked
loop-place-preserved g c =
    let lines = listing (g.B.Workbench.kept c.args.bench.now).source in
    let from = c.args.from in
    let place = c.loop-place.place in
    let more : place + 1 - from ≡ (place - from) + 1 = omega arith in
    let is = line_is lines from c.args.to place (omega arith) (omega arith) (omega arith) in
    rw more
    (numbered-next listing_line (from + 1) (asked lines from c.args.to) (place - from) (place + 1) no_line _ _ _ _ _ _ (there lines from c.args.to place (omega arith) (omega arith) (omega arith)) (omega arith)
    c.loop-place.invariant (rw is c.in_ok-add_line_at.ensures))

pub returns : goal.returns
unfolding asked
returns g c =
    let lines = listing (g.B.Workbench.kept c.args.bench.now).source in
    let from = c.args.from in
    let all = asked lines from c.args.to in
    let end : c.loop-place.place ≡ c.args.to = omega arith in
    let whole : take (c.loop-place.place - from) all ≡ all = take_all (c.loop-place.place - from) all (omega (arith, end, length-take (c.args.to - from) (drop from lines))) in
    subst
    (λ (xs : List ListedLine). Gained (g.W.Write.contents c.args.writer.now) (g.W.Write.contents c.loop-place.writer) c.args.text.now c.loop-place.text (numbered_text listing_line (from + 1) xs)) whole
    c.loop-place.invariant
