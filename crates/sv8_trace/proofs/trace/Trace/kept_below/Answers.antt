use Rattle.std.proofs.Common.{◌≡◌, ◌≤◌, ◌+◌, ◌*◌, ◌/◌, ◌&&◌, leb, ltb, false, true, Some, None, option_map, get_or, sym, ap, ◌∙◌, arith, le-leb, lt-ltb, le-ltb, mul-le-mul_left}
use Rattle.std.proofs.lemmas.Bool.{and_left, and_right, lt-leb}
use Rattle.sv8_history.specs.Trace.{next_checkpoint}
use Rattle.sv8_notes.specs.Cells.{cell_of, content_of}
use Rattle.sv8_cpu.specs.Recorded.{machine, get}
use Rattle.sv8_trace.specs.Recording.{blank}
use Rattle.sv8_trace.specs.Prepared.{placed, prepared_trace}
use Rattle.sv8_history.proofs.Common.{below_none, below_is, first_of, second_of, third_of, next_index, div_along}
use Rattle.sv8_trace.proofs.Preparing.{not_kept}
use Rattle.sv8_trace.proofs.trace.Trace.kept_below.Goals.{else-step-reach-via-then-step-reach+else-step-reach-2, else-step-reach-via-else-step-reach, else-reach-step-via-then-reach-step+then-reach+else-reach-2, else-reach-step-via-then-reach-step+else-reach, else-reach-step-via-else-reach-step}
use Rattle.sv8_trace.proofs.trace.Trace.kept_below.Goals as goal

pub returns-then-next-staged-clause-kept : goal.returns-then-next-staged-clause-kept
returns-then-next-staged-clause-kept g c =
    let k = g.row.K in
    let m = machine g.row.NW g.row.PAGES in
    let v = prepared_trace g.row.NW g.row.PAGES k c.args.self.now c.args.staged.now in
    let pos = c.self.invariant.3 in
    let h : c.args.staged.now.count ≤ c.args.reach.from / k = omega (arith, c.if-next-staged.true) in
    let w = mul-le-mul_left k h in
    below_none m k pos v (cell_of c.args.cell) c.args.reach.from c.args.reach.to (not_kept (c.args.reach.from / k) c.args.staged.now.count _ h) (λ l. not_kept (c.args.reach.to / k) c.args.staged.now.count _ (div_along k c.args.staged.now.count c.args.reach.from c.args.reach.to pos h l)) (omega (arith, w, pos))

pub returns-then-step-reach-2-clause-kept : goal.returns-then-step-reach-2-clause-kept
returns-then-step-reach-2-clause-kept g c =
    let k = g.row.K in
    let m = machine g.row.NW g.row.PAGES in
    let pos = c.self.invariant.3 in
    let v = prepared_trace g.row.NW g.row.PAGES k c.args.self.now c.args.staged.now in
    let next = next_checkpoint k c.args.reach.from in
    let h : c.args.reach.from / k + 1 ≤ c.args.staged.now.count = omega (arith, c.if-next-staged.false) in
    let w = mul-le-mul_left k h in
    let in_cut : next_checkpoint k c.args.reach.from ≤ k * c.args.staged.now.count = omega (arith, w) in
    let none = sym c.kept_value.ensures ∙ ap (option_map content_of) c.in-None.is in
    let b = below_is m k pos v (cell_of c.args.cell) c.args.reach.from c.args.reach.to c.args.reach.wrote (k * c.args.staged.now.count) in_cut (omega arith) none (record { before = c.requires.first.before; at = c.requires.first.at }) in
    let p : leb (next_checkpoint k c.args.reach.from) c.args.reach.to ≡ true = le-leb (next_checkpoint k c.args.reach.from) c.args.reach.to (omega (arith, c.if-step-reach.true)) in
    let q : leb (next_checkpoint k c.args.reach.from) c.args.reach.wrote ≡ true = le-leb (next_checkpoint k c.args.reach.from) c.args.reach.wrote (omega (arith, c.if-step-reach-2.true)) in
    let i = next_index k c.args.reach.from pos in
    ap Some (c.content.ensures ∙ ap (λ x. get (cell_of c.args.cell) (placed c.args.staged.now x (get_or c.args.self.now.points x blank))) (sym i))
    ∙ first_of (leb (next_checkpoint k c.args.reach.from) c.args.reach.to) (leb (next_checkpoint k c.args.reach.from) c.args.reach.wrote) _ _ p q ∙ b

pub returns-then-reach-2-clause-kept : goal.returns-then-reach-2-clause-kept
returns-then-reach-2-clause-kept g c =
    let k = g.row.K in
    let m = machine g.row.NW g.row.PAGES in
    let pos = c.self.invariant.3 in
    let v = prepared_trace g.row.NW g.row.PAGES k c.args.self.now c.args.staged.now in
    let h : c.args.reach.from / k + 1 ≤ c.args.staged.now.count = omega (arith, c.if-next-staged.false) in
    let w = mul-le-mul_left k h in
    let in_cut : next_checkpoint k c.args.reach.from ≤ k * c.args.staged.now.count = omega (arith, w) in
    let none = sym c.kept_value.ensures ∙ ap (option_map content_of) c.in-None.is in
    let b = below_is m k pos v (cell_of c.args.cell) c.args.reach.from c.args.reach.to c.args.reach.wrote (k * c.args.staged.now.count) in_cut (omega arith) none (record { before = c.requires.first.before; at = c.requires.first.at }) in
    let p : (leb (next_checkpoint k c.args.reach.from) c.args.reach.to && leb (next_checkpoint k c.args.reach.from) c.args.reach.wrote) ≡ false =
    and_left (leb (next_checkpoint k c.args.reach.from) c.args.reach.to) (leb (next_checkpoint k c.args.reach.from) c.args.reach.wrote) (lt-leb (next_checkpoint k c.args.reach.from) c.args.reach.to (omega (arith, c.if-reach-step.true))) in
    let q : ltb c.args.reach.to (next_checkpoint k c.args.reach.from) ≡ true = lt-ltb c.args.reach.to (next_checkpoint k c.args.reach.from) (omega (arith, c.if-reach-step.true)) in
    let o : leb c.args.reach.to c.args.reach.wrote ≡ true = le-leb c.args.reach.to c.args.reach.wrote (omega (arith, c.if-reach.true)) in
    let l : leb c.args.reach.from c.args.reach.to ≡ true = le-leb c.args.reach.from c.args.reach.to (omega (arith, c.if-reach-2.true)) in
    c.kept_value-then-reach-2.ensures
    ∙ second_of (leb (next_checkpoint k c.args.reach.from) c.args.reach.to) (leb (next_checkpoint k c.args.reach.from) c.args.reach.wrote) (leb c.args.reach.from c.args.reach.to) (ltb c.args.reach.to (next_checkpoint k c.args.reach.from)) (leb c.args.reach.to c.args.reach.wrote) _ _ None p l q o ∙ b

pub returns-clause-kept : goal.returns-clause-kept
returns-clause-kept g c =
    let k = g.row.K in
    let m = machine g.row.NW g.row.PAGES in
    let pos = c.self.invariant.3 in
    let v = prepared_trace g.row.NW g.row.PAGES k c.args.self.now c.args.staged.now in
    let h : c.args.reach.from / k + 1 ≤ c.args.staged.now.count = omega (arith, c.if-next-staged.false) in
    let w = mul-le-mul_left k h in
    let in_cut : next_checkpoint k c.args.reach.from ≤ k * c.args.staged.now.count = omega (arith, w) in
    let none = sym c.kept_value.ensures ∙ ap (option_map content_of) c.in-None.is in
    let b = below_is m k pos v (cell_of c.args.cell) c.args.reach.from c.args.reach.to c.args.reach.wrote (k * c.args.staged.now.count) in_cut (omega arith) none (record { before = c.requires.first.before; at = c.requires.first.at }) in
    let p : (leb (next_checkpoint k c.args.reach.from) c.args.reach.to && leb (next_checkpoint k c.args.reach.from) c.args.reach.wrote) ≡ false = elim c.else-step-reach.branch [
      | else-step-reach-via-then-step-reach+else-step-reach-2 u ↦ and_right (leb (next_checkpoint k c.args.reach.from) c.args.reach.to) (leb (next_checkpoint k c.args.reach.from) c.args.reach.wrote) (lt-leb (next_checkpoint k c.args.reach.from) c.args.reach.wrote (omega (arith, u.if-step-reach-2.false)))
      | else-step-reach-via-else-step-reach u ↦ and_left (leb (next_checkpoint k c.args.reach.from) c.args.reach.to) (leb (next_checkpoint k c.args.reach.from) c.args.reach.wrote) (lt-leb (next_checkpoint k c.args.reach.from) c.args.reach.to (omega (arith, u.if-step-reach.false)))
    ] in
    let both = (ltb c.args.reach.to (next_checkpoint k c.args.reach.from) && leb c.args.reach.to c.args.reach.wrote) in
    let q : (leb c.args.reach.from c.args.reach.to && both) ≡ false = elim c.else-reach-step.branch [
      | else-reach-step-via-then-reach-step+then-reach+else-reach-2 u ↦ and_left (leb c.args.reach.from c.args.reach.to) both (lt-leb c.args.reach.from c.args.reach.to (omega (arith, u.if-reach-2.false)))
      | else-reach-step-via-then-reach-step+else-reach u ↦ and_right (leb c.args.reach.from c.args.reach.to) both (and_right (ltb c.args.reach.to (next_checkpoint k c.args.reach.from)) (leb c.args.reach.to c.args.reach.wrote) (lt-leb c.args.reach.to c.args.reach.wrote (omega (arith, u.if-reach.false))))
      | else-reach-step-via-else-reach-step u ↦ and_right (leb c.args.reach.from c.args.reach.to) both (and_left (ltb c.args.reach.to (next_checkpoint k c.args.reach.from)) (leb c.args.reach.to c.args.reach.wrote) (le-ltb c.args.reach.to (next_checkpoint k c.args.reach.from) (omega (arith, u.if-reach-step.false))))
    ] in
    third_of (leb (next_checkpoint k c.args.reach.from) c.args.reach.to) (leb (next_checkpoint k c.args.reach.from) c.args.reach.wrote) (leb c.args.reach.from c.args.reach.to) (ltb c.args.reach.to (next_checkpoint k c.args.reach.from)) (leb c.args.reach.to c.args.reach.wrote) _ _ None p q ∙ b
