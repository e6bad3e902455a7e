use Rattle.std.proofs.Common.{rules, vec_len, ◌≡◌, ◌*◌, ◌+◌, ◌++◌, ◌∷◌, [], ◌∙◌, ap, refl, length, arith}
use Rattle.sv8_notes.proofs.Common.{longer}
use Rattle.sv8_trace.specs.Recording.{Recording}
use Rattle.sv8_trace.proofs.Extending.{extended_is, last_new}
use Rattle.sv8_trace.proofs.Growing.{popped}
use Rattle.sv8_trace.proofs.Marking.{marked_still, marked_more}
use Rattle.sv8_trace.proofs.trace.Trace.add.Goals as goal

pub invariant_of-self-in-Ok : goal.invariant_of-self-in-Ok
invariant_of-self-in-Ok g c =
    let inv = c.self.invariant in
    let points = longer c.self.inside.points c.push-2.new.self c.args.machine c.in-Ok.ensures.pushed in
    let intervals = longer c.self.inside.intervals.items c.push.new.self.items c.in_ok-finished.finished c.in_ok-push.ensures.items in
    let count = ap (λ (r : Recording). g.row.K * length r.intervals) c.self.view_is in
    let size : c.len.result ≡ length c.self.inside.intervals.items = search rules in
    let marked = rw size at c.in_ok-mark_words.ensures.marked in (
      inv.0,
      inv.1,
      inv.2,
      inv.3,
      inv.4,
      omega (arith, points, intervals, inv.5),
      rw intervals (omega (arith, count, c.requires.room)),
      c.push-2.ensures.sound,
      marked_more c.self.inside.marks c.mark_words.new.marks c.mark_words.ensures.grows c.self.inside.intervals.items inv.8 c.push.new.self.items c.in_ok-finished.finished c.in_ok-push.ensures.items (rw c.in_ok-finished.ensures marked),
    )

pub invariant_of-self-in-Err : goal.invariant_of-self-in-Err
invariant_of-self-in-Err g c =
    let inv = c.self.invariant in
    let long : vec_len c.push.new.self ≡ length c.push.new.self.items = search rules in
    let intervals = popped c.self.inside.intervals.items c.push.new.self.items c.pop.new.self.items c.in_ok-finished.finished (vec_len c.push.new.self) c.in_ok-push.ensures.items long c.pop.ensures.rest in
    let points = c.in-Err.ensures.refused in
    rw (points, intervals) (inv.0, inv.1, inv.2, inv.3, inv.4, inv.5, inv.6, inv.7, marked_still c.self.inside.marks c.mark_words.new.marks c.mark_words.ensures.grows c.self.inside.intervals.items inv.8)

pub invariant_of-self-in_err-push : goal.invariant_of-self-in_err-push
invariant_of-self-in_err-push g c =
    let inv = c.self.invariant in
    rw c.in_err-push.ensures.items (inv.0, inv.1, inv.2, inv.3, inv.4, inv.5, inv.6, inv.7, marked_still c.self.inside.marks c.mark_words.new.marks c.mark_words.ensures.grows c.self.inside.intervals.items inv.8)

pub returns-in-Ok-clause-last : goal.returns-in-Ok-clause-last
returns-in-Ok-clause-last g c =
    let inside = c.self.inside in
    let old : Recording = record { points = inside.points; intervals = inside.intervals.items } in
    let new : Recording = record { points = c.push-2.new.self; intervals = c.push.new.self.items } in
    last_new g.row.K old new c.args.machine c.in_ok-finished.finished (λ s n. s ≡ c.args.machine) c.self.invariant.5 c.in-Ok.ensures.pushed c.in_ok-push.ensures.items refl

pub returns-in-Ok-clause-extended : goal.returns-in-Ok-clause-extended
returns-in-Ok-clause-extended g c = λ schedule state steps.
    let inv = c.self.invariant in
    let old = c.args.self.now in
    let m = c.args.machine in
    let new : Recording = record { points = c.push-2.new.self; intervals = c.push.new.self.items } in
    let points = ap (λ (r : Recording). r.points) c.self.view_is in
    let intervals = ap (λ (r : Recording). r.intervals) c.self.view_is in
    let long : length old.points ≡ length old.intervals + 1 = omega (arith, ap length points, ap length intervals, inv.5) in
    let added = c.in_ok-push.ensures.items ∙ ap (λ i. c.self.inside.intervals.items ++ i ∷ []) c.in_ok-finished.ensures ∙ ap (λ is. is ++ c.args.interval ∷ []) intervals in
    extended_is g.row.NW g.row.PAGES g.row.K inv.3 schedule old new m c.args.interval long (c.in-Ok.ensures.pushed ∙ ap (λ ps. ps ++ m ∷ []) points) added state steps
