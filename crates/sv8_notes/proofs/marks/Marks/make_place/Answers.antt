use Rattle.std.proofs.Common.{rules, ◌≡◌, ◌∙◌, ◌++◌, ◌∷◌, [], ap, arith, length}
use Rattle.sv8_notes.specs.Marks.{mark_of}
use Rattle.sv8_notes.proofs.Marking.{longer, same_marks}
use Rattle.sv8_notes.proofs.marks.Marks.make_place.Goals as goal

pub loop-alloc-init : goal.loop-alloc-init
loop-alloc-init c = λ a. ap (λ ps. mark_of ps a) c.self.view_is

pub loop-alloc-preserved : goal.loop-alloc-preserved
loop-alloc-preserved c = λ a. same_marks c.loop-alloc.self-inside.pages.items c.push.new.self.items a (c.in_ok-push.ensures.items ∙ ap (λ q. c.loop-alloc.self-inside.pages.items ++ q ∷ []) c.new.ensures) ∙ c.loop-alloc.invariant a

pub loop-alloc-smaller : goal.loop-alloc-smaller
loop-alloc-smaller c =
    let more = longer c.loop-alloc.self-inside.pages.items c.push.new.self.items _ c.in_ok-push.ensures.items in
    let size : c.len.result ≡ length c.loop-alloc.self-inside.pages.items = search rules in
    omega (arith, more, size, c.loop-alloc-test.true)

pub returns-in_err-push-clause-same : goal.returns-in_err-push-clause-same
returns-in_err-push-clause-same c = λ a. ap (λ ps. mark_of ps a) c.in_err-push.ensures.items ∙ c.loop-alloc.invariant a

pub returns-clause-same : goal.returns-clause-same
returns-clause-same c = λ a. c.loop-alloc.invariant a
