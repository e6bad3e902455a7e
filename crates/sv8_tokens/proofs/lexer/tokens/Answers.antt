use Rattle.std.proofs.Common.{arith, ◌≡◌, Some, None, ap, ◌∙◌}
use Rattle.std.proofs.lemmas.Result.{err_from_is_err_and}
use Rattle.std.proofs.lemmas.List.{map_push, length-map}
use Rattle.sv8_tokens.specs.Token.{view, views}
use Rattle.sv8_tokens.specs.Lexing.{next_of}
use Rattle.sv8_tokens.proofs.Cut.{keeps_start, keeps_more, keeps_end, keeps_fault, step_shorter}
use Rattle.sv8_tokens.proofs.Texts.{cut-few}
use Rattle.sv8_tokens.proofs.lexer.tokens.Goals as goal

pub loop-out-init : goal.loop-out-init
loop-out-init c = rw c.new-out.ensures.items (keeps_start c.args.text.now)

pub returns-in_err-token-clause-cut : goal.returns-in_err-token-clause-cut
returns-in_err-token-clause-cut c =
    let p = err_from_is_err_and c.from_residual.result c.from_residual.ensures.1 in
    rw (p.1, p.2) (keeps_fault c.args.text.now c.loop-out.rest.now (views c.loop-out.out.items) c.in_err-token.field-0.0 c.in_err-token.ensures c.loop-out.invariant)

pub loop-out-smaller : goal.loop-out-smaller
loop-out-smaller c =
    let e : next_of c.loop-out.rest.now ≡ Some (Some (view c.in-Some.token, c.in-Some.after.now)) = rw c.in-Some.is at c.in_ok-token.ensures in
    step_shorter c.loop-out.rest.now c.in-Some.after.now (view c.in-Some.token) e

pub loop-out-preserved : goal.loop-out-preserved
loop-out-preserved c =
    let e : next_of c.loop-out.rest.now ≡ Some (Some (view c.in-Some.token, c.in-Some.after.now)) = rw c.in-Some.is at c.in_ok-token.ensures in
    let grown : views c.push.new.self.items ≡ _ = ap views c.in_ok-push.ensures.items ∙ map_push view c.loop-out.out.items c.in-Some.token in
    keeps_more c.args.text.now c.loop-out.rest.now c.in-Some.after.now (views c.loop-out.out.items) (views c.push.new.self.items) (view c.in-Some.token) e grown c.loop-out.invariant

pub returns-clause-cut : goal.returns-clause-cut
returns-clause-cut c =
    let e : next_of c.loop-out.rest.now ≡ Some None = rw c.in_default.is at c.in_ok-token.ensures in
    keeps_end c.args.text.now c.loop-out.rest.now (views c.loop-out.out.items) e c.loop-out.invariant

pub returns-clause-few : goal.returns-clause-few
returns-clause-few c =
    let e : next_of c.loop-out.rest.now ≡ Some None = rw c.in_default.is at c.in_ok-token.ensures in
    let whole = keeps_end c.args.text.now c.loop-out.rest.now (views c.loop-out.out.items) e c.loop-out.invariant in
    omega (arith, cut-few c.args.text.now (views c.loop-out.out.items) whole.cut, length-map c.loop-out.out.items view)
