use Rattle.std.proofs.Common.{rules, arith, ◌≡◌, [], ◌∷◌, ap, ◌∙◌}
use Rattle.std.proofs.lemmas.Result.{err_from_is_err_and}
use Rattle.sv8_model.specs.declared.refused.Refused.TheVariants.{By}
use Rattle.sv8_statements.specs.declared.fault.LineFault.TheVariants.{Syntax}
use Rattle.sv8_tokens.specs.Token.{views}
use Rattle.sv8_statements.specs.Operand.{operand_views}
use Rattle.sv8_syntax.specs.Parts.{parts_behind}
use Rattle.sv8_syntax.specs.Reading.{parts_of, operands_of}
use Rattle.sv8_syntax.proofs.Split.{read_none, read_more, count_more, read_end, read_fault, parts-few}
use Rattle.sv8_syntax.proofs.line.operands.Goals as goal

pub returns-then-is_empty-clause-read : goal.returns-then-is_empty-clause-read
returns-then-is_empty-clause-read c = read_none c.args.tokens.now c.new-out.result.items (search rules) c.new-out.ensures.items

pub returns-in_err-operand-clause-read : goal.returns-in_err-operand-clause-read
returns-in_err-operand-clause-read c =
    let p = err_from_is_err_and c.from_residual.result c.from_residual.ensures.1 in
    let is_syntax : c.in_err-operand.field-0.0 ≡ By Syntax = search rules in
    let cut : parts_behind c.loop-rest.rest ≡ views c.first_part.result.0.now ∷ parts_behind c.first_part.result.1 = ap parts_behind c.in-Some.is ∙ c.first_part.ensures.split in
    rw (p.1, p.2, is_syntax) (read_fault (operand_views c.loop-rest.out.items) _ _ _ _ cut (search rules) c.loop-rest.invariant.read)

pub loop-rest-preserved : goal.loop-rest-preserved
loop-rest-preserved c =
    let cut : parts_behind c.loop-rest.rest ≡ views c.first_part.result.0.now ∷ parts_behind c.first_part.result.1 = ap parts_behind c.in-Some.is ∙ c.first_part.ensures.split in
    record {
      read = read_more c.loop-rest.out.items c.push.new.self.items c.in_ok-operand.operand _ _ _ _ c.in_ok-push.ensures.items cut (search rules) c.loop-rest.invariant.read;
      count = count_more c.loop-rest.out.items c.push.new.self.items c.in_ok-operand.operand _ _ _ _ c.in_ok-push.ensures.items cut c.loop-rest.invariant.count;
    }

pub returns-clause-read : goal.returns-clause-read
returns-clause-read c = let e : parts_behind c.loop-rest.rest ≡ [] = search rules in read_end c.loop-rest.out.items (parts_behind c.loop-rest.rest) (operands_of (parts_of (views c.args.tokens.now))) e c.loop-rest.invariant.read

pub returns-clause-few : goal.returns-clause-few
returns-clause-few c = omega (arith, c.loop-rest.invariant.count, parts-few c.args.tokens.now)
