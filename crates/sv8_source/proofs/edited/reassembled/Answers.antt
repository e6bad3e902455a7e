use Rattle.std.proofs.Common.{◌++◌}
use Rattle.sv8_source.specs.Text.{texts, place_texts}
use Rattle.sv8_source.proofs.Passes.{laid_fault, code_fault}
use Rattle.sv8_source.proofs.edited.reassembled.Goals as goal

pub returns-in-Err : goal.returns-in-Err
returns-in-Err c = laid_fault c.args.limit (place_texts c.args.front.now ++ texts c.args.lines.now ++ place_texts c.args.back.now) c.in-Err.fault c.in-Err.ensures

pub returns-in-Err-coded : goal.returns-in-Err-coded
returns-in-Err-coded c = code_fault c.args.limit (place_texts c.args.front.now ++ texts c.args.lines.now ++ place_texts c.args.back.now) c.in-Ok.laid c.in-Err-coded.fault c.in-Ok.ensures c.in-Err-coded.ensures.code
