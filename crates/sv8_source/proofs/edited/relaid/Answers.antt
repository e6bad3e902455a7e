use Rattle.std.proofs.Common.{rules, ◌+◌, length}
use Rattle.sv8_source.specs.Text.{texts, place_texts}
use Rattle.sv8_source.proofs.Again.{front_count, lines_count, front_fault, middle_fault, back_fault, all_laid}
use Rattle.sv8_source.proofs.edited.relaid.Goals as goal

pub returns-in-Err : goal.returns-in-Err
returns-in-Err c = front_fault c.args.limit (place_texts c.args.front.now) (texts c.args.lines.now) (place_texts c.args.back.now) c.in-Err.fault (search rules)

pub returns-in-Err-add_lines : goal.returns-in-Err-add_lines
returns-in-Err-add_lines c = middle_fault c.args.limit (place_texts c.args.front.now) (texts c.args.lines.now) (place_texts c.args.back.now) c.add_places.new.self (length c.args.front.now + 1) c.in-Err-add_lines.fault (front_count c.args.front.now) (search rules) (search rules)

pub returns-in-Err-add_places : goal.returns-in-Err-add_places
returns-in-Err-add_places c = back_fault c.args.limit (place_texts c.args.front.now) (texts c.args.lines.now) (place_texts c.args.back.now) c.add_places.new.self c.add_lines.new.self (length c.args.front.now + 1) (length c.args.front.now + 1 + length c.args.lines.now)
    c.in-Err-add_places.fault (front_count c.args.front.now) (lines_count (length c.args.front.now + 1) c.args.lines.now) (search rules) (search rules) (search rules)

pub returns : goal.returns
returns c = all_laid c.args.limit (place_texts c.args.front.now) (texts c.args.lines.now) (place_texts c.args.back.now) c.add_places.new.self c.add_lines.new.self c.add_places-2.new.self (length c.args.front.now + 1) (length c.args.front.now + 1 + length c.args.lines.now)
    (front_count c.args.front.now) (lines_count (length c.args.front.now + 1) c.args.lines.now) (search rules) (search rules) (search rules)
