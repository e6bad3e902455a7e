use Rattle.std.proofs.Common.{[], length, arith}
use Rattle.sv8_source.specs.Listing.{listing}
use Rattle.sv8_commands.specs.Text.{ok_line}
use Rattle.sv8_commands.proofs.PutLemmas.{puts-failed, Puts-gained, gains-cut}
use Rattle.sv8_monitor.specs.Answers.{lines_told}
use Rattle.sv8_monitor.proofs.QueryLemmas.{lines-there, lines-by-places}
use Rattle.sv8_monitor.proofs.answers.tell_lines.Goals as goal

pub add_lines-requires : goal.add_lines-requires
add_lines-requires g c = let there = lines-there c.args.first c.args.last (length c.args.bench.now.kept.source.lines) c.requires in record { ordered = omega arith; listed = omega arith }

pub returns : goal.returns
returns g c =
    let there = lines-there c.args.first c.args.last (length c.args.bench.now.kept.source.lines) c.requires in
    let same = lines-by-places c.args.first c.args.last (listing c.args.bench.now.kept.source) there.0 in
    rw (← same) (Puts-gained c.accept.result _ _ _ [] _ _ ok_line (rw c.new-text.ensures at c.in_ok-add_lines.ensures) c.accept.ensures)

pub returns-in_err-add_lines : goal.returns-in_err-add_lines
returns-in_err-add_lines g c =
    let there = lines-there c.args.first c.args.last (length c.args.bench.now.kept.source.lines) c.requires in
    let same = lines-by-places c.args.first c.args.last (listing c.args.bench.now.kept.source) there.0 in
    puts-failed c.from_residual.result _ _ _ c.from_residual.ensures.0 (gains-cut _ _ [] (lines_told c.args.first c.args.last c.args.bench.now.kept) ok_line (rw (c.new-text.ensures, same) at c.in_err-add_lines.ensures))
