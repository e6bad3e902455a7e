use Rattle.sv8_source.specs.Text.{texts, place_texts, replaced_lines}
use Rattle.sv8_source.proofs.Passes.{made_texts, few}
use Rattle.sv8_source.proofs.edited.edit.Goals as goal

pub returns-in-Some-clause-kept : goal.returns-in-Some-clause-kept
returns-in-Some-clause-kept c = made_texts (record { limit = c.args.limit; lines = replaced_lines c.args.first c.args.last (texts c.args.lines.now) (place_texts c.args.old.now.layout.places) }) c.in-Some.edited.parts c.in-Some.ensures.made

pub returns-in-Some-clause-count : goal.returns-in-Some-clause-count
returns-in-Some-clause-count c = few c.args.first c.args.last c.args.limit c.args.lines.now c.args.old.now.layout.places c.in-Some.edited.parts c.in-Some.ensures.made c.requires.range c.requires.room

pub returns-in-Ok-clause-kept : goal.returns-in-Ok-clause-kept
returns-in-Ok-clause-kept c = made_texts (record { limit = c.args.limit; lines = replaced_lines c.args.first c.args.last (texts c.args.lines.now) (place_texts c.args.old.now.layout.places) }) c.in-Ok.edited.parts c.in-Ok.ensures.made

pub returns-in-Ok-clause-count : goal.returns-in-Ok-clause-count
returns-in-Ok-clause-count c = few c.args.first c.args.last c.args.limit c.args.lines.now c.args.old.now.layout.places c.in-Ok.edited.parts c.in-Ok.ensures.made c.requires.range c.requires.room
