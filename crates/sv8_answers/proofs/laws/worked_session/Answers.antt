use Rattle.std.proofs.Common.{refl}
use Rattle.std.specs.Fmt.{digits}
use Rattle.sv8_source.specs.Text.{assembled}
use Rattle.sv8_source.specs.Listing.{listing}
use Rattle.sv8_workbench.specs.Faults.{step_refusal}
use Rattle.sv8_commands.specs.Words.{words_of, number_of_word, first_number}
use Rattle.sv8_commands.specs.Operands.{alone, one_number, three_numbers}
use Rattle.sv8_commands.specs.Commands.{poke_of, timeline_of, edit_of, query_of, asking_of, command_of}
use Rattle.sv8_commands.specs.Text.{ok_line, refusal_line}
use Rattle.sv8_answers.specs.Outcome.{due}
use Rattle.sv8_session.specs.Script.{kept_with, all_lines, text_of, step_of_line, step_of_taking, step_of_more, orders_of}
use Rattle.sv8_session.specs.Session.{none, more}
use Rattle.sv8_answers.specs.Session.{outcome}
use Rattle.sv8_answers.proofs.laws.worked_session.Goals as goal

pub returns-clause-orders : goal.returns-clause-orders
unfolding kept_with all_lines text_of step_of_line step_of_taking step_of_more orders_of words_of number_of_word first_number alone one_number three_numbers poke_of timeline_of edit_of query_of asking_of command_of
returns-clause-orders c = refl

pub returns-clause-answers : goal.returns-clause-answers
unfolding outcome step_refusal ok_line refusal_line digits listing assembled
returns-clause-answers c = more due (more due (more due (more due (more due (more due none)))))
