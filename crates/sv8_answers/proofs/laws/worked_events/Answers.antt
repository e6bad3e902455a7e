use Rattle.std.proofs.Common.{refl}
use Rattle.std.specs.Fmt.{digits}
use Rattle.sv8_commands.specs.Words.{words_of, number_of_word, first_number, hex_of_word, first_hex, bytes_of_word, first_bytes}
use Rattle.sv8_commands.specs.Operands.{alone, one_number, two_numbers, number_address, number_address_value, number_bytes}
use Rattle.sv8_commands.specs.Commands.{poke_of, timeline_of, edit_of, query_of, asking_of, command_of}
use Rattle.sv8_commands.specs.Text.{ok_line, refusal_line}
use Rattle.sv8_answers.specs.Outcome.{due}
use Rattle.sv8_session.specs.Script.{kept_with, all_lines, text_of, step_of_line, step_of_taking, step_of_more, orders_of}
use Rattle.sv8_session.specs.Session.{none, more}
use Rattle.sv8_answers.specs.Session.{outcome}
use Rattle.sv8_answers.proofs.laws.worked_events.Goals as goal

pub returns-clause-orders : goal.returns-clause-orders
unfolding kept_with all_lines text_of step_of_line step_of_taking step_of_more orders_of words_of number_of_word first_number hex_of_word first_hex bytes_of_word first_bytes alone one_number two_numbers number_address number_address_value number_bytes poke_of timeline_of edit_of query_of asking_of command_of
returns-clause-orders c = refl

pub returns-clause-answers : goal.returns-clause-answers
unfolding outcome ok_line refusal_line digits
returns-clause-answers c = more due (more due (more due (more due (more due (more due (more due (more due (more due (more due (more due none))))))))))
