-- What an answer unfolds to compute what a written line is read as, its size and its bytes, and the fault or the listing of
-- written lines.
use Rattle.std.specs.Prelude.{⊤}
use Rattle.sv8_tokens.specs.Percents.{percents}
use Rattle.sv8_forms.specs.Mnemonics.{operations, transfers, synthetics, other_shape, shape_named}
use Rattle.sv8_tokens.specs.Lexing.{number_from, numeral_of, mark_of, quote_at, label_of, label_or_number, digits_front, run_front, word_front, quoted_front, percent_front, token_front, next_of, tokens_within, tokens_of}
use Rattle.sv8_forms.specs.Escapes.{escape_of, resolved}
use Rattle.sv8_forms.specs.Taking.{register_in, source_in, imm_in, expr_in, number_of, number_in, is_short, count_in, fields_of, place_in, is_bracketed, bracketed_in, starts_with_register, alternate_in, is_state, state_in, upper_in, is_trap, trap_in, text_in, name_of, name_in, is_signed, signed_in, exprs_in}
use Rattle.sv8_forms.specs.Forms.{with_source, with_place, with_bracketed, none_of, called, call_of, cleared, clear_of, branch_of, trap_of, unimp_of, test_of, not_of, negate_of, step_by_one, one_of, access, alternate_access, from_state, to_state, moved, mov_of, compared, sethi_of, jmpl_of, call_with_number, step_of, update_of, two_of, three_fields, shift_of, write_of, three_of, instruction_of, set_of, motion_of, data_of, ascii_of, equ_of, directive_of, directive_in, form_of, annulled}
use Rattle.sv8_tokens.specs.Reading.{expr_front, parenthesized_front, imm_front, source_front, behind_immediate, address_front, closed, bracketed_operand, high_operand, plain_operand, marked_operand, operand_of}
use Rattle.sv8_syntax.specs.Reading.{operands_of, parts, parts_of, shaped, behind_annul, flagged, statement_of, label_front, line_of, reading}
use Rattle.sv8_isa.specs.Encoding.{unsigned_bits, signed_bits, alternate_source, format_call, format_2, format_3, encoding}
use Rattle.sv8_model.specs.Words.{signed}
use Rattle.sv8_statements.specs.Faults.{least}
use Rattle.sv8_asm.specs.Names.{last_of, first_behind, get}
use Rattle.sv8_asm.specs.Code.{data_bytes, bytes}
use Rattle.sv8_asm.specs.Size.{size}
use Rattle.sv8_source.specs.Layout.{admitted, with_stmt, with_line}
use Rattle.sv8_source.specs.Text.{assembled}
use Rattle.sv8_source.specs.Listing.{listing}

unfoldable pub reading_on_literals : ⊤
unfolding percents operations transfers synthetics other_shape shape_named number_from numeral_of mark_of quote_at label_of label_or_number digits_front run_front word_front quoted_front percent_front token_front next_of tokens_within tokens_of escape_of resolved register_in source_in imm_in expr_in number_of number_in is_short count_in fields_of place_in is_bracketed bracketed_in starts_with_register alternate_in is_state state_in upper_in is_trap trap_in text_in name_of name_in is_signed signed_in exprs_in with_source with_place with_bracketed none_of called call_of cleared clear_of branch_of trap_of unimp_of test_of not_of negate_of step_by_one one_of access alternate_access from_state to_state moved mov_of compared sethi_of jmpl_of call_with_number step_of update_of two_of three_fields shift_of write_of three_of instruction_of set_of motion_of data_of ascii_of equ_of directive_of directive_in form_of annulled expr_front parenthesized_front imm_front source_front behind_immediate address_front closed bracketed_operand high_operand plain_operand marked_operand operand_of operands_of parts parts_of shaped behind_annul flagged statement_of label_front line_of reading
reading_on_literals = tt

unfoldable pub line_on_literals : ⊤
unfolding reading_on_literals unsigned_bits signed_bits alternate_source format_call format_2 format_3 encoding signed least last_of first_behind get data_bytes bytes size
line_on_literals = tt

unfoldable pub source_on_literals : ⊤
unfolding line_on_literals admitted with_stmt with_line assembled listing
source_on_literals = tt
