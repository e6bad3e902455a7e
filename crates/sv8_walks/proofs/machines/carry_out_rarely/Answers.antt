use Rattle.std.proofs.Common.{sym, ◌∙◌}
use Rattle.sv8_walks.proofs.Ordinary.{trap_carried_out}
use Rattle.sv8_walks.proofs.machines.carry_out_rarely.Goals as goal

pub returns-in_ok-count_down_both-in-Some-clause-own : goal.returns-in_ok-count_down_both-in-Some-clause-own
returns-in_ok-count_down_both-in-Some-clause-own g c =
    trap_carried_out _ _ _ _ _ _ _ c.decode_memory-instr.result c.in-Some.trap c.decode_memory-instr.ensures.value (sym c.raised_by.ensures ∙ c.in-Some.is) c.take_trap.ensures c.in_ok-count_down_both-in-Some.ensures.own

pub returns-in_ok-count_down_both-in-Some-clause-others : goal.returns-in_ok-count_down_both-in-Some-clause-others
returns-in_ok-count_down_both-in-Some-clause-others g c =
    trap_carried_out _ _ _ _ _ _ _ c.decode_memory-instr.result c.in-Some.trap c.decode_memory-instr.ensures.value (sym c.raised_by.ensures ∙ c.in-Some.is) c.take_trap.ensures c.in_ok-count_down_both-in-Some.ensures.others
