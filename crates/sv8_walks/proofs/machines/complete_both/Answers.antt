use Rattle.std.proofs.Common.{refl}
use Rattle.sv8_walks.proofs.Ordinary.{loads, stores}
use Rattle.sv8_walks.proofs.machines.complete_both.Goals as goal

pub returns-in_ok-count_down_both-in-Load-clause-own : goal.returns-in_ok-count_down_both-in-Load-clause-own
returns-in_ok-count_down_both-in-Load-clause-own g c = λ word is.
    let told = c.in_ok-value-in-Load.ensures.own in
    let loaded = rw c.in-Some.is at told in
    loads _ _ _ _ _ _ c.args.instr c.in-Some.value is c.requires.no_trap c.complete.ensures _ _ _ _ c.in-Load.ensures.value loaded c.in_ok-count_down_both-in-Load.ensures.own

pub returns-in_ok-count_down_both-in-Load-clause-others : goal.returns-in_ok-count_down_both-in-Load-clause-others
returns-in_ok-count_down_both-in-Load-clause-others g c = λ word is.
    let told = c.in_ok-value-in-Load.ensures.others in
    let loaded = rw c.in-Some.is at told in
    loads _ _ _ _ _ _ c.args.instr c.in-Some.value is c.requires.no_trap c.complete.ensures _ _ _ _ c.in-Load.ensures.value loaded c.in_ok-count_down_both-in-Load.ensures.others

pub returns-else-not-stored-clause-own : goal.returns-else-not-stored-clause-own
returns-else-not-stored-clause-own g c = λ word is.
    let told = c.in_ok-stored-in-Store.ensures.own in
    let stored = rw c.if-not-stored.false at told in
    stores _ _ _ _ _ _ c.args.instr 0 is c.requires.no_trap c.complete-in-Store.ensures _ _ _ _ _ c.in-Store.ensures.value refl stored

pub returns-else-not-stored-clause-others : goal.returns-else-not-stored-clause-others
returns-else-not-stored-clause-others g c = λ word is.
    let told = c.in_ok-stored-in-Store.ensures.others in
    let stored = rw c.if-not-stored.false at told in
    stores _ _ _ _ _ _ c.args.instr 0 is c.requires.no_trap c.complete-in-Store.ensures _ _ _ _ _ c.in-Store.ensures.value refl stored
