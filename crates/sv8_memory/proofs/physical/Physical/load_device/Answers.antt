use Rattle.std.proofs.Common.{refl, sym, rules}
use Rattle.sv8_memory.proofs.Accesses.{taken_byte, counted_bytes}
use Rattle.sv8_memory.proofs.physical.Physical.load_device.Goals as goal

pub returns-in_ok-observe-clause-ok : goal.returns-in_ok-observe-clause-ok
returns-in_ok-observe-clause-ok g c =
    let told = c.in_ok-byte.ensures.ok in
    let byte = rw c.end_step.ensures at told in
    taken_byte _ _ _ _ _ _ _ _ _ _ _ _ _ _ (sym c.if-takes_byte.ensures) byte (search rules) (rw c.in_ok-byte.ensures.others refl)

pub returns-in_ok-observe-2-clause-ok : goal.returns-in_ok-observe-2-clause-ok
returns-in_ok-observe-2-clause-ok g c =
    let told = c.in_ok-count.ensures.ok in
    let count = rw c.end_step-then-counts_bytes.ensures at told in
    counted_bytes _ _ _ _ _ _ _ _ _ _ _ _ _ _ (sym c.if-takes_byte.ensures) (sym c.if-counts_bytes.ensures) count (search rules) refl
