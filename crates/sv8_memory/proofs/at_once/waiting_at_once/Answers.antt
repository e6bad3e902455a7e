use Rattle.std.proofs.Common.{sym, ◌∙◌}
use Rattle.sv8_memory.specs.Feeding.{bytes_fed}
use Rattle.sv8_memory.specs.View.{timed_units}
use Rattle.sv8_phys.specs.Contents.{outside_of}
use Rattle.sv8_memory.proofs.Known.{counts}
use Rattle.sv8_memory.proofs.at_once.waiting_at_once.Goals as goal

pub returns : goal.returns
returns g c = λ asi timer space.
    let told = c.in_ok-count.ensures.ok in
    let count = rw c.end_step.ensures at told in
    rw c.from-2.ensures
    (counts _ (timed_units c.args.physical.now timer) (outside_of c.args.physical.now.phys (bytes_fed c.args.feed)) c.args.size asi c.args.at _ space (sym c.if-translates.ensures)
    (rw (← c.from.ensures) (sym c.counts_bytes.ensures ∙ c.if-not-counts_bytes.false)) count)
