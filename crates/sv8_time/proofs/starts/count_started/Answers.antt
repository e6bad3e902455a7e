use Rattle.std.proofs.Common.{rules, of_calls, nat_le}
use Rattle.std.proofs.lemmas.Fn.{always_returns_same}
use Rattle.sv8_time.proofs.Parts.{prefix_from_point, parted_places}
use Rattle.sv8_time.proofs.InputPlaces.{starts_parted}
use Rattle.sv8_time.proofs.starts.count_started.Goals as goal

pub returns-clause-value : goal.returns-clause-value
returns-clause-value c =
    let starts = c.args.starts.now in
    let point = c.partition_point.ensures.partitioned (λ s. nat_le s c.args.byte) (always_returns_same _ _ _ (λ a r f h. search (rules, of_calls)))
    (parted_places (λ s. nat_le s c.args.byte) starts (starts_parted c.args.byte starts c.requires)) in
    prefix_from_point (λ s. nat_le s c.args.byte) starts c.partition_point.result c.partition_point.ensures.bound point
