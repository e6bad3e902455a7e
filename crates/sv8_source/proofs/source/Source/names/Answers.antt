use Rattle.std.proofs.Common.{sym, subst}
use Rattle.sv8_source.specs.Names.{HasNoTies, defined_names}
use Rattle.sv8_source.proofs.NoTies.{source_has_no_ties}
use Rattle.sv8_source.proofs.source.Source.names.Goals as goal

pub names_in_order-requires : goal.names_in_order-requires
names_in_order-requires c = subst (λ ps. HasNoTies (defined_names ps)) (sym c.places.ensures.value) (source_has_no_ties _ c.self.inside.parts c.self.invariant.0)
