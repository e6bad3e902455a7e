use Rattle.std.proofs.Common.{rules}
use Rattle.std.proofs.lemmas.List.Sorted.{answers_always}
use Rattle.sv8_source.proofs.SortedNames.{sorted_names}
use Rattle.sv8_source.proofs.names.sort.Goals as goal

pub returns : goal.returns
returns c =
    sorted_names _ _ c.requires c.sort_unstable_by_key.ensures.permutation
    (c.sort_unstable_by_key.ensures.sorted (λ d. (d.value, d.text)) (answers_always _ _ _ (λ f a r g h. search rules)))
