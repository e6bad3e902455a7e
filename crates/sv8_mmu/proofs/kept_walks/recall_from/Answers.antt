use Rattle.std.proofs.Common.{◌∙◌, subst, Contains}
use Rattle.lru.proofs.CallerLemmas.{Contains-promoted}
use Rattle.sv8_mmu.specs.contracts.buffer.KeyPartialEq as key
use Rattle.sv8_mmu.proofs.Keeping.{recalled}
use Rattle.sv8_mmu.proofs.kept_walks.recall_from.Goals as goal

pub returns-clause-found : goal.returns-clause-found
returns-clause-found c = recalled c.args.key c.args.walks.now.entries c.copied.result (c.copied.ensures ∙ c.get.ensures.value)

pub returns-clause-among : goal.returns-clause-among
returns-clause-among c = λ e m. Contains-promoted (key.TheImpl.eq-value.it c.args.key) c.args.walks.now.entries e (subst (λ z. Contains z.entries e) c.get.follows.holds-at-none m)
