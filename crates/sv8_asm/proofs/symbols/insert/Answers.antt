use Rattle.std.proofs.Common.{rules, subst, ◌∷◌, [], ◌++◌, ℤ, w64, to_z, of_z}
use Rattle.std.proofs.lemmas.Int.{to_z-of_z}
use Rattle.sv8_asm.specs.Index.{Answers}
use Rattle.sv8_asm.proofs.Keys.{answers_push}
use Rattle.sv8_asm.proofs.symbols.insert.Goals as goal

pub returns-clause-ok : goal.returns-clause-ok
returns-clause-ok c = λ xs old absent. subst (λ (v : ℤ). Answers c.insert.new.self (xs ++ (c.args.name.items, v) ∷ [])) (to_z-of_z w64 c.args.value (search rules))
    (answers_push c.args.name.items (to_z w64 (of_z w64 c.args.value)) c.args.index.now c.insert.new.self xs c.in_ok-insert.ensures.updates old absent)
