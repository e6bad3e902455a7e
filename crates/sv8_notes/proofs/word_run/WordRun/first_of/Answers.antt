use Rattle.std.proofs.Common.{◌-◌, ◌/◌, arith}
use Rattle.sv8_notes.proofs.RunsOfWords.{none_from, first_at}
use Rattle.sv8_notes.proofs.word_run.WordRun.first_of.Goals as goal
use Rattle.sv8_notes.proofs.word_run.WordRun.first_of.Goals.{then-address-self-via-then-address-self, then-address-self-via-else-address-self+then-address-self-ne0}

pub returns-then-address-self : goal.returns-then-address-self
returns-then-address-self c = λ n from below. elim c.then-address-self.branch [
  | then-address-self-via-then-address-self w ↦ none_from c.args.self.now.address c.args.self.now.first c.args.self.now.count c.args.address n (λ k k_in e. omega (arith, e, w.if-address-self))
  | then-address-self-via-else-address-self+then-address-self-ne0 w ↦ none_from c.args.self.now.address c.args.self.now.first c.args.self.now.count c.args.address n (λ k k_in e.
      w.if-address-self-ne0.true (omega (arith, e)))
]

pub returns-then-place-self : goal.returns-then-place-self
returns-then-place-self c = λ n from below.
    none_from c.args.self.now.address c.args.self.now.first c.args.self.now.count c.args.address n (λ k k_in e. omega (arith, e, k_in, c.if-place-self.true))

pub returns : goal.returns
returns c =
    first_at c.args.self.now.address c.args.self.now.first c.args.self.now.count c.args.address ((c.args.address - c.args.self.now.address) / 4) c.args.from c.args.end c.within.result
    c.if-place-self.false (omega (arith, c.if-address-self.false, c.if-address-self-ne0.false)) c.within.ensures
