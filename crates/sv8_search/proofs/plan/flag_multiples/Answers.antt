use Rattle.std.proofs.Common.{◌≡◌, ◌∙◌, ◌+◌, ◌%◌, ◌<◌, ◌==◌, ℕ, Bool, true, false, nat_lt, List, ap, sym, subst, arith}
use Rattle.std.specs.Prelude.{◌&&◌}
use Rattle.std.proofs.Math.Nat.{mod-lt}
use Rattle.std.proofs.lemmas.Bool.Decides.{nat_tests}
use Rattle.sv8_notes.specs.Flags.{IsFlagged}
use Rattle.sv8_notes.proofs.Common.{below, flag_more, flag_pass}
use Rattle.sv8_search.proofs.Planning.{left_none, left_more}
use Rattle.sv8_search.proofs.plan.flag_multiples.Goals as goal
use Rattle.sv8_search.proofs.plan.flag_multiples.Goals.{then-past-eq0, else-past-eq0, then-past-number, else-past-number}

pub loop-place-preserved : goal.loop-place-preserved
loop-place-preserved c =
    let m = c.args.number in
    let from = c.args.from in
    let p = c.loop-place.place in
    let xs = c.args.flags.now in
    let ys = c.loop-place.flags in
    let inv = c.loop-place.invariant in
    let past = inv.past in
    let small = mod-lt (from + p) inv.some in
    let positive : nat_lt 0 m ≡ true = grind (arith, nat_tests, inv.some) in
    let test : ℕ → Bool = λ i. nat_lt 0 m && (from + i) % m == 0 in
    let there : from + p + 1 ≡ from + (p + 1) = omega arith in
    record {
      some = inv.some;
      past = elim c.if-past-number.branch [
        | then-past-number w ↦ w.past-is ∙ sym (ap (λ n. n % m) (sym there) ∙ left_none (from + p) m (omega (arith, past, w.if-past-number.true)))
        | else-past-number w ↦
            let less : (from + p) % m + 1 < m = omega (arith, past, small, w.if-past-number.false) in
            w.past-is ∙ ap (λ n. n + 1) past ∙ sym (ap (λ n. n % m) (sym there) ∙ left_more (from + p) m less)
      ];
      flags = elim c.if-past-eq0.branch [
        | then-past-eq0 w ↦
            let whole : ((from + p) % m == 0) ≡ true = grind (arith, nat_tests, past, w.if-past-eq0.true) in
            let here : test p ≡ true = ap (λ b. b && (from + p) % m == 0) positive ∙ whole in
            subst (λ (zs : List Bool). IsFlagged (below test (p + 1)) xs zs) (sym w.flags-is) (flag_more xs ys test p c.loop-place-test.true inv.flags here)
        | else-past-eq0 w ↦
            let rest : ((from + p) % m == 0) ≡ false = grind (arith, nat_tests, past, w.if-past-eq0.false) in
            let here : test p ≡ false = ap (λ b. b && (from + p) % m == 0) positive ∙ rest in
            subst (λ (zs : List Bool). IsFlagged (below test (p + 1)) xs zs) (sym w.flags-is) (flag_pass xs ys test p c.loop-place-test.true inv.flags here)
      ];
    }
