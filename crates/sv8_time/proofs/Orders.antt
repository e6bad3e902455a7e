-- The orders of events.
use Rattle.std.proofs.Common.{◌≡◌, arith, ℕ, true, false}
use Rattle.std.specs.Cmp.{IsStrictWeakOrder}
use Rattle.std.proofs.lemmas.Bool.Decides.{nat_tests}
use Rattle.sv8_time.specs.Order.{place_before, comes_before}
use Rattle.sv8_time.specs.Schedule.{input_before}

one_way : (a b c d : ℕ) → place_before a b c d ≡ true → place_before c d a b ≡ false
one_way a b c d h = grind (arith, nat_tests)

chain : (a b c d e f : ℕ) → place_before a b c d ≡ false → place_before c d e f ≡ false → place_before a b e f ≡ false
chain a b c d e f h k = grind (arith, nat_tests)

pub key_order : {X : Type 0} (major minor : X → ℕ) → IsStrictWeakOrder (comes_before major minor)
key_order major minor = record { one_way = λ x y h. one_way (major x) (minor x) (major y) (minor y) h; chain = λ x y z h k. chain (major x) (minor x) (major y) (minor y) (major z) (minor z) h k }

pub input_order : IsStrictWeakOrder input_before
input_order = record { one_way = λ x y h. grind (arith, nat_tests); chain = λ x y z h k. grind (arith, nat_tests) }
