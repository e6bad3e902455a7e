-- An entry that is stored with other marks.
use Rattle.std.proofs.Common.{◌≡◌, ℕ, ◌/◌, refl, ap}
use Rattle.sv8_model.specs.Outside.{Outside, with_word}
use Rattle.sv8_model.specs.Action.{done, store_word}
use Rattle.sv8_model.specs.Does.{Does, Noting}

module _ {A : Type 0} (way : Noting) (o o1 : Outside) (ns ns1 : way.Taken) (at v : ℕ) (x : A) (d : Does way (store_word (at / 4) v (done x)) o o1 x ns ns1) where
  -- what a store leads to is of no matter to the store
  pub entry_stored : {B : Type 0} (y : B) → Does way (store_word (at / 4) v (done y)) o o1 y ns ns1
  entry_stored y = record { result = refl; outside = d.outside; noted = d.noted }

  -- RAM as the store leaves it
  pub ram_stored : o1.ram ≡ with_word o.ram (at / 4) v
  ram_stored = ap (λ p. p.ram) d.outside
