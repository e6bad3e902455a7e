-- A word of RAM that is stored for translation.
use Rattle.std.proofs.Common.{◌≡◌, ℕ, ◌/◌, ◌%◌, ◌^◌, ◌<◌, refl, ◌∙◌, ap, arith}
use Rattle.sv8_model.specs.Outside.{Outside, with_word}
use Rattle.sv8_model.specs.Action.{done, store_word}
use Rattle.sv8_model.specs.Does.{Does, Noting}
use Rattle.sv8_model.specs.declared.size.Size.TheVariants.{Word}
use Rattle.sv8_phys.specs.Devices.{ram_store}

low_word : (v : ℕ) → v < 2 ^ 32 → v % 2 ^ 32 ≡ v
low_word v h = omega arith

-- what a store leads to is of no matter to the store
pub word_stored : {A B : Type 0} (way : Noting) (o o1 : Outside) (ns ns1 : way.Taken) (at v : ℕ) (x : A) (y : B) → v < 2 ^ 32 → Does way (ram_store Word at v x) o o1 x ns ns1
    → Does way (store_word (at / 4) v (done y)) o o1 y ns ns1
word_stored way o o1 ns ns1 at v x y fits d =
    record { result = refl; outside = d.outside ∙ ap (λ w. record o { ram = with_word o.ram (at / 4) w }) (low_word v fits); noted = d.noted }
