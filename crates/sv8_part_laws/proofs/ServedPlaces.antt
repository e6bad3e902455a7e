-- An access at a physical address is answered exactly where the address is served.
use Rattle.std.proofs.Common.{◌≡◌, ℕ, Bool, true, false, nat_lt, ◌==◌, refl, sym}
use Rattle.std.specs.Prelude.{◌||◌}
use Rattle.sv8_model.specs.Outside.{Outside}
use Rattle.sv8_model.specs.Action.{result_of, ◌>>=◌}
use Rattle.sv8_model.specs.declared.size.Size.{Size}
use Rattle.sv8_model.specs.declared.size.Size.TheVariants.{Byte, Half, Word, Double}
use Rattle.sv8_model.specs.Devices.{input_address, waiting_address, output_address, count_address, reload_address, pending_address}
use Rattle.sv8_phys.specs.Devices.{device_load, device_store}
use Rattle.sv8_mmu.specs.declared.translation.Reach.TheVariants.{Ram}
use Rattle.sv8_mmu.specs.Translation.{is_served}
use Rattle.sv8_memory.specs.Units.{Units, is_hidden, failed}
use Rattle.sv8_memory.specs.Access.{reach_of, loaded_from, plainly_loaded, stored_at, exchanged_at, fetched_from}
use Rattle.sv8_part_laws.specs.DeviceLaws.{is_answered, DevicesAreServed}

one_behind : (a b x : Bool) → x ≡ true → (a || (b || x)) ≡ true
one_behind true b x h = refl
one_behind false true x h = refl
one_behind false false x h = h

module _ (limit : ℕ) (u : Units) (asi va pa value : ℕ) (o : Outside) (shown : is_hidden u.mmu asi ≡ false) where
  word_loads : (l a b c d e f : Bool) → nat_lt pa limit ≡ l → (pa == input_address) ≡ a → (pa == waiting_address) ≡ b → (pa == output_address) ≡ c → (pa == count_address) ≡ d → (pa == reload_address) ≡ e
      → (pa == pending_address) ≡ f → is_answered (result_of (loaded_from limit u Word asi va pa) o).response ≡ is_served limit (reach_of Word) pa
  unfolding loaded_from plainly_loaded device_load failed ◌>>=◌
  word_loads true true b c d e f hl ha hb hc hd he hf = rw (hl, ha) refl
  word_loads false true b c d e f hl ha hb hc hd he hf = rw (hl, ha) refl
  word_loads true false true c d e f hl ha hb hc hd he hf = rw (hl, ha, hb) refl
  word_loads false false true c d e f hl ha hb hc hd he hf = rw (hl, ha, hb) refl
  word_loads true false false c d e f hl ha hb hc hd he hf = rw (hl, ha, hb) refl
  word_loads false false false true d e f hl ha hb hc hd he hf = rw (hl, ha, hb, hc) refl
  word_loads false false false false true e f hl ha hb hc hd he hf = rw (hl, ha, hb, hc, hd) refl
  word_loads false false false false false true f hl ha hb hc hd he hf = rw (hl, ha, hb, hc, hd, he) refl
  word_loads false false false false false false true hl ha hb hc hd he hf = rw (hl, ha, hb, hc, hd, he, hf) refl
  word_loads false false false false false false false hl ha hb hc hd he hf = rw (hl, ha, hb, hc, hd, he, hf, shown) refl

  word_stores : (l a b c d e f : Bool) → nat_lt pa limit ≡ l → (pa == input_address) ≡ a → (pa == waiting_address) ≡ b → (pa == output_address) ≡ c → (pa == count_address) ≡ d → (pa == reload_address) ≡ e
      → (pa == pending_address) ≡ f → is_answered (result_of (stored_at limit u Word asi value va pa) o).response ≡ is_served limit (reach_of Word) pa
  unfolding stored_at device_store failed ◌>>=◌
  word_stores true a b c d e f hl ha hb hc hd he hf = rw hl refl
  word_stores false a b true d e f hl ha hb hc hd he hf = rw (hl, ha, hb, hc) (sym (one_behind a b _ refl))
  word_stores false a b false true e f hl ha hb hc hd he hf = rw (hl, ha, hb, hc, hd) (sym (one_behind a b _ refl))
  word_stores false a b false false true f hl ha hb hc hd he hf = rw (hl, ha, hb, hc, hd, he) (sym (one_behind a b _ refl))
  word_stores false a b false false false true hl ha hb hc hd he hf = rw (hl, ha, hb, hc, hd, he, hf) (sym (one_behind a b _ refl))
  word_stores false true b false false false false hl ha hb hc hd he hf = rw (hl, ha, hc, hd, he, hf) refl
  word_stores false false true false false false false hl ha hb hc hd he hf = rw (hl, ha, hb, hc, hd, he, hf) refl
  word_stores false false false false false false false hl ha hb hc hd he hf = rw (hl, ha, hb, hc, hd, he, hf, shown) refl

  -- RAM serves the other sizes alone
  loads : (size : Size) → (l : Bool) → nat_lt pa limit ≡ l → is_answered (result_of (loaded_from limit u size asi va pa) o).response ≡ is_served limit (reach_of size) pa
  unfolding loaded_from plainly_loaded failed ◌>>=◌
  loads Byte true h = rw h refl
  loads Byte false h = rw (h, shown) refl
  loads Half true h = rw h refl
  loads Half false h = rw (h, shown) refl
  loads Word l h = word_loads _ _ _ _ _ _ _ refl refl refl refl refl refl refl
  loads Double true h = rw h refl
  loads Double false h = rw (h, shown) refl

  stores : (size : Size) → (l : Bool) → nat_lt pa limit ≡ l → is_answered (result_of (stored_at limit u size asi value va pa) o).response ≡ is_served limit (reach_of size) pa
  unfolding stored_at failed ◌>>=◌
  stores Byte true h = rw h refl
  stores Byte false h = rw (h, shown) refl
  stores Half true h = rw h refl
  stores Half false h = rw (h, shown) refl
  stores Word l h = word_stores _ _ _ _ _ _ _ refl refl refl refl refl refl refl
  stores Double true h = rw h refl
  stores Double false h = rw (h, shown) refl

  exchanges : (size : Size) → (l : Bool) → nat_lt pa limit ≡ l → is_answered (result_of (exchanged_at limit u size asi value va pa) o).response ≡ is_served limit Ram pa
  unfolding exchanged_at failed ◌>>=◌
  exchanges Byte true h = rw h refl
  exchanges Half true h = rw h refl
  exchanges Word true h = rw h refl
  exchanges Double true h = rw h refl
  exchanges size false h = rw (h, shown) refl

  fetches : (l : Bool) → nat_lt pa limit ≡ l → is_answered (result_of (fetched_from limit u asi va pa) o).response ≡ is_served limit Ram pa
  unfolding fetched_from failed ◌>>=◌
  fetches true h = rw h refl
  fetches false h = rw (h, shown) refl

pub devices_are_served : DevicesAreServed
devices_are_served limit u size asi va pa value o shown = record {
  loads = loads limit u asi va pa value o shown size (nat_lt pa limit) refl;
  stores = stores limit u asi va pa value o shown size (nat_lt pa limit) refl;
  exchanges = exchanges limit u asi va pa value o shown size (nat_lt pa limit) refl;
  fetches = fetches limit u asi va pa value o shown (nat_lt pa limit) refl;
}
