-- Accesses to RAM at an address that a translation gives at once.
use Rattle.std.proofs.Common.{◌≡◌, ◌≤◌, ◌==◌, ℕ, Bool, true, false, nat_lt, inl, inr, refl, sym}
use Rattle.std.proofs.lemmas.Bool.{ltb-true, eqb-true, cases_Bool}
use Rattle.sv8_model.specs.Outside.{Outside}
use Rattle.sv8_model.specs.Action.{done, count_waiting, result_of, after, ◌>>=◌}
use Rattle.sv8_model.specs.Does.{DoesUnnoted, keeping, no_notes}
use Rattle.sv8_model.specs.declared.size.Size.{Size}
use Rattle.sv8_model.specs.declared.size.Size.TheVariants.{Byte, Half, Word, Double}
use Rattle.sv8_model.specs.Devices.{input_address, waiting_address, output_address, count_address, reload_address, pending_address}
use Rattle.sv8_phys.specs.Devices.{ram_load, device_store}
use Rattle.sv8_mmu.specs.declared.translation.Reach.TheVariants.{Ram}
use Rattle.sv8_mmu.specs.declared.translation.Translated.TheVariants.{At}
use Rattle.sv8_mmu.specs.Registers.{translates}
use Rattle.sv8_mmu.specs.Translation.{translate, is_device}
use Rattle.sv8_trap.specs.declared.table.Trap.TheVariants.{InstructionAccessException, DataAccessException}
use Rattle.sv8_trap.specs.declared.request.AccessRequest.TheVariants.{Fetch, Load, Store}
use Rattle.sv8_trap.specs.declared.request.Space.TheVariants.{Virtual}
use Rattle.sv8_trap.specs.Requests.{space_of}
use Rattle.sv8_memory.specs.Units.{Units, served}
use Rattle.sv8_memory.specs.Access.{access, instruction_space, load_type, store_type, reach_of, fetched_from, takes_byte, counts_bytes, loaded_from, stored_at}
use Rattle.sv8_memory.specs.View.{IsTaken}
use Rattle.sv8_memory.proofs.Accesses.{fetched_word, counted_bytes, loaded_from_ram, loaded_word, made_at, made_untranslated}

-- RAM answers a store
ram_stores : (limit : ℕ) (u : Units) (o : Outside) (size : Size) (asi value va pa : ℕ) → nat_lt pa limit ≡ true → result_of (stored_at limit u size asi value va pa) o ≡ served u 0
unfolding stored_at ◌>>=◌
ram_stores limit u o Byte asi value va pa inside = rw inside refl
ram_stores limit u o Half asi value va pa inside = rw inside refl
ram_stores limit u o Word asi value va pa inside = rw inside refl
ram_stores limit u o Double asi value va pa inside = rw inside refl

-- a load that counts the bytes that wait takes none
takes_none : (size : Size) (pa : ℕ) → counts_bytes size pa ≡ true → takes_byte size pa ≡ false
takes_none Byte pa here = refl
takes_none Half pa here = refl
takes_none Word pa here = rw (eqb-true pa waiting_address here) refl
takes_none Double pa here = refl

module _ (limit : ℕ) (u : Units) (o : Outside) (at pa : ℕ) (inside : nat_lt pa limit ≡ true) where
  -- a fetch
  pub fetches : (supervisor : Bool) (word : ℕ) → DoesUnnoted (translate limit u.mmu at (load_type (instruction_space supervisor)) Ram) o o (At pa) → DoesUnnoted (ram_load Word pa) o o word
      → DoesUnnoted (access limit u (Fetch supervisor at)) o o (served u word)
  unfolding access
  fetches supervisor word d loaded =
      let asi = instruction_space supervisor in
      made_at (keeping false false) limit u InstructionAccessException asi (load_type asi) Ram at (λ v. fetched_from limit v asi at) o o (served u word) no_notes no_notes u o (At pa) no_notes
      refl d pa refl (fetched_word (keeping false false) limit u o o no_notes no_notes asi at pa word (served u word) no_notes inside loaded refl refl)

  module _ (size : Size) (asi : ℕ) (space : space_of asi ≡ Virtual) where
    -- a load
    pub loads : (value : ℕ) → limit ≤ 0x1000_0000 → DoesUnnoted (translate limit u.mmu at (load_type asi) (reach_of size)) o o (At pa) → DoesUnnoted (ram_load size pa) o o value
        → DoesUnnoted (access limit u (Load size asi at)) o o (served u value)
    unfolding access
    loads value small d loaded =
        rw space
        (made_at (keeping false false) limit u DataAccessException asi (load_type asi) (reach_of size) at (λ v. loaded_from limit v size asi at) o o (served u value) no_notes no_notes
        u o (At pa) no_notes refl d pa refl
        (loaded_from_ram (keeping false false) limit u o o no_notes no_notes size asi at pa (served u value) (ltb-true pa limit inside) small
        (loaded_word (keeping false false) limit u o no_notes no_notes no_notes size asi at pa value (served u value) (ltb-true pa limit inside) loaded refl refl)))

    -- a store
    pub stores : (value : ℕ) → DoesUnnoted (translate limit u.mmu at (store_type asi) (reach_of size)) o o (At pa)
        → IsTaken u.mmu (result_of (access limit u (Store size asi at value)) o)
    unfolding access
    stores value d =
        rw space
        (let made = made_at (keeping false false) limit u DataAccessException asi (store_type asi) (reach_of size) at (λ v. stored_at limit v size asi value at)
        o (after (stored_at limit u size asi value at pa) o) (served u 0) no_notes no_notes u o (At pa) no_notes refl d pa refl
        (record { result = sym (ram_stores limit u o size asi value at pa inside); outside = refl; noted = refl }) in
        rw (sym made.result) (refl, refl))

-- the bytes that wait are counted
pub counts : (limit : ℕ) (u : Units) (o : Outside) (size : Size) (asi va count : ℕ) → space_of asi ≡ Virtual → translates u.mmu ≡ false → counts_bytes size va ≡ true
    → DoesUnnoted (count_waiting (λ n. done n)) o o count → DoesUnnoted (access limit u (Load size asi va)) o o (served u count)
unfolding access
counts limit u o size asi va count space off here counted =
    rw space (made_untranslated (keeping false false) limit u DataAccessException asi (load_type asi) (reach_of size) va (λ v. loaded_from limit v size asi va) o o (served u count) no_notes no_notes off
    (counted_bytes (keeping false false) limit u o o no_notes no_notes size asi va va count (served u count) no_notes (takes_none size va here) here counted refl refl))

-- a device takes a word
module _ (limit : ℕ) (u : Units) (o : Outside) (asi value va : ℕ) where
  device_stores : (pa : ℕ) → nat_lt pa limit ≡ false → is_device pa ≡ true → IsTaken u.mmu (result_of (stored_at limit u Word asi value va pa) o)
  unfolding stored_at device_store ◌>>=◌
  device_stores pa outside device =
      rw outside (elim (cases_Bool (pa == output_address)) [
        | inl a ↦ rw a (refl, refl)
        | inr a ↦ rw a (elim (cases_Bool (pa == count_address)) [
          | inl b ↦ rw b (refl, refl)
          | inr b ↦ rw b (elim (cases_Bool (pa == reload_address)) [
            | inl c ↦ rw c (refl, refl)
            | inr c ↦ rw c (elim (cases_Bool (pa == pending_address)) [
              | inl d ↦ rw d (refl, refl)
              | inr d ↦ rw d (elim (cases_Bool (pa == input_address)) [
                | inl e ↦ rw e (refl, refl)
                | inr e ↦ rw e (let last = rw (a, b, c, d, e) at device in elim (cases_Bool (pa == waiting_address)) [
                  | inl f ↦ rw f (refl, refl)
                  | inr f ↦ absurd (let none : false ≡ true = rw f at last in cc)
                ])
              ])
            ])
          ])
        ])
      ])

  -- .. at an address that is not translated
  pub stores_to_device : space_of asi ≡ Virtual → translates u.mmu ≡ false → nat_lt va limit ≡ false → is_device va ≡ true
      → IsTaken u.mmu (result_of (access limit u (Store Word asi va value)) o)
  unfolding access
  stores_to_device space off outside device =
      rw space
      (let made = made_untranslated (keeping false false) limit u DataAccessException asi (store_type asi) (reach_of Word) va (λ v. stored_at limit v Word asi value va)
      o (after (stored_at limit u Word asi value va va) o) (result_of (stored_at limit u Word asi value va va) o) no_notes no_notes off
      (record { result = refl; outside = refl; noted = refl }) in
      rw (sym made.result) (device_stores va outside device))
