-- A translation that succeeds leads to the place of the address.
use Rattle.std.proofs.Common.{◌≡◌, ◌==◌, ℕ, ◌/◌, Bool, true, false, cond, Option, Some, None, option_map, refl, ap, ◌∙◌}
use Rattle.sv8_model.specs.Outside.{Outside}
use Rattle.sv8_model.specs.Action.{Action, done, store_word, ◌>>=◌, result_of, after, touches, observations}
use Rattle.sv8_model.specs.Does.{Does, Notes, keeping, noting, no_notes}
use Rattle.sv8_model.proofs.Common.{does_then}
use Rattle.sv8_mmu.specs.declared.access_type.AccessType.{AccessType}
use Rattle.sv8_mmu.specs.declared.fault_type.FaultType.{FaultType}
use Rattle.sv8_mmu.specs.declared.fault_type.FaultType.TheVariants as of
use Rattle.sv8_mmu.specs.declared.registers.Mmu.{Mmu}
use Rattle.sv8_mmu.specs.declared.table_level.TableLevel.{TableLevel}
use Rattle.sv8_mmu.specs.declared.table_level.TableLevel.TheVariants.{Context}
use Rattle.sv8_mmu.specs.declared.translation.Reach.{Reach}
use Rattle.sv8_mmu.specs.declared.translation.Translated.{Translated}
use Rattle.sv8_mmu.specs.declared.translation.Translated.TheVariants.{At, Refused}
use Rattle.sv8_mmu.specs.declared.walk.Walked.{Walked}
use Rattle.sv8_mmu.specs.declared.walk.Walked.TheVariants.{Page, Fault}
use Rattle.sv8_mmu.specs.Registers.{translates}
use Rattle.sv8_mmu.specs.Translation.{physical_address, fault_type, marked, is_served, reached, unless_refused, settled, translate}
use Rattle.sv8_mmu.specs.Walk.{walk}
use Rattle.sv8_mmu.specs.Place.{only_ram, placed, untranslated, place_of}
use Rattle.sv8_part_laws.specs.PlaceLaws.{TranslationsLeadToPlaces}
use Rattle.sv8_mmu.proofs.Walks.{same_loads, walk_loads}

-- the address that an answer tells
told : (p q : ℕ) → At p ≡ At q → Some p ≡ Some q
told p q h = cc

module _ (o : Outside) (pa : ℕ) where
  -- with marks or without them, the answer is the same
  marks_lead : (b : Bool) (k v p : ℕ) → result_of (cond b (done (At p)) (store_word k v (done (At p)))) o ≡ At pa → Some p ≡ Some pa
  marks_lead true k v p h = told p pa h
  marks_lead false k v p h = told p pa h

  reached_leads : (b c : Bool) (k v p : ℕ) → result_of (cond b (cond c (done (At p)) (store_word k v (done (At p)))) (done (Refused of.AccessBus Context))) o ≡ At pa → Some p ≡ Some pa
  reached_leads true c k v p h = marks_lead c k v p h
  reached_leads false c k v p h = cc

  unrefused_leads : (f : Option FaultType) (level : TableLevel) (allowed : Action Translated) (p : ℕ) → (result_of allowed o ≡ At pa → Some p ≡ Some pa)
      → result_of (unless_refused f level allowed) o ≡ At pa → Some p ≡ Some pa
  unrefused_leads None level allowed p g h = g h
  unrefused_leads (Some kind) level allowed p g h = cc

  -- what the end of a walk leads to
  settled_leads : (limit va : ℕ) (t : AccessType) (reach : Reach) (w : Walked) → result_of (settled limit va t reach w) o ≡ At pa → option_map (λ p. p.pa) (placed va w) ≡ Some pa
  unfolding settled
  settled_leads limit va t reach (Fault kind level) h = cc
  settled_leads limit va t reach (Page e level at) h =
      let p = physical_address e level va in
      unrefused_leads (fault_type t e) level (reached limit t reach p e at) p (reached_leads (is_served limit reach p) (marked t e == e) (at / 4) (marked t e) p) h

-- an action does what it does
exactly : {R : Type 0} (a : Action R) (o : Outside) (ns : Notes) → Does (keeping false false) a o (after a o) (result_of a o) ns (noting (keeping false false) ns (touches a o) (observations a o))
exactly a o ns = record { result = refl; outside = refl; noted = refl }

-- the result of one action and then another
result_then : {A B : Type 0} (a : Action A) (f : A → Action B) (o : Outside) → result_of (f (result_of a o)) (after a o) ≡ result_of (a >>= f) o
result_then a f o = (does_then (keeping false false) a f o _ _ _ _ no_notes _ _ (exactly a o no_notes) (exactly (f (result_of a o)) (after a o) _)).result

-- a walk goes by RAM alone
walk_by_ram : (limit table_pointer context va : ℕ) (o : Outside) → result_of (walk limit table_pointer context va) (only_ram o.ram) ≡ result_of (walk limit table_pointer context va) o
walk_by_ram limit table_pointer context va o =
    (same_loads (walk limit table_pointer context va) o (only_ram o.ram) (walk_loads limit table_pointer context va) (λ k m. refl)).0

module _ (limit : ℕ) (r : Mmu) (va : ℕ) (t : AccessType) (reach : Reach) (o : Outside) (pa : ℕ) where
  abbrev by_tables : Action Walked
  by_tables = walk limit r.table_pointer r.context va

  tables_lead : result_of (by_tables >>= settled limit va t reach) o ≡ At pa → option_map (λ p. p.pa) (placed va (result_of by_tables (only_ram o.ram))) ≡ Some pa
  tables_lead h =
      ap (λ w. option_map (λ p. p.pa) (placed va w)) (walk_by_ram limit r.table_pointer r.context va o)
      ∙ settled_leads (after by_tables o) pa limit va t reach (result_of by_tables o) (result_then by_tables (settled limit va t reach) o ∙ h)

  leads : (b : Bool) → result_of (cond b (by_tables >>= settled limit va t reach) (done (At va))) o ≡ At pa
      → option_map (λ p. p.pa) (cond b (placed va (result_of by_tables (only_ram o.ram))) (Some (untranslated va))) ≡ Some pa
  leads true h = tables_lead h
  leads false h = told va pa h

pub translations_lead_to_places : TranslationsLeadToPlaces
unfolding translate place_of
translations_lead_to_places limit r va t reach o pa h = leads limit r va t reach o pa (translates r) h
