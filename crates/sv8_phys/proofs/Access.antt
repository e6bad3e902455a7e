-- Deeds in RAM and at devices, put together.
use Rattle.std.proofs.Common.{arith, ◌≡◌, ◌<◌, ℕ, ◌%◌, ◌^◌, Bool, false, nat_lt, List, [], ◌∷◌, Ok, Err, ◌==◌, ◌≢◌, inl, inr, ◌-◌, refl, ap, ◌∙◌}
use Rattle.std.proofs.lemmas.Bool.{lt-ltb}
use Rattle.std.proofs.lemmas.Bool.Decides.{eqb_tells}
use Rattle.sv8_model.specs.Outside.{Outside}
use Rattle.sv8_model.specs.declared.touch.Touch.TheVariants.{Levels}
use Rattle.sv8_model.specs.Levels.{asked, cleared, every_level}
use Rattle.sv8_model.specs.Action.{done, ask_levels, clear_levels, expire, ◌>>=◌}
use Rattle.sv8_model.specs.Does.{Does, Noting, noting}
use Rattle.sv8_model.proofs.Common.{does_map, does_done, does_if_true, does_if_false}
use Rattle.sv8_model.specs.declared.size.Size.{Size}
use Rattle.sv8_model.specs.declared.size.Size.TheVariants.{Byte, Half, Word, Double}
use Rattle.sv8_phys.specs.declared.timer.Timer.{Timer}
use Rattle.sv8_phys.specs.Memory.{value_at, with_value}
use Rattle.sv8_model.specs.Devices.{output_address, count_address, reload_address, pending_address}
use Rattle.sv8_phys.specs.Devices.{ram_load, ram_store, load, answered, outside_load, device_load, device_store, no_answer, stored_with, tick}
use Rattle.sv8_phys.specs.Notes.{load_touches, store_touches}

-- ---- RAM

-- a load of what stands in RAM, with its notes
pub ram_loads : (way : Noting) (size : Size) (a : ℕ) (o : Outside) (v : ℕ) (ns ns1 : way.Taken)
    → v ≡ value_at size a o.ram → ns1 ≡ noting way ns (load_touches size a) [] → Does way (ram_load size a) o o v ns ns1
unfolding value_at
ram_loads way Byte a o v ns ns1 e n = record { result = e; outside = refl; noted = n }
ram_loads way Half a o v ns ns1 e n = record { result = e; outside = refl; noted = n }
ram_loads way Word a o v ns ns1 e n = record { result = e; outside = refl; noted = n }
ram_loads way Double a o v ns ns1 e n = record { result = e; outside = refl; noted = n }

-- a store that leaves in RAM what it should, with its notes
pub ram_stores : {R : Type 0} (way : Noting) (size : Size) (a v : ℕ) (x : R) (o o1 : Outside) (ns ns1 : way.Taken)
    → o1 ≡ record o { ram = with_value size a v o.ram } → ns1 ≡ noting way ns (store_touches size a) [] → Does way (ram_store size a v x) o o1 x ns ns1
unfolding with_value
ram_stores way Byte a v x o o1 ns ns1 e n = record { result = refl; outside = e; noted = n }
ram_stores way Half a v x o o1 ns ns1 e n = record { result = refl; outside = e; noted = n }
ram_stores way Word a v x o o1 ns ns1 e n = record { result = refl; outside = e; noted = n }
ram_stores way Double a v x o o1 ns ns1 e n = record { result = refl; outside = e; noted = n }

-- ---- the whole

module _ (way : Noting) (limit : ℕ) (timer : Timer) (size : Size) (a : ℕ) (ns ns1 : way.Taken) where
  pub load_in_ram : (o : Outside) (v : ℕ) → a < limit → Does way (ram_load size a) o o v ns ns1 → Does way (load limit timer size a) o o (Ok v) ns ns1
  load_in_ram o v below h =
      does_if_true way (nat_lt a limit) (ram_load size a >>= answered) (outside_load timer size a) o o (Ok v) ns ns1 (lt-ltb a limit below)
      (does_map way (ram_load size a) (λ w. Ok w) o o v (Ok v) ns ns1 h refl)

-- ---- devices

-- two numbers that differ
pub not_eqb : (a b : ℕ) → a ≢ b → (a == b) ≡ false
not_eqb a b apart = elim (eqb_tells a b) [
  | inl same ↦ absurd (apart same.1)
  | inr other ↦ other.0
]

module _ (way : Noting) (timer : Timer) (o : Outside) (ns : way.Taken) where
  pub output_load : Does way (device_load timer output_address) o o (Ok 0) ns ns
  unfolding device_load
  output_load = does_done way (Ok 0) (Ok 0) o ns refl

  pub count_load : (v : ℕ) → v ≡ timer.count → Does way (device_load timer count_address) o o (Ok v) ns ns
  unfolding device_load
  count_load v e = does_done way (Ok timer.count) (Ok v) o ns (ap (λ w. Ok w) e)

  pub reload_load : (v : ℕ) → v ≡ timer.reload → Does way (device_load timer reload_address) o o (Ok v) ns ns
  unfolding device_load
  reload_load v e = does_done way (Ok timer.reload) (Ok v) o ns (ap (λ w. Ok w) e)

  pub pending_load : (w v : ℕ) (ns1 : way.Taken) → v ≡ w → Does way (ask_levels every_level (λ x. done x)) o o w ns ns1 → Does way (device_load timer pending_address) o o (Ok v) ns ns1
  unfolding device_load
  pending_load w v ns1 e h = record { result = ap (λ x. Ok x) (e ∙ h.result); outside = h.outside; noted = h.noted }

  pub no_load : (a : ℕ) → a ≢ output_address → a ≢ count_address → a ≢ reload_address → a ≢ pending_address → Does way (device_load timer a) o o (Err no_answer) ns ns
  unfolding device_load
  no_load a e1 e2 e3 e4 =
      rw (not_eqb a output_address e1, not_eqb a count_address e2, not_eqb a reload_address e3, not_eqb a pending_address e4) (does_done way (Err no_answer) (Err no_answer) o ns refl)

module _ (way : Noting) (timer : Timer) (v : ℕ) (o o1 : Outside) (ns ns1 : way.Taken) where
  pub pending_store : (w : ℕ) (t : Timer) → w ≡ v % 2 ^ 32 → t ≡ timer → Does way (clear_levels w (done (stored_with timer))) o o1 (stored_with timer) ns ns1
      → Does way (device_store timer pending_address v) o o1 (stored_with t) ns ns1
  unfolding device_store
  pending_store w t low e h = rw (e, ← low) h

-- who leaves those levels pending that are not cleared, and notes that every level is read, clears them
pub clears : {R : Type 0} (way : Noting) (word : ℕ) (x : R) (ps : List Bool) (o o1 : Outside) (ns ns1 : way.Taken)
    → ps ≡ cleared word o.pending → o1 ≡ record o { pending = ps } → ns1 ≡ noting way ns (Levels every_level ∷ []) [] → Does way (clear_levels word (done x)) o o1 x ns ns1
clears way word x ps o o1 ns ns1 h same n = rw (same, h) (record { result = refl; outside = refl; noted = n })

-- who notes the levels that are asked, and leads to those that are pending, asks them
pub asks_levels : (way : Noting) (word r : ℕ) (ps : List Bool) (o : Outside) (ns ns1 : way.Taken)
    → r ≡ asked word ps → ps ≡ o.pending → ns1 ≡ noting way ns (Levels word ∷ []) [] → Does way (ask_levels word (λ x. done x)) o o r ns ns1
asks_levels way word r ps o ns ns1 h same n = record { result = h ∙ ap (asked word) same; outside = refl; noted = n }

-- ---- the timer

module _ (way : Noting) (timer : Timer) (o : Outside) (ns : way.Taken) where
  pub tick_none : timer.count ≡ 0 → Does way (tick timer) o o timer ns ns
  unfolding tick
  tick_none e = does_if_true way (timer.count == 0) (done timer) _ o o timer ns ns (rw e refl) (does_done way timer timer o ns refl)

  pub tick_last : (o1 : Outside) (t : Timer) (ns1 : way.Taken) → timer.count ≡ 1
      → Does way (expire (done (record timer { count = timer.reload }))) o o1 t ns ns1 → Does way (tick timer) o o1 t ns ns1
  unfolding tick
  tick_last o1 t ns1 e h =
      does_if_false way (timer.count == 0) (done timer) _ o o1 t ns ns1 (rw e refl)
      (does_if_true way (timer.count == 1) (expire (done (record timer { count = timer.reload }))) _ o o1 t ns ns1 (rw e refl) h)

  pub tick_down : (o1 : Outside) (t : Timer) → 1 < timer.count → t ≡ record timer { count = timer.count - 1 } → o1 ≡ o → Does way (tick timer) o o1 t ns ns
  unfolding tick
  tick_down o1 t above e same =
      rw same (does_if_false way (timer.count == 0) (done timer) _ o o t ns ns (not_eqb timer.count 0 (omega arith))
      (does_if_false way (timer.count == 1) (expire (done (record timer { count = timer.reload }))) _ o o t ns ns (not_eqb timer.count 1 (omega arith))
      (does_done way (record timer { count = timer.count - 1 }) t o ns e)))
