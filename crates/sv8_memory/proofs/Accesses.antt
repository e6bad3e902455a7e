-- What an access does, from what physical memory did.
use Rattle.std.proofs.Common.{◌≡◌, ◌∙◌, ◌<◌, ◌≤◌, ◌==◌, ◌&&◌, ℕ, true, false, nat_lt, List, [], ◌∷◌, Result, Ok, Err, refl, sym, ap, subst, arith}
use Rattle.std.proofs.lemmas.Bool.{lt-ltb}
use Rattle.std.proofs.lemmas.Bool.Decides.{nat_tests}
use Rattle.sv8_model.specs.Outside.{Outside}
use Rattle.sv8_model.specs.declared.observation.AccessKind.TheVariants as kind
use Rattle.sv8_model.specs.declared.observation.Observation.{Observation}
use Rattle.sv8_model.specs.declared.observation.Observation.TheVariants as seen
use Rattle.sv8_model.specs.Action.{Action, done, take_input, count_waiting, observe, ◌>>=◌}
use Rattle.sv8_model.specs.Does.{Does, Noting, noting}
use Rattle.sv8_model.proofs.Common.{does_then, does_map, does_done, does_observe, does_if_true, does_if_false}
use Rattle.sv8_phys.specs.declared.fault.BusError.{BusError}
use Rattle.sv8_model.specs.declared.size.Size.{Size}
use Rattle.sv8_model.specs.declared.size.Size.TheVariants.{Byte, Half, Word, Double}
use Rattle.sv8_model.specs.Devices.{input_address, waiting_address}
use Rattle.sv8_phys.specs.Devices.{Stored, load, store, ram_load, ram_store}
use Rattle.sv8_mmu.specs.declared.access_type.AccessType.{AccessType}
use Rattle.sv8_mmu.specs.declared.fault_type.FaultType.{FaultType}
use Rattle.sv8_mmu.specs.declared.table_level.TableLevel.{TableLevel}
use Rattle.sv8_mmu.specs.declared.translation.Reach.{Reach}
use Rattle.sv8_mmu.specs.declared.translation.Translated.{Translated}
use Rattle.sv8_mmu.specs.declared.translation.Translated.TheVariants as translated
use Rattle.sv8_mmu.specs.declared.translation.Translated.TheVariants.{At}
use Rattle.sv8_mmu.specs.Registers.{translates}
use Rattle.sv8_mmu.specs.Translation.{translate}
use Rattle.sv8_mmu.specs.Probe.{probe}
use Rattle.sv8_mmu.specs.Kept.{Kept, AllStand}
use Rattle.sv8_trap.specs.declared.table.Trap.{Trap}
use Rattle.sv8_memory.specs.Units.{Units, Served, served, failed}
use Rattle.sv8_model.specs.Words.{low_word}
use Rattle.sv8_memory.specs.Access.{access_seen, seen_if, observed, fetched_from, load_answer, takes_byte, counts_bytes, plainly_loaded, loaded_from, store_answer, stored_at, exchanged_at, located, at_virtual, is_word, probed}

no_console : (size : Size) (pa console : ℕ) → pa < console → (is_word size && pa == console) ≡ false
no_console Byte pa console h = refl
no_console Half pa console h = refl
no_console Word pa console h = grind (arith, nat_tests)
no_console Double pa console h = refl

-- ---- what an observer sees

-- a deed, and what is seen of it
does_seen : {A B : Type 0} (way : Noting) (a : Action A) (f : A → B) (see : A → Observation) (o o1 : Outside) (x : A) (y : B) (ns ns1 ns2 : way.Taken)
    → Does way a o o1 x ns ns1 → ns2 ≡ noting way ns1 [] (see x ∷ []) → y ≡ f x → Does way (a >>= λ z. observe (see z) (done (f z))) o o1 y ns ns2
does_seen way a f see o o1 x y ns ns1 ns2 d seen e =
    does_then way a (λ z. observe (see z) (done (f z))) o o1 o1 x y ns ns1 ns2 d (does_observe way (see x) (done (f x)) o1 o1 y ns1 ns2 ns2 seen (does_done way (f x) y o1 ns2 e))

-- what is seen of an access that may be answered, and then something is done
does_observed : {A E R : Type 0} (way : Noting) (r : Result A E) (s : Observation) (a : Action R) (o o1 : Outside) (x : R) (ns ns1 ns2 : way.Taken)
    → ns1 ≡ noting way ns [] (seen_if r s) → Does way a o o1 x ns1 ns2 → Does way (observed r s a) o o1 x ns ns2
does_observed way (Ok v) s a o o1 x ns ns1 ns2 seen d = does_observe way s a o o1 x ns ns1 ns2 seen d
does_observed way (Err v) s a o o1 x ns ns1 ns2 seen d = subst (λ (n : way.Taken). Does way a o o1 x n ns2) (seen ∙ way.nothing ns) d

-- ---- at a physical address

module _ (way : Noting) (limit : ℕ) (u : Units) (o o1 : Outside) (ns ns1 : way.Taken) where
  -- a word of RAM is fetched
  pub fetched_word : (asi va pa value : ℕ) (s : Served) (ns2 : way.Taken) → nat_lt pa limit ≡ true → Does way (ram_load Word pa) o o1 value ns ns1
      → ns2 ≡ noting way ns1 [] (seen.Fetch pa (low_word value) ∷ []) → s ≡ served u value → Does way (fetched_from limit u asi va pa) o o1 s ns ns2
  unfolding fetched_from
  fetched_word asi va pa value s ns2 inside h see e =
      does_if_true way (nat_lt pa limit) _ _ o o1 s ns ns2 inside (does_seen way (ram_load Word pa) (served u) (λ word. seen.Fetch pa (low_word word)) o o1 value s ns ns1 ns2 h see e)

  -- physical memory answers a load
  pub plain_load : (size : Size) (asi va pa : ℕ) (r : Result ℕ BusError) (s : Served) (o2 : Outside) (ns2 : way.Taken) → o2 ≡ o1 → Does way (load limit u.timer size pa) o o1 r ns ns1
      → ns2 ≡ noting way ns1 [] (seen_if r (access_seen kind.Load size va pa)) → s ≡ load_answer u asi va r → Does way (plainly_loaded limit u size asi va pa) o o2 s ns ns2
  unfolding plainly_loaded
  plain_load size asi va pa r s o2 ns2 same h see e =
      rw same (does_then way (load limit u.timer size pa) (λ z. observed z (access_seen kind.Load size va pa) (done (load_answer u asi va z))) o o1 o1 r s ns ns1 ns2 h
      (does_observed way r (access_seen kind.Load size va pa) (done (load_answer u asi va r)) o1 o1 s ns1 ns2 ns2 see (does_done way (load_answer u asi va r) s o1 ns2 e)))

  -- a byte of the console's input is taken
  pub taken_byte : (size : Size) (asi va pa byte : ℕ) (s : Served) (ns2 : way.Taken) → takes_byte size pa ≡ true → Does way (take_input (λ b. done b)) o o1 byte ns ns1
      → ns2 ≡ noting way ns1 [] (access_seen kind.Load size va pa ∷ []) → s ≡ served u byte → Does way (loaded_from limit u size asi va pa) o o1 s ns ns2
  unfolding loaded_from
  taken_byte size asi va pa byte s ns2 input h see e =
      does_if_true way (takes_byte size pa) _ _ o o1 s ns ns2 input (does_seen way (take_input (λ b. done b)) (served u) (λ b. access_seen kind.Load size va pa) o o1 byte s ns ns1 ns2 h see e)

  -- the waiting bytes are counted
  pub counted_bytes : (size : Size) (asi va pa count : ℕ) (s : Served) (ns2 : way.Taken) → takes_byte size pa ≡ false → counts_bytes size pa ≡ true
      → Does way (count_waiting (λ n. done n)) o o1 count ns ns1 → ns2 ≡ noting way ns1 [] (access_seen kind.Load size va pa ∷ []) → s ≡ served u count
      → Does way (loaded_from limit u size asi va pa) o o1 s ns ns2
  unfolding loaded_from
  counted_bytes size asi va pa count s ns2 other input h see e =
      does_if_false way (takes_byte size pa) _ _ o o1 s ns ns2 other
      (does_if_true way (counts_bytes size pa) _ _ o o1 s ns ns2 input
      (does_seen way (count_waiting (λ n. done n)) (served u) (λ n. access_seen kind.Load size va pa) o o1 count s ns ns1 ns2 h see e))

  -- RAM is neither the console's input nor the count of the bytes that wait
  pub loaded_from_ram : (size : Size) (asi va pa : ℕ) (s : Served) → pa < limit → limit ≤ 0x1000_0000 → Does way (plainly_loaded limit u size asi va pa) o o1 s ns ns1
      → Does way (loaded_from limit u size asi va pa) o o1 s ns ns1
  unfolding loaded_from
  loaded_from_ram size asi va pa s inside small h =
      does_if_false way (takes_byte size pa) _ _ o o1 s ns ns1 (no_console size pa input_address (omega (arith, inside, small)))
      (does_if_false way (counts_bytes size pa) _ _ o o1 s ns ns1 (no_console size pa waiting_address (omega (arith, inside, small))) h)

  -- physical memory answers a store
  pub plain_store : (size : Size) (asi value va pa : ℕ) (r : Stored) (s : Served) (o2 : Outside) (ns2 : way.Taken) → o2 ≡ o1 → Does way (store limit u.timer size pa value) o o1 r ns ns1
      → ns2 ≡ noting way ns1 [] (seen_if r.answer (access_seen kind.Store size va pa)) → s ≡ store_answer u asi va r → Does way (stored_at limit u size asi value va pa) o o2 s ns ns2
  unfolding stored_at
  plain_store size asi value va pa r s o2 ns2 same h see e =
      rw same (does_then way (store limit u.timer size pa value) (λ z. observed z.answer (access_seen kind.Store size va pa) (done (store_answer u asi va z))) o o1 o1 r s ns ns1 ns2 h
      (does_observed way r.answer (access_seen kind.Store size va pa) (done (store_answer u asi va r)) o1 o1 s ns1 ns2 ns2 see (does_done way (store_answer u asi va r) s o1 ns2 e)))

-- RAM answers a load
pub loaded_word : (way : Noting) (limit : ℕ) (u : Units) (o : Outside) (ns ns1 ns2 : way.Taken) (size : Size) (asi va pa value : ℕ) (s : Served) → pa < limit
    → Does way (ram_load size pa) o o value ns ns1 → ns2 ≡ noting way ns1 [] (access_seen kind.Load size va pa ∷ []) → s ≡ served u value
    → Does way (plainly_loaded limit u size asi va pa) o o s ns ns2
loaded_word way limit u o ns ns1 ns2 size asi va pa value s inside h see e =
    plain_load way limit u o o ns ns1 size asi va pa (Ok value) s o ns2 refl
    (does_if_true way (nat_lt pa limit) _ _ o o (Ok value) ns ns1 (lt-ltb pa limit inside) (does_map way (ram_load size pa) (λ w. Ok w) o o value (Ok value) ns ns1 h refl)) see e

-- what a store to RAM leads to is of no matter to the store
store_then : {A B : Type 0} (size : Size) (at value : ℕ) (x : A) (y : B) → (ram_store size at value x >>= λ z. done y) ≡ ram_store size at value y
unfolding ◌>>=◌
store_then Byte at value x y = refl
store_then Half at value x y = refl
store_then Word at value x y = refl
store_then Double at value x y = refl

-- a load from RAM, and then a store
pub exchanged_word : (way : Noting) (limit : ℕ) (u : Units) (o o1 o2 : Outside) (ns ns0 ns1 ns2 : way.Taken) (size : Size) (asi value va pa old : ℕ) (x y : Stored) (s : Served)
    → nat_lt pa limit ≡ true → ns0 ≡ noting way ns [] (access_seen kind.Exchange size va pa ∷ []) → Does way (ram_load size pa) o o1 old ns0 ns1 → Does way (ram_store size pa value x) o1 o2 y ns1 ns2 → s ≡ served u old
    → Does way (exchanged_at limit u size asi value va pa) o o2 s ns ns2
unfolding exchanged_at
exchanged_word way limit u o o1 o2 ns ns0 ns1 ns2 size asi value va pa old x y s inside see h k e =
    does_if_true way (nat_lt pa limit) _ _ o o2 s ns ns2 inside
    (does_observe way (access_seen kind.Exchange size va pa) _ o o2 s ns ns0 ns2 see
    (does_then way (ram_load size pa) (λ v. ram_store size pa value (served u v)) o o1 o2 old s ns0 ns1 ns2 h
    (rw (← store_then size pa value x (served u old)) (does_map way (ram_store size pa value x) (λ z. served u old) o1 o2 y s ns1 ns2 k e))))

-- ---- at a virtual address

module _ (way : Noting) (limit : ℕ) (u : Units) (trap : Trap) (asi : ℕ) (access_type : AccessType) (reach : Reach) (va : ℕ) (use_address : Units → ℕ → Action Served) (o o2 : Outside) (s : Served) (ns ns2 : way.Taken) where
  -- it is made as the type and the reach are that the code has found
  pub made_as : (given : AccessType) (given_reach : Reach) → given ≡ access_type → given_reach ≡ reach → Does way (at_virtual limit u trap asi given given_reach va (use_address u)) o o2 s ns ns2
      → Does way (at_virtual limit u trap asi access_type reach va (use_address u)) o o2 s ns ns2
  made_as given given_reach type_is reach_is made =
      subst (λ k. Does way (at_virtual limit u trap asi k reach va (use_address u)) o o2 s ns ns2) type_is
      (subst (λ r. Does way (at_virtual limit u trap asi given r va (use_address u)) o o2 s ns ns2) reach_is made)

  -- where addresses are not translated, it is made at the virtual address
  pub made_untranslated : translates u.mmu ≡ false → Does way (use_address u va) o o2 s ns ns2 → Does way (at_virtual limit u trap asi access_type reach va (use_address u)) o o2 s ns ns2
  unfolding at_virtual translate ◌>>=◌
  made_untranslated off made = rw off made

  module _ (u1 : Units) (o1 : Outside) (t : Translated) (ns1 : way.Taken) (same : u1 ≡ u) (d : Does way (translate limit u.mmu va access_type reach) o o1 t ns ns1) where
    -- it is translated, and the access is made at the physical address
    pub made_at : (pa : ℕ) → t ≡ At pa → Does way (use_address u1 pa) o1 o2 s ns1 ns2 → Does way (at_virtual limit u trap asi access_type reach va (use_address u)) o o2 s ns ns2
    unfolding at_virtual
    made_at pa e made =
        does_then way (translate limit u.mmu va access_type reach) (located u trap asi access_type va (use_address u)) o o1 o2 t s ns ns1 ns2 d
        (rw e (subst (λ v. Does way (use_address v pa) o1 o2 s ns1 ns2) same made))

    -- its translation meets a fault, and nothing more is done
    pub refused_at : (kind : FaultType) (level : TableLevel) (answer : Served) (o3 : Outside) → t ≡ translated.Refused kind level → o3 ≡ o1
        → answer ≡ failed u1 trap asi (record { level = level; access_type = access_type; fault_type = kind; address = va }) → Does way (done answer) o3 o2 s ns1 ns2
        → Does way (at_virtual limit u trap asi access_type reach va (use_address u)) o o2 s ns ns2
    unfolding at_virtual
    refused_at kind level answer o3 e outside is made =
        does_then way (translate limit u.mmu va access_type reach) (located u trap asi access_type va (use_address u)) o o1 o2 t s ns ns1 ns2 d
        (rw e (subst (λ a. Does way (done a) o1 o2 s ns1 ns2)
        (is ∙ ap (λ v. failed v trap asi (record { level = level; access_type = access_type; fault_type = kind; address = va })) same)
        (subst (λ p. Does way (done answer) p o2 s ns1 ns2) outside made)))

-- what is kept goes on standing where neither RAM nor the table pointer changes
pub stand_on : (limit : ℕ) (ram now : List ℕ) (p q : ℕ) (ks : List Kept) → now ≡ ram → q ≡ p → AllStand limit ram p ks → AllStand limit now q ks
stand_on limit ram now p q ks e f stand = subst (λ r. AllStand limit r q ks) (sym e) (subst (λ x. AllStand limit ram x ks) (sym f) stand)

pub stand_written : (limit : ℕ) (now : List ℕ) (p q : ℕ) (ks : List Kept) → q ≡ p → AllStand limit now p ks → AllStand limit now q ks
stand_written limit now p q ks f stand = subst (λ x. AllStand limit now x ks) (sym f) stand

-- a load of a word is a probe
pub probe_made : (way : Noting) (limit : ℕ) (u : Units) (size : Size) (at entry : ℕ) (o o1 : Outside) (ns ns1 : way.Taken) → is_word size ≡ true → Does way (probe limit u.mmu at) o o1 entry ns ns1
    → Does way (probed limit u size at) o o1 (served u entry) ns ns1
probe_made way limit u size at entry o o1 ns ns1 word d = does_if_true way (is_word size) _ _ o o1 (served u entry) ns ns1 word (does_map way (probe limit u.mmu at) (served u) o o1 entry (served u entry) ns ns1 d refl)
