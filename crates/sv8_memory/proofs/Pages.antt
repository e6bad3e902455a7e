-- A store changes one page of RAM at most.
use Rattle.std.proofs.Common.{◌≡◌, ℕ, ◌+◌, ◌*◌, ◌/◌, ◌%◌, ◌^◌, Bool, true, false, cond, nat_lt, ◌==◌, Ok, List, length, get_or, refl, sym, ◌∙◌, ap, subst, arith}
use Rattle.std.proofs.lemmas.List.{length-set, get_or-set_other}
use Rattle.sv8_model.specs.Outside.{Outside, with_byte, with_word}
use Rattle.sv8_model.specs.Action.{Action, done, emit, clear_levels, expire, after}
use Rattle.sv8_model.specs.Does.{Does, Noting}
use Rattle.sv8_model.proofs.Common.{length-with_word, word_other}
use Rattle.sv8_model.specs.declared.size.Size.{Size}
use Rattle.sv8_model.specs.declared.size.Size.TheVariants.{Byte, Half, Word, Double}
use Rattle.sv8_model.specs.Size.{bytes_in}
use Rattle.sv8_phys.specs.declared.timer.Timer.{Timer}
use Rattle.sv8_model.specs.Devices.{input_address, waiting_address, output_address, count_address, reload_address, pending_address}
use Rattle.sv8_phys.specs.Devices.{Stored, store, ram_store, outside_store, device_store, tick}
use Rattle.sv8_mmu.specs.Kept.{DiffersInPage}

-- no page differs
pub page_itself : (page : ℕ) (ram now : List ℕ) → now ≡ ram → DiffersInPage page ram now
page_itself page ram now e = record { size = ap length e; others = λ i n. ap (λ r. get_or r i 0) e }

page_again : (page : ℕ) (ram between now : List ℕ) → DiffersInPage page ram between → DiffersInPage page between now → DiffersInPage page ram now
page_again page ram between now p q = record { size = q.size ∙ p.size; others = λ i n. q.others i n ∙ p.others i n }

byte_in_page : (page a v : ℕ) (ram : List ℕ) → a / 4096 ≡ page → DiffersInPage page ram (with_byte ram a v)
unfolding with_byte
byte_in_page page a v ram h = record { size = length-set ram a (v % 2 ^ 8); others = λ i n. get_or-set_other ram a i (v % 2 ^ 8) 0 (λ q. n (ap (λ x. x / 4096) q ∙ h)) }

word_in_page : (page k v : ℕ) (ram : List ℕ) → k / 1024 ≡ page → DiffersInPage page ram (with_word ram k v)
word_in_page page k v ram h = record { size = length-with_word ram k v; others = λ i n. word_other ram k v i (λ q. n (omega arith)) }

-- a store to RAM at a multiple of its size
pub ram_store_in_page : {R : Type 0} (size : Size) (pa value : ℕ) (x : R) (o : Outside) → pa % bytes_in size ≡ 0 → DiffersInPage (pa / 4096) o.ram (after (ram_store size pa value x) o).ram
ram_store_in_page Byte pa value x o h = byte_in_page (pa / 4096) pa value o.ram refl
ram_store_in_page Half pa value x o h =
    page_again (pa / 4096) o.ram (with_byte o.ram pa (value / 2 ^ 8)) _ (byte_in_page (pa / 4096) pa (value / 2 ^ 8) o.ram refl) (byte_in_page (pa / 4096) (pa + 1) value (with_byte o.ram pa (value / 2 ^ 8)) (omega arith))
ram_store_in_page Word pa value x o h = word_in_page (pa / 4096) (pa / 4) (value % 2 ^ 32) o.ram (omega arith)
ram_store_in_page Double pa value x o h =
    page_again (pa / 4096) o.ram (with_word o.ram (pa / 4) (value / 2 ^ 32 % 2 ^ 32)) _ (word_in_page (pa / 4096) (pa / 4) (value / 2 ^ 32 % 2 ^ 32) o.ram (omega arith))
    (word_in_page (pa / 4096) (pa / 4 + 1) (value % 2 ^ 32) (with_word o.ram (pa / 4) (value / 2 ^ 32 % 2 ^ 32)) (omega arith))

-- ---- what leaves RAM as it is

-- the action leaves RAM as it is
pub record Spares {R : Type 0} (a : Action R) : Type 0 where
  pub ram : (o : Outside) → (after a o).ram ≡ o.ram

spares_if : {R : Type 0} (b : Bool) (x y : Action R) → Spares x → Spares y → Spares (cond b x y)
spares_if true x y p q = p
spares_if false x y p q = q

spares_done : {R : Type 0} (x : R) → Spares (done x)
spares_done x = record { ram = λ o. refl }

spares_emit : {R : Type 0} (v : ℕ) (x : R) → Spares (emit v (done x))
spares_emit v x = record { ram = λ o. refl }

spares_clear : {R : Type 0} (w : ℕ) (x : R) → Spares (clear_levels w (done x))
spares_clear w x = record { ram = λ o. refl }

spares_expire : {R : Type 0} (x : R) → Spares (expire (done x))
spares_expire x = record { ram = λ o. refl }

device_spares : (timer : Timer) (pa value : ℕ) → Spares (device_store timer pa value)
unfolding device_store
device_spares timer pa value =
    spares_if (pa == output_address) _ _ (spares_emit _ _) (spares_if (pa == count_address) _ _ (spares_done _) (spares_if (pa == reload_address) _ _ (spares_done _) (spares_if (pa == pending_address) _ _ (spares_clear _ _)
    (spares_if (pa == input_address) _ _ (spares_done _) (spares_if (pa == waiting_address) _ _ (spares_done _) (spares_done _))))))

outside_spares : (timer : Timer) (size : Size) (pa value : ℕ) → Spares (outside_store timer size pa value)
outside_spares timer Byte pa value = spares_done _
outside_spares timer Half pa value = spares_done _
outside_spares timer Word pa value = device_spares timer pa value
outside_spares timer Double pa value = spares_done _

-- the timer's step
pub tick_spares : (timer : Timer) → Spares (tick timer)
unfolding tick
tick_spares timer = spares_if (timer.count == 0) _ _ (spares_done _) (spares_if (timer.count == 1) _ _ (spares_expire _) (spares_done _))

-- ---- a store to RAM or a device

store_in_page : (limit : ℕ) (timer : Timer) (size : Size) (pa value : ℕ) (o : Outside) (b : Bool) (x y : Action Stored) → pa % bytes_in size ≡ 0 → x ≡ ram_store size pa value (record { answer = Ok tt; timer = timer })
    → Spares y → DiffersInPage (pa / 4096) o.ram (after (cond b x y) o).ram
store_in_page limit timer size pa value o true x y h e s = subst (λ a. DiffersInPage (pa / 4096) o.ram (after a o).ram) (sym e) (ram_store_in_page size pa value _ o h)
store_in_page limit timer size pa value o false x y h e s = page_itself (pa / 4096) o.ram _ (s.ram o)

pub stored_in_page : (way : Noting) (limit : ℕ) (timer : Timer) (size : Size) (pa value : ℕ) (o o1 : Outside) (r : Stored) (ns ns1 : way.Taken) → pa % bytes_in size ≡ 0
    → Does way (store limit timer size pa value) o o1 r ns ns1 → DiffersInPage (pa / 4096) o.ram o1.ram
stored_in_page way limit timer size pa value o o1 r ns ns1 h d =
    subst (λ p. DiffersInPage (pa / 4096) o.ram p.ram) (sym d.outside) (store_in_page limit timer size pa value o (nat_lt pa limit) _ _ h refl (outside_spares timer size pa value))

pub ram_stored_in_page : {R : Type 0} (way : Noting) (size : Size) (pa value : ℕ) (x r : R) (o o1 : Outside) (ns ns1 : way.Taken) → pa % bytes_in size ≡ 0
    → Does way (ram_store size pa value x) o o1 r ns ns1 → DiffersInPage (pa / 4096) o.ram o1.ram
ram_stored_in_page way size pa value x r o o1 ns ns1 h d = subst (λ p. DiffersInPage (pa / 4096) o.ram p.ram) (sym d.outside) (ram_store_in_page size pa value x o h)

-- an address way its alignment with bits above
pub place_aligned : (size : Size) (high at : ℕ) → at % bytes_in size ≡ 0 → (high * 2 ^ 32 + at) % bytes_in size ≡ 0
place_aligned Byte high at h = omega arith
place_aligned Half high at h = omega arith
place_aligned Word high at h = omega arith
place_aligned Double high at h = omega arith
