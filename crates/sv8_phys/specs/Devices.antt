-- Accesses to physical memory, as actions: RAM from address 0 on, devices, and a bus error elsewhere.
use Rattle.std.specs.Prelude.{ℕ, ◌+◌, ◌-◌, ◌*◌, ◌/◌, ◌%◌, ◌^◌, ◌==◌, nat_lt, Result, Ok, Err, if◌then◌else◌}
use Rattle.sv8_model.specs.Action.{Action, done, load_word, store_word, load_byte, store_byte, emit, ask_levels, clear_levels, expire, ◌>>=◌}
use Rattle.sv8_phys.specs.declared.fault.BusError.{BusError}
use Rattle.sv8_model.specs.declared.size.Size.{Size}
use Rattle.sv8_model.specs.declared.size.Size.TheVariants.{Byte, Half, Word, Double}
use Rattle.sv8_phys.specs.declared.timer.Timer.{Timer}
use Rattle.sv8_model.specs.Levels.{every_level}
use Rattle.sv8_model.specs.Devices.{input_address, waiting_address, output_address, count_address, reload_address, pending_address}

-- nothing serves the address
abbrev pub no_answer : BusError
no_answer = record {}

-- ---- RAM

-- a load; bytes and halfwords are loaded byte by byte, all else word by word
abbrev pub ram_load : Size → ℕ → Action ℕ
ram_load Byte a = load_byte a (λ b. done b)
ram_load Half a = load_byte a (λ high. load_byte (a + 1) (λ low. done (high * 2 ^ 8 + low)))
ram_load Word a = load_word (a / 4) (λ word. done word)
ram_load Double a = load_word (a / 4) (λ high. load_word (a / 4 + 1) (λ low. done (high * 2 ^ 32 + low)))

-- a store of the low bytes of a number, which leads to x
abbrev pub ram_store : {R : Type 0} → Size → ℕ → ℕ → R → Action R
ram_store Byte a v x = store_byte a v (done x)
ram_store Half a v x = store_byte a (v / 2 ^ 8) (store_byte (a + 1) v (done x))
ram_store Word a v x = store_word (a / 4) (v % 2 ^ 32) (done x)
ram_store Double a v x = store_word (a / 4) (v / 2 ^ 32 % 2 ^ 32) (store_word (a / 4 + 1) (v % 2 ^ 32) (done x))

-- ---- devices

-- a device serves a load
abbrev pub answered : ℕ → Action (Result ℕ BusError)
answered value = done (Ok value)

-- a load; the console's input is not served here, since it depends on the step
unfoldable pub device_load : Timer → ℕ → Action (Result ℕ BusError)
device_load timer a =
    if a == output_address then done (Ok 0) else
    (if a == count_address then done (Ok timer.count) else
    (if a == reload_address then done (Ok timer.reload) else
    (if a == pending_address then ask_levels every_level (λ word. answered word) else done (Err no_answer))))

-- what a store leads to: whether anything serves its address, and the timer as it leaves it
pub record Stored : Type 0 where
  pub answer : Result (Unit {0}) BusError
  pub timer : Timer

abbrev pub stored_with : Timer → Stored
stored_with timer = record { answer = Ok tt; timer = timer }

-- a store to a device; the two addresses of the console's input take it and do nothing
unfoldable pub device_store : Timer → ℕ → ℕ → Action Stored
device_store timer a v =
    if a == output_address then emit (v % 2 ^ 8) (done (stored_with timer)) else
    (if a == count_address then done (stored_with (record timer { count = v % 2 ^ 32 })) else
    (if a == reload_address then done (stored_with (record timer { reload = v % 2 ^ 32 })) else
    (if a == pending_address then clear_levels (v % 2 ^ 32) (done (stored_with timer)) else
    (if a == input_address then done (stored_with timer) else
    (if a == waiting_address then done (stored_with timer) else done (record { answer = Err no_answer; timer = timer }))))))

-- ---- the whole

abbrev pub outside_load : Timer → Size → ℕ → Action (Result ℕ BusError)
outside_load timer Byte a = done (Err no_answer)
outside_load timer Half a = done (Err no_answer)
outside_load timer Word a = device_load timer a
outside_load timer Double a = done (Err no_answer)

abbrev pub outside_store : Timer → Size → ℕ → ℕ → Action Stored
outside_store timer Byte a v = done (record { answer = Err no_answer; timer = timer })
outside_store timer Half a v = done (record { answer = Err no_answer; timer = timer })
outside_store timer Word a v = device_store timer a v
outside_store timer Double a v = done (record { answer = Err no_answer; timer = timer })

-- a load from physical memory; devices take loads of words alone
abbrev pub load : ℕ → Timer → Size → ℕ → Action (Result ℕ BusError)
load limit timer size a = if nat_lt a limit then (ram_load size a >>= answered) else outside_load timer size a

-- a store to physical memory; devices take stores of words alone
abbrev pub store : ℕ → Timer → Size → ℕ → ℕ → Action Stored
store limit timer size a v = if nat_lt a limit then ram_store size a v (stored_with timer) else outside_store timer size a v

-- a step of the timer: a count above 0 falls by one; when it thereby reaches 0, the timer expires, and starts again from the reload
unfoldable pub tick : Timer → Action Timer
tick timer =
    if timer.count == 0 then done timer else
    (if timer.count == 1 then expire (done (record timer { count = timer.reload })) else done (record timer { count = timer.count - 1 }))
