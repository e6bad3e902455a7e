-- A byte whose word is not touched, and which is not poked, stays. RAM stays as large as it is.
use Rattle.std.proofs.Common.{◌≡◌, ℕ, ◌+◌, ◌*◌, ◌<◌, ◌≤◌, ◌==◌, false, List, [], ◌∷◌, length, get_or, set, refl, sym, ◌∙◌, ap, arith}
use Rattle.std.specs.Prelude.{nat_le, nat_lt, ◌&&◌, ◌||◌}
use Rattle.std.specs.List.{list_any}
use Rattle.std.proofs.lemmas.Bool.{or_parts}
use Rattle.std.proofs.lemmas.Bool.Decides.{nat_tests}
use Rattle.std.proofs.lemmas.List.{get_or-set_other, length-set}
use Rattle.sv8_model.specs.declared.touch.TouchKind.TheVariants.{Any}
use Rattle.sv8_model.specs.Footprint.{is_touch_of}
use Rattle.sv8_model.specs.Outside.{Outside, with_byte, with_word, word_address}
use Rattle.sv8_model.specs.Action.{Action, done, load_word, store_word, load_byte, store_byte, take_input, count_waiting, emit, ask_levels, clear_levels, expire, observe, after, touches}
use Rattle.sv8_model.proofs.Common.{word_other, length-with_word}
use Rattle.sv8_time.specs.Schedule.{arrived, BytePoke, Schedule, pokes_of_step}
use Rattle.sv8_phys.specs.Contents.{outside_of}
use Rattle.sv8_memory.specs.Events.{poked, with_events}
use Rattle.sv8_cpu.specs.State.{State}
use Rattle.sv8_cpu.specs.Run as run
use Rattle.sv8_cpu.specs.Touching.{is_within, pokes_any, SparesBytes}
use Rattle.sv8_cpu.proofs.Common.{length-poked}
use Rattle.sv8_step_laws.proofs.Touched.{touched_is}

-- ---- an action

word_stays : (ram : List ℕ) (k v i : ℕ) → (4 * k == word_address i) ≡ false → get_or (with_word ram k v) i 0 ≡ get_or ram i 0
word_stays ram k v i apart = word_other ram k v i (λ e. let same : 4 * k ≡ word_address i = omega (arith, e) in grind (arith, nat_tests, same, apart))

byte_stays : (ram : List ℕ) (j v i : ℕ) → (word_address j == word_address i || false) ≡ false → get_or (with_byte ram j v) i 0 ≡ get_or ram i 0
unfolding with_byte
byte_stays ram j v i apart =
    get_or-set_other ram j i _ 0 (λ e. let same : word_address j ≡ word_address i = ap word_address (sym e) in grind (arith, nat_tests, same, apart))

pub stays : {R : Type 0} (a : Action R) (o : Outside) (i : ℕ) → list_any (is_touch_of (word_address i)) (touches a o) ≡ false → get_or (after a o).ram i 0 ≡ get_or o.ram i 0
stays (done x) o i h = refl
stays (load_word k g) o i h = stays (g _) o i (or_parts _ _ h).1
stays (store_word k v a) o i h = stays a _ i (or_parts _ _ h).1 ∙ word_stays o.ram k v i (or_parts _ _ h).0
stays (load_byte j g) o i h = stays (g _) o i (or_parts _ _ h).1
stays (store_byte j v a) o i h = stays a _ i (or_parts _ _ h).1 ∙ byte_stays o.ram j v i (or_parts _ _ h).0
stays (take_input g) o i h = stays (g _) _ i h
stays (count_waiting g) o i h = stays (g _) o i h
stays (emit b a) o i h = stays a _ i h
stays (ask_levels w g) o i h = stays (g _) o i h
stays (clear_levels w a) o i h = stays a _ i h
stays (expire a) o i h = stays a _ i h
stays (observe s a) o i h = stays a o i h

-- ---- events

unpoked : (address count i : ℕ) → address ≤ i → i < address + count → (ps : List BytePoke) (ram : List ℕ) → pokes_any address count ps ≡ false
    → get_or (poked ps ram) i 0 ≡ get_or ram i 0
unpoked address count i low high [] ram h = refl
unpoked address count i low high (p ∷ ps) ram h =
    let apart = (or_parts (is_within address count p.address) (pokes_any address count ps) h).0 in
    unpoked address count i low high ps (set ram p.address p.value) (or_parts (is_within address count p.address) (pokes_any address count ps) h).1
    ∙ get_or-set_other ram p.address i p.value 0 (λ e. elsewhere p.address e apart)
  where
    elsewhere : (a : ℕ) → i ≡ a → (nat_le address a && nat_lt a (address + count)) ≡ false → ⊥
    elsewhere a e none = grind (arith, nat_tests, e, none, low, high)

-- what the events of a step leave of such a byte
pub unpoked_stays : (schedule : Schedule) (n : ℕ) (s : State) (address count i : ℕ) → address ≤ i → i < address + count → pokes_any address count (pokes_of_step n schedule.pokes) ≡ false
    → get_or (run.eventful schedule n s).memory.ram i 0 ≡ get_or s.memory.ram i 0
unfolding with_events
unpoked_stays schedule n s address count i low high none = unpoked address count i low high (pokes_of_step n schedule.pokes) s.memory.ram none

-- by all that a step touches
pub spared_by_any : (windows pages : ℕ) (schedule : Schedule) (n : ℕ) (s : State) (address count : ℕ) → SparesBytes Any windows pages schedule n s address count
    → (i : ℕ) → address ≤ i → i < address + count → get_or (run.step windows pages schedule n s).memory.ram i 0 ≡ get_or s.memory.ram i 0
unfolding run.step run.footprint
spared_by_any windows pages schedule n s address count spared i low high =
    let t = run.eventful schedule n s in
    stays (run.step_action windows pages t) (outside_of t.memory (arrived (n + 1) schedule)) i
    (sym (touched_is (run.touched windows pages (arrived (n + 1) schedule) t) i) ∙ spared.touched i low high)
    ∙ unpoked_stays schedule n s address count i low high spared.poked

-- ---- the size of RAM

length-after : {R : Type 0} (a : Action R) (o : Outside) → length (after a o).ram ≡ length o.ram
unfolding with_byte
length-after (done x) o = refl
length-after (load_word k g) o = length-after (g _) o
length-after (store_word k v a) o = length-after a _ ∙ length-with_word o.ram k v
length-after (load_byte j g) o = length-after (g _) o
length-after (store_byte j v a) o = length-after a _ ∙ length-set o.ram j _
length-after (take_input g) o = length-after (g _) _
length-after (count_waiting g) o = length-after (g _) o
length-after (emit b a) o = length-after a _
length-after (ask_levels w g) o = length-after (g _) o
length-after (clear_levels w a) o = length-after a _
length-after (expire a) o = length-after a _
length-after (observe s a) o = length-after a o

-- no step makes it another one
pub ram_stays_long : (windows pages : ℕ) (schedule : Schedule) (n : ℕ) (s : State) → length (run.step windows pages schedule n s).memory.ram ≡ length s.memory.ram
unfolding run.step with_events
ram_stays_long windows pages schedule n s =
    let t = run.eventful schedule n s in
    length-after (run.step_action windows pages t) (outside_of t.memory (arrived (n + 1) schedule)) ∙ length-poked (pokes_of_step n schedule.pokes) s.memory.ram
