-- The state that an action leaves, from what the parts did.
use Rattle.std.proofs.Common.{◌≡◌, ◌∙◌, ℕ, zero, suc, ◌+◌, ◌-◌, ◌≤◌, List, [], ◌∷◌, length, drop, sym, ap, subst, arith}
use Rattle.sv8_model.specs.Outside.{Outside, without_oldest}
use Rattle.sv8_model.specs.Action.{Action, done, load_word, store_word, load_byte, store_byte, take_input, count_waiting, emit, ask_levels, clear_levels, expire, observe, result_of, after}
use Rattle.sv8_model.specs.Does.{Does, Noting}
use Rattle.sv8_phys.specs.Contents.{Contents, outside_of}
use Rattle.sv8_phys.specs.declared.timer.Timer.{Timer}
use Rattle.sv8_trap.specs.Processor.{Processor}
use Rattle.sv8_mmu.specs.declared.registers.Mmu.{Mmu}
use Rattle.sv8_cpu.specs.Step.{Inner}
use Rattle.sv8_cpu.specs.State.{State, left_by}

fewer : (bs : List ℕ) → length (without_oldest bs) ≤ length bs
fewer [] = omega arith
fewer (b ∷ bs) = omega arith

through : {a b c : ℕ} → a ≤ b → b ≤ c → a ≤ c
through h k = omega (arith, h, k)

itself : (n : ℕ) → n ≤ n
itself n = omega arith

-- no action makes bytes wait
pub waiting_falls : {R : Type 0} (a : Action R) (o : Outside) → length (after a o).waiting ≤ length o.waiting
waiting_falls (done x) o = itself _
waiting_falls (load_word k g) o = waiting_falls (g _) o
waiting_falls (store_word k v a) o = waiting_falls a _
waiting_falls (load_byte i g) o = waiting_falls (g _) o
waiting_falls (store_byte i v a) o = waiting_falls a _
waiting_falls (take_input g) o = through (waiting_falls (g _) _) (fewer o.waiting)
waiting_falls (count_waiting g) o = waiting_falls (g _) o
waiting_falls (emit b a) o = waiting_falls a _
waiting_falls (ask_levels w g) o = waiting_falls (g _) o
waiting_falls (clear_levels w a) o = waiting_falls a _
waiting_falls (expire a) o = waiting_falls a _
waiting_falls (observe s a) o = waiting_falls a o

-- what is left of a list once some are dropped
pub length-dropped : (n : ℕ) (bs : List ℕ) → length (drop n bs) ≡ length bs - n
length-dropped zero bs = omega arith
length-dropped (suc n) [] = omega arith
length-dropped (suc n) (b ∷ bs) = let rest = length-dropped n bs in omega (arith, rest)

-- a state, from its parts
state_is : (s : State) (p : Processor) (u : Mmu) (m : Contents) → s.processor ≡ p → s.mmu ≡ u → s.memory ≡ m → s ≡ record { processor = p; mmu = u; memory = m }
state_is s p u m e f g =
    ap {A = Processor} {B = State} (λ x. record { processor = x; mmu = s.mmu; memory = s.memory }) e
    ∙ ap {A = Mmu} {B = State} (λ x. record { processor = p; mmu = x; memory = s.memory }) f
    ∙ ap {A = Contents} {B = State} (λ x. record { processor = p; mmu = u; memory = x }) g

contents_are : (m : Contents) (taken : ℕ) (timer : Timer) → m.taken ≡ taken → m.timer ≡ timer → m ≡ record { ram = m.ram; taken = taken; output = m.output; pending = m.pending; timer = timer }
contents_are m taken timer e f =
    ap {A = ℕ} {B = Contents} (λ x. record m { taken = x }) e ∙ ap {A = Timer} {B = Contents} (λ x. record m { taken = taken; timer = x }) f

pub left : (way : Noting) (a : Action Inner) (bytes : List ℕ) (m m1 : Contents) (y : Inner) (s : State) (ns ns1 : way.Taken) → m.taken ≤ length bytes → m1.taken ≤ length bytes
    → Does way a (outside_of m bytes) (outside_of m1 bytes) y ns ns1
    → s.processor ≡ y.processor → s.mmu ≡ y.units.mmu → s.memory ≡ m1 → m1.timer ≡ y.units.timer
    → s ≡ left_by (result_of a (outside_of m bytes)) m (outside_of m bytes) (after a (outside_of m bytes))
left way a bytes m m1 y s ns ns1 h k d p u c t =
    let falls : length (drop m1.taken bytes) ≤ length (drop m.taken bytes) = subst (λ o. length o.waiting ≤ length (drop m.taken bytes)) (sym d.outside) (waiting_falls a (outside_of m bytes)) in
    let old : length (drop m.taken bytes) ≡ length bytes - m.taken = length-dropped m.taken bytes in
    let new : length (drop m1.taken bytes) ≡ length bytes - m1.taken = length-dropped m1.taken bytes in
    let count : m1.taken ≡ m.taken + (length (drop m.taken bytes) - length (drop m1.taken bytes)) = omega (arith, falls, old, new, h, k) in
    state_is s y.processor y.units.mmu m1 p u c
    ∙ ap {A = Contents} {B = State} (λ x. record { processor = y.processor; mmu = y.units.mmu; memory = x }) (contents_are m1 _ y.units.timer count t)
    ∙ ap (λ z. left_by z m (outside_of m bytes) (outside_of m1 bytes)) d.result
    ∙ ap (λ w. left_by (result_of a (outside_of m bytes)) m (outside_of m bytes) w) d.outside
