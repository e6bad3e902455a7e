-- Bytes that were taken from the console stay taken, and those that were put out stay put out.
use Rattle.std.proofs.Common.{ℕ, ◌+◌, ◌-◌, ◌≤◌, List, [], ◌∷◌, ◌++◌, length, arith}
use Rattle.sv8_model.specs.Outside.{Outside}
use Rattle.sv8_model.specs.Action.{Action, done, load_word, store_word, load_byte, store_byte, take_input, count_waiting, emit, ask_levels, clear_levels, expire, observe, after}
use Rattle.sv8_time.specs.Schedule.{arrived}
use Rattle.sv8_phys.specs.Contents.{outside_of}
use Rattle.sv8_memory.specs.Events.{with_events}
use Rattle.sv8_cpu.specs.Run.{step, eventful, step_action}
use Rattle.sv8_step_laws.specs.Console.{ConsolesGrow}

longer : (xs : List ℕ) (x : ℕ) (n : ℕ) → length (xs ++ x ∷ []) ≤ n → length xs ≤ n
longer [] x n h = omega (arith, h)
longer (y ∷ ys) x n h = omega (arith, longer ys x (n - 1) (omega (arith, h)), h)

output_grows : {R : Type 0} (a : Action R) (o : Outside) → length o.output ≤ length (after a o).output
output_grows (done x) o = omega arith
output_grows (load_word k g) o = output_grows (g _) o
output_grows (store_word k v a) o = output_grows a _
output_grows (load_byte i g) o = output_grows (g _) o
output_grows (store_byte i v a) o = output_grows a _
output_grows (take_input g) o = output_grows (g _) _
output_grows (count_waiting g) o = output_grows (g _) o
output_grows (emit b a) o = longer o.output b _ (output_grows a (record o { output = o.output ++ b ∷ [] }))
output_grows (ask_levels w g) o = output_grows (g _) o
output_grows (clear_levels w a) o = output_grows a _
output_grows (expire a) o = output_grows a _
output_grows (observe s a) o = output_grows a o

pub consoles_grow : ConsolesGrow
unfolding step with_events
consoles_grow windows pages schedule n s =
    let t = eventful schedule n s in
    record { taken = omega arith; output = output_grows (step_action windows pages t) (outside_of t.memory (arrived (n + 1) schedule)) }
