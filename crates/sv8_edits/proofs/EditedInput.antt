-- An edit of the input: what has come in by the steps up to it stays.
use Rattle.std.proofs.Common.{◌≡◌, ◌∙◌, ℕ, ◌+◌, ◌≤◌, true, false, not, List, [], ◌∷◌, refl, ap, arith}
use Rattle.std.specs.Prelude.{nat_lt, ◌==◌}
use Rattle.std.specs.List.{filter}
use Rattle.std.proofs.lemmas.Bool.Decides.{nat_tests}
use Rattle.std.proofs.lemmas.List.{append-nil}
use Rattle.std.proofs.lemmas.List.Elements.{filter-append}
use Rattle.sv8_time.specs.Schedule.{Schedule, arrived, Input, input_of, input_before, is_input_at, put_input, cut_input, input_bytes, with_input, without_input}
use Rattle.sv8_time.proofs.Common.{filter_none, each_map, each_passes}
use Rattle.sv8_cpu.specs.Recorded.{Event, event_at}
use Rattle.sv8_source.specs.Text.{Text}
use Rattle.sv8_edits.specs.EditLaws.{CanRun, Refeeds}
use Rattle.sv8_edits.proofs.EditedLists.{filter_part}

sooner : (i before step : ℕ) → before ≤ step → nat_lt i before ≡ true → nat_lt i step ≡ true
sooner i before step up_to e = grind (arith, nat_tests)

later : (i before step : ℕ) → before ≤ step → nat_lt step i ≡ true → nat_lt i before ≡ false
later i before step up_to e = grind (arith, nat_tests)

not_yet : (before step : ℕ) → before ≤ step → nat_lt step before ≡ false
not_yet before step up_to = grind (arith, nat_tests)

not_here : (i before step : ℕ) → before ≤ step → nat_lt i before ≡ true → not (i == step) ≡ true
not_here i before step up_to e = grind (arith, nat_tests)

-- the inputs of the steps below one stay, where the edit is of that step or a later one
put_below : (before step : ℕ) (bytes : List ℕ) (inputs : List Input) → before ≤ step
    → filter (λ i. nat_lt i.step before) (put_input (input_of step bytes) inputs) ≡ filter (λ i. nat_lt i.step before) inputs
put_below before step bytes inputs up_to =
    let x = input_of step bytes in
    let low : filter (λ i. nat_lt i.step before) (filter (λ i. input_before i x) inputs) ≡ filter (λ i. nat_lt i.step before) inputs =
    filter_part (λ i. nat_lt i.step before) (λ i. input_before i x) (λ i e. sooner i.step before step up_to e) inputs in
    let high : filter (λ i. nat_lt i.step before) (filter (λ i. input_before x i) inputs) ≡ [] =
    filter_none (λ i. nat_lt i.step before) (filter (λ i. input_before x i) inputs)
    (each_map (λ i. input_before x i ≡ true) (λ i. nat_lt i.step before ≡ false) (λ i e. later i.step before step up_to e) (filter (λ i. input_before x i) inputs) (each_passes (λ i. input_before x i) inputs)) in
    let out : nat_lt step before ≡ false = not_yet before step up_to in
    filter-append (λ i. nat_lt i.step before) (filter (λ i. input_before i x) inputs) (x ∷ filter (λ i. input_before x i) inputs)
    ∙ rw (low, out, high) (append-nil (filter (λ i. nat_lt i.step before) inputs))

cut_below : (before step : ℕ) (inputs : List Input) → before ≤ step
    → filter (λ i. nat_lt i.step before) (cut_input step inputs) ≡ filter (λ i. nat_lt i.step before) inputs
cut_below before step inputs up_to = filter_part (λ i. nat_lt i.step before) (λ i. not (is_input_at step i)) (λ i e. not_here i.step before step up_to e) inputs

-- the event with other bytes that came in
with_arrived : (s : Schedule) (n : ℕ) (bytes : List ℕ) → bytes ≡ arrived (n + 1) s → record (event_at s n) { arrived = bytes } ≡ event_at s n
with_arrived s n bytes e = ap {A = List ℕ} {B = Event} (λ b. record (event_at s n) { arrived = b }) e

pub input_edits : (windows pages : ℕ) (source : Text) (s : Schedule) (can : CanRun windows pages source s) (step : ℕ) (bytes : List ℕ)
    → Refeeds windows pages step source s (with_input step bytes s) can
input_edits windows pages source s can step bytes = record {
  events = λ n. record { pokes = (can.events n).pokes; requests = (can.events n).requests };
  refed = record {
    sound = can.sound;
    start = refl;
    before = λ n l. with_arrived s n _ (ap input_bytes (put_below (n + 1) step bytes s.inputs (omega (arith, l))));
    alike = λ n. record { pokes = refl; requests = refl };
  };
}

pub clear_input_edits : (windows pages : ℕ) (source : Text) (s : Schedule) (can : CanRun windows pages source s) (step : ℕ)
    → Refeeds windows pages step source s (without_input step s) can
clear_input_edits windows pages source s can step = record {
  events = λ n. record { pokes = (can.events n).pokes; requests = (can.events n).requests };
  refed = record {
    sound = can.sound;
    start = refl;
    before = λ n l. with_arrived s n _ (ap input_bytes (cut_below (n + 1) step s.inputs (omega (arith, l))));
    alike = λ n. record { pokes = refl; requests = refl };
  };
}
