-- The bytes that conditions compare, in front of a step that meets none of them and after it.
use Rattle.std.proofs.Common.{◌≡◌, ◌∙◌, ℕ, zero, suc, ◌+◌, ◌≤◌, ◌<◌, ◌==◌, true, false, List, [], ◌∷◌, ◌++◌, length, take, drop, get_or, refl, sym, ap, ap₂, arith}
use Rattle.std.specs.Prelude.{not}
use Rattle.std.specs.List.{list_any}
use Rattle.std.proofs.Math.Seq.{drop-cons}
use Rattle.std.proofs.lemmas.Bool.{leb-true, and_parts, or_parts}
use Rattle.std.proofs.lemmas.Bool.Decides.{nat_tests}
use Rattle.sv8_time.specs.Schedule.{Schedule}
use Rattle.sv8_phys.specs.Memory.{ram_size}
use Rattle.sv8_cpu.specs.State.{State}
use Rattle.sv8_cpu.specs.Run.{step}
use Rattle.sv8_step_laws.proofs.Common.{ram_stays_long}
use Rattle.sv8_workbench.specs.Kept.{Kept}
use Rattle.sv8_workbench.specs.Shown.{machine_state}
use Rattle.sv8_watch.specs.declared.condition.Condition.{Condition}
use Rattle.sv8_watch.specs.declared.condition.Condition.TheVariants.{Pc, Load, Store, Touch, Change, Trap, TrapType, Error, Input, Output, Event, Every}
use Rattle.sv8_watch.specs.Conditions.{differ_from, bytes_from, meets, meets_any}
use Rattle.sv8_search.specs.Search.{is_inside, are_inside, is_wanted, old_of, olds_of}
use Rattle.sv8_search.proofs.Searching.{next_state}

equal_byte : (a b : ℕ) → not (a == b) ≡ false → a ≡ b
equal_byte a b h = grind (arith, nat_tests, h)

same_bytes : (count address : ℕ) (ram now : List ℕ) → address + count ≤ length ram → address + count ≤ length now → differ_from (take count (drop address ram)) address now ≡ false
    → take count (drop address ram) ≡ take count (drop address now)
same_bytes zero address ram now long longer h = refl
same_bytes (suc count) address ram now long longer h =
    let next : suc address ≡ address + 1 = omega arith in
    let first = drop-cons ram address 0 (omega (arith, long)) in
    let second = drop-cons now address 0 (omega (arith, longer)) in
    let apart = ap (λ bs. differ_from (take (suc count) bs) address now) (sym first) ∙ h in
    let both = or_parts (not (get_or ram address 0 == get_or now address 0)) (differ_from (take count (drop (suc address) ram)) (address + 1) now) apart in
    let byte = equal_byte (get_or ram address 0) (get_or now address 0) both.0 in
    let behind = ap (λ at. differ_from (take count (drop at ram)) (address + 1) now) (sym next) ∙ both.1 in
    let others = same_bytes count (address + 1) ram now (omega (arith, long)) (omega (arith, longer)) behind in
    ap (take (suc count)) first ∙ ap₂ (λ b bs. b ∷ bs) byte (ap (λ at. take count (drop at ram)) next ∙ others ∙ ap (λ at. take count (drop at now)) (sym next))
    ∙ ap (take (suc count)) (sym second)

module _ (windows pages : ℕ) (schedule : Schedule) (n : ℕ) (s : State) (after : State) where
  old_stays : (c : Condition) → after ≡ step windows pages schedule n s → is_inside (ram_size pages) c ≡ true → length s.memory.ram ≡ ram_size pages
      → length after.memory.ram ≡ ram_size pages → meets windows pages schedule n s c ≡ false → old_of c s.memory.ram ≡ old_of c after.memory.ram
  old_stays (Pc address) is inside size longer h = refl
  old_stays (Load address count) is inside size longer h = refl
  old_stays (Store address count) is inside size longer h = refl
  old_stays (Touch address) is inside size longer h = refl
  old_stays (Change address count) is inside size longer h =
      let all : address + count ≤ ram_size pages = leb-true (address + count) (ram_size pages) inside in
      let there = ap (λ (t : State). differ_from (bytes_from address count s.memory.ram) address t.memory.ram) is ∙ h in
      same_bytes count address s.memory.ram after.memory.ram (omega (arith, all, size)) (omega (arith, all, longer)) there
  old_stays Trap is inside size longer h = refl
  old_stays (TrapType type) is inside size longer h = refl
  old_stays Error is inside size longer h = refl
  old_stays Input is inside size longer h = refl
  old_stays Output is inside size longer h = refl
  old_stays Event is inside size longer h = refl
  old_stays (Every number) is inside size longer h = refl

  -- a step that meets none leaves all of them
  pub olds_stay : (cs : List Condition) → after ≡ step windows pages schedule n s → are_inside (ram_size pages) cs ≡ true → length s.memory.ram ≡ ram_size pages
      → length after.memory.ram ≡ ram_size pages → list_any (meets windows pages schedule n s) cs ≡ false → olds_of cs s.memory.ram ≡ olds_of cs after.memory.ram
  olds_stay [] is inside size longer h = refl
  olds_stay (c ∷ cs) is inside size longer h =
      let within = and_parts (is_inside (ram_size pages) c) (are_inside (ram_size pages) cs) inside in
      let missed = or_parts (meets windows pages schedule n s c) (list_any (meets windows pages schedule n s) cs) h in
      ap₂ (λ xs ys. xs ++ ys) (old_stays c is within.0 size longer missed.0) (olds_stay cs is within.1 size longer missed.1)

-- several steps of which none is wanted
module _ (kept : Kept) (cs : List Condition) (inside : are_inside (ram_size kept.pages) cs ≡ true) where
  none_met : (n : ℕ) → is_wanted kept cs n ≡ false → list_any (meets kept.windows kept.pages kept.timeline n (machine_state kept n)) cs ≡ false
  none_met n h = by_conditions cs h
    where
      by_conditions : (all : List Condition) → meets_any kept.windows kept.pages kept.timeline n (machine_state kept n) all ≡ false
          → list_any (meets kept.windows kept.pages kept.timeline n (machine_state kept n)) all ≡ false
      by_conditions [] h = refl
      by_conditions (c ∷ others) h = h

  long : (n : ℕ) → length (machine_state kept n).memory.ram ≡ ram_size kept.pages → length (machine_state kept (n + 1)).memory.ram ≡ ram_size kept.pages
  long n size =
      ap (λ (s : State). length s.memory.ram) (next_state kept n) ∙ ram_stays_long kept.windows kept.pages kept.timeline n (machine_state kept n) ∙ size

  pub olds_pass : (more n : ℕ) → length (machine_state kept n).memory.ram ≡ ram_size kept.pages → ((i : ℕ) → n ≤ i → i < n + more → is_wanted kept cs i ≡ false)
      → olds_of cs (machine_state kept n).memory.ram ≡ olds_of cs (machine_state kept (n + more)).memory.ram
  olds_pass zero n size none =
      let same : n ≡ n + 0 = omega arith in
      ap (λ i. olds_of cs (machine_state kept i).memory.ram) same
  olds_pass (suc more) n size none =
      let there : n + 1 + more ≡ n + suc more = omega arith in
      olds_stay kept.windows kept.pages kept.timeline n (machine_state kept n) (machine_state kept (n + 1)) cs (next_state kept n) inside size (long n size)
      (none_met n (none n (omega arith) (omega arith)))
      ∙ olds_pass more (n + 1) (long n size) (λ i low high. none i (omega (arith, low)) (omega (arith, high)))
      ∙ ap (λ i. olds_of cs (machine_state kept i).memory.ram) there
