-- Intervals of a falling search that are passed over.
use Rattle.std.proofs.Common.{◌≡◌, ◌∙◌, ℕ, zero, suc, ◌+◌, ◌-◌, ◌%◌, ◌<◌, ◌≤◌, ◌==◌, ◌||◌, Bool, true, false, nat_le, MatchBool, List, [], ◌∷◌, ◌++◌, length, map, take, reverse, Some, None, if◌then◌else◌, refl, sym, ap, append-nil, arith}
use Rattle.std.proofs.lemmas.Bool.{leb-true, and_parts, false≢true}
use Rattle.std.specs.List.{list_any}
use Rattle.sv8_time.specs.Schedule.{Schedule}
use Rattle.sv8_phys.specs.Memory.{ram_size}
use Rattle.sv8_cpu.specs.State.{State}
use Rattle.sv8_watch.specs.declared.condition.Condition.{Condition}
use Rattle.sv8_watch.specs.declared.condition.Condition.TheVariants.{Pc, Load, Store, Touch, Change, Trap, TrapType, Error, Input, Output, Event, Every}
use Rattle.sv8_watch.specs.declared.span.Span.{Span}
use Rattle.sv8_watch.specs.Conditions.{meets, meets_any}
use Rattle.sv8_watch.specs.Touching.{some_bytes, word_span, span_of, kind_of}
use Rattle.sv8_watch.proofs.Sparing.{spared_steps_miss, spared_pcs_miss}
use Rattle.sv8_workbench.specs.Kept.{Kept}
use Rattle.sv8_workbench.specs.Shown.{machine_state}
use Rattle.sv8_search.specs.Touching.{IsUntouched, IsUnreached}
use Rattle.sv8_bench.specs.Workbench.{Workbench}
use Rattle.sv8_search.specs.Search.{is_inside, is_wanted, rising}

module _ (wanted : ℕ → Bool) where
  pub none_of : (size n most : ℕ) → ((i : ℕ) → n ≤ i → i < n + size → wanted i ≡ false) → rising wanted n size most ≡ []
  none_of zero n most none = refl
  none_of (suc size) n zero none = refl
  none_of (suc size) n (suc most) none =
      rw (none n (omega arith) (omega arith)) (none_of size (n + 1) (suc most) (λ i low below. none i (omega (arith, low)) (omega (arith, below))))

  -- no step of a range is wanted
  pub none_rising : (from to : ℕ) → ((n : ℕ) → from ≤ n → n < to → wanted n ≡ false) → rising wanted from (to - from) (to - from) ≡ []
  none_rising from to none = none_of (to - from) from (to - from) (λ i low below. none i low (omega (arith, low, below)))

-- so nothing is found in it
pub passed_found : {A : Type 0} (f : ℕ → A) (found : List A) (steps : List ℕ) (most : ℕ) → steps ≡ [] → found ≡ found ++ map f (take most (reverse steps))
passed_found f found steps most e =
    sym (append-nil found) ∙ ap (λ (xs : List ℕ). found ++ map f xs) (sym (nothing most)) ∙ ap (λ (xs : List ℕ). found ++ map f (take most (reverse xs))) (sym e)
  where
    nothing : (m : ℕ) → take m (reverse {A = ℕ} []) ≡ []
    nothing zero = refl
    nothing (suc m) = refl

-- ---- what the notes show

-- the bytes of a condition lie in RAM
same_span : (a b : Span) → Some a ≡ Some b → a ≡ b
same_span a b e = cc

none_span : (a : Span) → None ≡ Some a → ⊥
none_span a e = cc

module _ (size : ℕ) (span : Span) where
  inside_bytes : (address count : ℕ) → nat_le (address + count) size ≡ true → some_bytes address count ≡ Some span → span.address + span.count ≤ size
  inside_bytes address count inside e = go (count == 0) e where
    go : (b : Bool) → (if b then None else Some (record { address = address; count = count })) ≡ Some span → span.address + span.count ≤ size
    go true f = absurd (none_span span f)
    go false f =
        let is = same_span (record { address = address; count = count }) span f in
        let first : address ≡ span.address = ap (λ (s : Span). s.address) is in
        let many : count ≡ span.count = ap (λ (s : Span). s.count) is in
        let all : address + count ≤ size = leb-true (address + count) size inside in
        omega (arith, first, many, all)

  inside_word : (address : ℕ) → nat_le (address + 4) size ≡ true → word_span address ≡ Some span → span.address + span.count ≤ size
  inside_word address inside e = go (address % 4 == 0) e where
    go : (b : Bool) → (if b then some_bytes address 4 else None) ≡ Some span → span.address + span.count ≤ size
    go true f = inside_bytes address 4 inside f
    go false f = absurd (none_span span f)

  pub inside_span : (c : Condition) → is_inside size c ≡ true → span_of c ≡ Some span → span.address + span.count ≤ size
  inside_span (Pc address) h e = absurd (none_span span e)
  inside_span (Load address count) h e = inside_bytes address count h e
  inside_span (Store address count) h e = inside_bytes address count h e
  inside_span (Touch address) h e = inside_word address (and_parts (address % 4 == 0) (nat_le (address + 4) size) h).1 e
  inside_span (Change address count) h e = inside_bytes address count h e
  inside_span Trap h e = absurd (none_span span e)
  inside_span (TrapType tt) h e = absurd (none_span span e)
  inside_span Error h e = absurd (none_span span e)
  inside_span Input h e = absurd (none_span span e)
  inside_span Output h e = absurd (none_span span e)
  inside_span Event h e = absurd (none_span span e)
  inside_span (Every number) h e = absurd (none_span span e)

untouched : (b : Bool) (P : Type 0) → MatchBool b P (P → ⊥) → b ≡ true → P
untouched true P h e = h
untouched false P h e = cc

module _ (k : ℕ) (w : Workbench) (c : Condition) (span : Span) (from to : ℕ) (b : Bool) (h : MatchBool b (IsUntouched (kind_of c) k w span.address span.count from to) (IsUntouched (kind_of c) k w span.address span.count from to → ⊥))
    (e : b ≡ true) where
  pub none_spared : w.kept.pages ≤ 65536 → Some span ≡ span_of c → span.address + span.count ≤ ram_size w.kept.pages → (n : ℕ) → from ≤ n → n < to
      → meets w.kept.windows w.kept.pages w.kept.timeline n (machine_state w.kept n) c ≡ false
  none_spared few is inside n low below =
      let kept = w.kept in
      let all = untouched b (IsUntouched (kind_of c) k w span.address span.count from to) h e in
      spared_steps_miss kept.windows kept.pages kept.timeline n (machine_state kept n) c span few (sym is) inside (all.spared n low below)

-- no instruction at an address is reached
shown : (b : Bool) (P Q : Type 0) → MatchBool b P Q → b ≡ true → P
shown true P Q h e = h
shown false P Q h e = cc

module _ (k : ℕ) (w : Workbench) (address from to : ℕ) (b : Bool) (Q : Type 0) (h : MatchBool b (IsUnreached k w address from to) Q) (e : b ≡ true) where
  pub none_reached : address + 4 ≤ ram_size w.kept.pages → (n : ℕ) → from ≤ n → n < to
      → meets w.kept.windows w.kept.pages w.kept.timeline n (machine_state w.kept n) (Pc address) ≡ false
  none_reached inside n low below =
      let kept = w.kept in
      let all = shown b (IsUnreached k w address from to) Q h e in
      spared_pcs_miss kept.windows kept.pages kept.timeline n (machine_state kept n) address (all.untranslated n low below) inside (all.untouched.spared n low below)

-- of several conditions none is met where the first is not and none of the others
pub none_of_all : (test : Condition → Bool) (first : Condition) (others all : List Condition) → all ≡ first ∷ others → test first ≡ false → list_any test others ≡ false → list_any test all ≡ false
none_of_all test first others all whole one rest = ap (list_any test) whole ∙ neither (test first) (list_any test others) one rest where
  neither : (x y : Bool) → x ≡ false → y ≡ false → (x || y) ≡ false
  neither true y e f = absurd (false≢true (sym e))
  neither false y e f = f

-- .. so the step meets none, where there is a condition
pub none_met : (windows pages : ℕ) (schedule : Schedule) (n : ℕ) (s : State) (conditions : List Condition) → 1 ≤ length conditions
    → list_any (meets windows pages schedule n s) conditions ≡ false → meets_any windows pages schedule n s conditions ≡ false
none_met windows pages schedule n s [] some e = absurd (omega (arith, some))
none_met windows pages schedule n s (first ∷ others) some e = e

pub none_wanted : (kept : Kept) (conditions : List Condition) (n : ℕ) → 1 ≤ length conditions
    → list_any (meets kept.windows kept.pages kept.timeline n (machine_state kept n)) conditions ≡ false → is_wanted kept conditions n ≡ false
none_wanted kept conditions n some e = none_met kept.windows kept.pages kept.timeline n (machine_state kept n) conditions some e
