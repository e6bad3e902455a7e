-- What stands at its place already: set again, it leaves the timeline as it is.
use Rattle.std.proofs.Common.{◌≡◌, ◌∙◌, ℕ, ◌+◌, ◌<◌, ◌==◌, Bool, true, false, not, List, [], ◌∷◌, ◌++◌, length, Option, Some, None, option_map, refl, sym, ap, subst, arith}
use Rattle.std.specs.Prelude.{◌/◌, ◌%◌, ◌^◌, ◌&&◌, bytes_eq, slice_index_or, flat_map}
use Rattle.std.specs.List.{filter, find, list_any, range_with_len}
use Rattle.std.specs.Cmp.{IsStrictWeakOrder}
use Rattle.std.proofs.lemmas.Bool.{false_from_ne_true}
use Rattle.std.proofs.lemmas.Bool.Decides.{nat_tests}
use Rattle.std.proofs.lemmas.List.{append-nil}
use Rattle.std.proofs.lemmas.Slice.Eq.{bytes_eq-Decides}
use Rattle.sv8_phys.specs.Memory.{ram_size}
use Rattle.sv8_source.specs.Image.{image_bytes}
use Rattle.sv8_time.specs.Order.{Each, Rising, placed}
use Rattle.sv8_time.specs.declared.requests.Request.{Request}
use Rattle.sv8_time.specs.Schedule.{Schedule, BytePoke, Input, poke_of, poke_before, is_poke_at, request_of, request_before, is_request_at, input_of, input_before, is_input_at, input_bytes, bytes_of_step, with_poke_byte}
use Rattle.sv8_time.proofs.Common.{IsSame, others, behind, filter_none, key_order, input_order, same_place, split}
use Rattle.sv8_edits.specs.Changes.{poked_with, poke_byte_changes, image_byte_changes}
use Rattle.sv8_edits.specs.EditLaws.{StandingBytes, StandingWords, StandingRequests, StandingInputs, StandingSources, OtherInputs}
use Rattle.sv8_edits.proofs.EditedLists.{found_passes}

-- ---- one element stands at a place

not_first : (a b t : Bool) → t ≡ (not a && not b) → t ≡ true → a ≡ false
not_first a b t h e = grind arith

module _ {X : Type 0} (before : X → X → Bool) (same : X → Bool) (k : X) (order : IsStrictWeakOrder before) (place : IsSame before same k) where
  -- nothing behind an element at the place stands there too
  none_behind : (x : X) (xs : List X) → Each (λ y. before x y ≡ true) xs → same x ≡ true → filter same xs ≡ []
  none_behind x xs h e =
      filter_none same xs (others before same k place xs (behind before order k x xs h (not_first (before x k) (before k x) (same x) (place x) e)))

  alone : (xs : List X) (z : X) → Rising before xs → find same xs ≡ Some z → filter same xs ≡ z ∷ []
  alone [] z h e = absurd cc
  alone (x ∷ xs) z h e = go (alone xs z h.1) (same x) refl
    where
      go : (find same xs ≡ Some z → filter same xs ≡ z ∷ []) → (b : Bool) → same x ≡ b → filter same (x ∷ xs) ≡ z ∷ []
      go rest true t = let first : Some x ≡ Some z = rw t at e in let it : x ≡ z = cc in rw (t, none_behind x xs h.0 t) (ap (λ y. y ∷ []) it)
      go rest false t = let later : find same xs ≡ Some z = rw t at e in rw t (rest later)

  -- what stands is placed where it stands
  placed_again : (xs : List X) → Rising before xs → find same xs ≡ Some k → placed before k xs ≡ xs
  placed_again xs h e = sym (split before same k order place xs h ∙ ap (λ l. filter (λ y. before y k) xs ++ (l ++ filter (λ y. before k y) xs)) (alone xs k h e))

-- ---- pokes

value_is : (o : Option BytePoke) (value : ℕ) → option_map (λ p. p.value) o ≡ Some value → (p : BytePoke) → o ≡ Some p → p.value ≡ value
value_is o value e p f = let there : Some p.value ≡ Some value = rw f at e in cc

some_there : (o : Option BytePoke) (value : ℕ) → option_map (λ p. p.value) o ≡ Some value → (p : BytePoke) × (o ≡ Some p)
some_there None value e = absurd cc
some_there (Some p) value e = (p, refl)

both_parts : (a b c d : ℕ) → (a == c && b == d) ≡ true → (a ≡ c) × (b ≡ d)
both_parts a b c d e = (grind (arith, nat_tests), grind (arith, nat_tests))

poke_is : (p : BytePoke) (step address value : ℕ) → p.step ≡ step → p.address ≡ address → p.value ≡ value → p ≡ poke_of step address value
poke_is p step address value e f g = rw (← e, ← f, ← g) refl

found_poke : (step address value : ℕ) (s : Schedule) → poked_with step address s ≡ Some value → find (is_poke_at step address) s.pokes ≡ Some (poke_of step address value)
found_poke step address value s e =
    let it = some_there (find (is_poke_at step address) s.pokes) value e in
    let there = both_parts it.0.step it.0.address step address (found_passes (is_poke_at step address) s.pokes it.0 it.1) in
    it.1 ∙ ap (λ p. Some p) (poke_is it.0 step address value there.0 there.1 (value_is (find (is_poke_at step address) s.pokes) value e it.0 it.1))

again_byte : (s : Schedule) → Rising poke_before s.pokes → (step address value : ℕ) → poked_with step address s ≡ Some value → with_poke_byte step address value s ≡ s
again_byte s rise step address value e =
    ap (λ ps. record s { pokes = ps })
    (placed_again poke_before (is_poke_at step address) (poke_of step address value) (key_order (λ p. p.step) (λ p. p.address)) (λ p. same_place p.step p.address step address) s.pokes rise
    (found_poke step address value s e))

same_value : (v : ℕ) → (v == v) ≡ true
same_value v = grind (arith, nat_tests)

no_change : (windows pages step address value : ℕ) (s : Schedule) → poked_with step address s ≡ Some value → poke_byte_changes windows pages step address value s ≡ []
no_change windows pages step address value s e = rw (e, same_value value) refl

pub standing_bytes : StandingBytes
standing_bytes windows pages s timeline step address value e = (again_byte s timeline.pokes_rise step address value e, no_change windows pages step address value s e)

all_none : {X : Type 0} (a b c d : List X) → a ≡ [] → b ≡ [] → c ≡ [] → d ≡ [] → (a ++ b ++ c ++ d) ≡ []
all_none a b c d e f g h = rw (e, f, g, h) refl

pub standing_words : StandingWords
standing_words windows pages s timeline step address value a b c d =
    let rise = timeline.pokes_rise in
    let first = value / 2 ^ 24 % 2 ^ 8 in
    let second = value / 2 ^ 16 % 2 ^ 8 in
    let third = value / 2 ^ 8 % 2 ^ 8 in
    let fourth = value % 2 ^ 8 in (
      ap (λ t. with_poke_byte step (address + 3) fourth (with_poke_byte step (address + 2) third (with_poke_byte step (address + 1) second t))) (again_byte s rise step address first a)
          ∙ ap (λ t. with_poke_byte step (address + 3) fourth (with_poke_byte step (address + 2) third t)) (again_byte s rise step (address + 1) second b)
          ∙ ap (λ t. with_poke_byte step (address + 3) fourth t) (again_byte s rise step (address + 2) third c) ∙ again_byte s rise step (address + 3) fourth d,
      all_none (poke_byte_changes windows pages step address first s) (poke_byte_changes windows pages step (address + 1) second s) (poke_byte_changes windows pages step (address + 2) third s)
          (poke_byte_changes windows pages step (address + 3) fourth s) (no_change windows pages step address first s a) (no_change windows pages step (address + 1) second s b)
          (no_change windows pages step (address + 2) third s c) (no_change windows pages step (address + 3) fourth s d),
    )

-- ---- requests

found_request : (p : Request → Bool) (rs : List Request) → list_any p rs ≡ true → (r : Request) × (find p rs ≡ Some r)
found_request p [] e = absurd cc
found_request p (r ∷ rs) e = go (found_request p rs) (p r) refl
  where
    go : (list_any p rs ≡ true → (x : Request) × (find p rs ≡ Some x)) → (b : Bool) → p r ≡ b → (x : Request) × (find p (r ∷ rs) ≡ Some x)
    go rest true t = (r, rw t refl)
    go rest false t = let later : list_any p rs ≡ true = rw t at e in let it = rest later in (it.0, rw t it.1)

request_is : (r : Request) (step level : ℕ) → r.step ≡ step → r.level ≡ level → r ≡ request_of step level
request_is r step level e f = rw (← e, ← f) refl

pub standing_requests : StandingRequests
standing_requests windows pages s timeline step level e =
    let it = found_request (is_request_at step level) s.requests e in
    let there = both_parts it.0.step it.0.level step level (found_passes (is_request_at step level) s.requests it.0 it.1) in (
      ap (λ rs. record s { requests = rs })
          (placed_again request_before (is_request_at step level) (request_of step level) (key_order (λ r. r.step) (λ r. r.level)) (λ r. same_place r.step r.level step level) s.requests timeline.requests_rise
          (it.1 ∙ ap (λ r. Some r) (request_is it.0 step level there.0 there.1))),
      rw e refl,
    )

-- ---- inputs

found_input : (step : ℕ) (is : List Input) → 0 < length (bytes_of_step step is) → (i : Input) × (find (is_input_at step) is ≡ Some i)
found_input step [] l = absurd (omega (arith, l))
found_input step (i ∷ is) l = go (found_input step is) (is_input_at step i) refl
  where
    go : (0 < length (bytes_of_step step is) → (x : Input) × (find (is_input_at step) is ≡ Some x)) → (b : Bool) → is_input_at step i ≡ b → (x : Input) × (find (is_input_at step) (i ∷ is) ≡ Some x)
    go rest true t = (i, rw t refl)
    go rest false t = let later : 0 < length (bytes_of_step step is) = rw t at l in let it = rest later in (it.0, rw t it.1)

input_place : (step : ℕ) (bytes : List ℕ) → IsSame input_before (is_input_at step) (input_of step bytes)
input_place step bytes i = grind (arith, nat_tests)

input_is : (i : Input) (step : ℕ) (bytes : List ℕ) → i.step ≡ step → i.bytes ≡ bytes → i ≡ input_of step bytes
input_is i step bytes e f = rw (← e, ← f) refl

pub standing_inputs : StandingInputs
standing_inputs s timeline step bytes some e =
    let it = found_input step s.inputs (subst (λ bs. 0 < length bs) (sym e) some) in
    let only = alone input_before (is_input_at step) (input_of step bytes) input_order (input_place step bytes) s.inputs it.0 timeline.inputs_rise it.1 in
    let bytes_are : it.0.bytes ≡ bytes = sym (append-nil it.0.bytes) ∙ sym (ap input_bytes only) ∙ e in
    let passed = found_passes (is_input_at step) s.inputs it.0 it.1 in
    let at : it.0.step ≡ step = grind (arith, nat_tests) in (
      ap (λ is. record s { inputs = is })
          (placed_again input_before (is_input_at step) (input_of step bytes) input_order (input_place step bytes) s.inputs timeline.inputs_rise
          (it.1 ∙ ap (λ i. Some i) (input_is it.0 step bytes at bytes_are))),
      rw ((bytes_eq-Decides (bytes_of_step step s.inputs) bytes).1 e) refl,
    )

pub other_inputs : OtherInputs
other_inputs s step bytes other =
    rw (false_from_ne_true (bytes_eq (bytes_of_step step s.inputs) bytes) (λ t. other ((bytes_eq-Decides (bytes_of_step step s.inputs) bytes).0 t))) refl

-- ---- the source

no_byte_changes : (windows pages : ℕ) (old new : List ℕ) (s : Schedule) → old ≡ new → (addresses : List ℕ)
    → flat_map (λ a. image_byte_changes windows pages a (slice_index_or old a 0) (slice_index_or new a 0) s) addresses ≡ []
no_byte_changes windows pages old new s e [] = refl
no_byte_changes windows pages old new s e (a ∷ addresses) =
    let same : (slice_index_or old a 0 == slice_index_or new a 0) ≡ true = rw e (same_value (slice_index_or new a 0)) in
    rw same (no_byte_changes windows pages old new s e addresses)

pub standing_sources : StandingSources
standing_sources windows pages source source' s e =
    no_byte_changes windows pages (image_bytes source (ram_size pages)) (image_bytes source' (ram_size pages)) s e (range_with_len 0 (ram_size pages))
