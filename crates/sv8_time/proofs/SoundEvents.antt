-- What edits keep of a timeline, and what holds of its events.
use Rattle.std.proofs.Common.{◌≡◌, refl, sym, ap, subst, arith, ℕ, ◌+◌, ◌%◌, ◌<◌, ◌≤◌, Bool, true, false, not, cond, ◌&&◌, ◌||◌, nat_lt, nat_le, ◌==◌, List, [], ◌∷◌, length, Option, Some, None}
use Rattle.std.specs.List.{list_any}
use Rattle.std.proofs.lemmas.Bool.{false_from_ne_true, both_ways, eqb-true, ltb-false, ltb-true, leb-true}
use Rattle.std.proofs.lemmas.Bool.Decides.{nat_tests}
use Rattle.sv8_time.specs.declared.fault.TimeFault.{TimeFault}
use Rattle.sv8_time.specs.declared.fault.TimeFault.TheVariants.{StepTooLarge, BadAddress, BadLevel, NothingThere, TooManyEvents, InputTooLong}
use Rattle.sv8_time.specs.declared.requests.Request.{Request}
use Rattle.sv8_time.specs.declared.words.WordPoke.{WordPoke}
use Rattle.sv8_time.specs.Order.{Each, Rising}
use Rattle.sv8_time.specs.Marks.{is_marked, Covers}
use Rattle.sv8_time.specs.Schedule.{BytePoke, Input, Schedule, poke_of, input_of, has_poke, has_word, has_input, has_request, word_count, put_poke, put_input, put_request, cut_poke, cut_input, cut_request, poke_before, input_before, request_before, is_poke_at, is_input_at, is_request_at, event_count, is_one_too_many, is_word, is_level, set_poke_fault, set_poke_byte_fault, set_input_fault, set_request_fault, clear_poke_fault, clear_poke_byte_fault, clear_input_fault, clear_request_fault, pokes_of_step, requests_of_step, bytes_of_step, input_bytes, IsPokePlace, IsInputPlace, IsRequestPlace}
use Rattle.sv8_time.specs.Words.{bytes_of_words, is_poked, IsWordIn}
use Rattle.sv8_time.specs.Timeline.{Sound}
use Rattle.sv8_time.proofs.Orders.{key_order, input_order}
use Rattle.sv8_time.proofs.Parts.{each_map, each_placed, each_filter, filter_none, rising_placed, rising_filter}
use Rattle.sv8_time.proofs.WordPlaces.{words_in}

-- what a call without a fault tells

third_none : (a b c : Bool) (x y z : TimeFault) → cond a (Some x) (cond b (Some y) (cond c (Some z) None)) ≡ None → c ≡ false
third_none true b c x y z e = absurd (cc)
third_none false true c x y z e = absurd (cc)
third_none false false true x y z e = absurd (cc)
third_none false false false x y z e = refl

second_none : (a b c : Bool) (x y z : TimeFault) → cond a (Some x) (cond b (Some y) (cond c (Some z) None)) ≡ None → b ≡ false
second_none true b c x y z e = absurd (cc)
second_none false true c x y z e = absurd (cc)
second_none false false c x y z e = refl

first_none : (a : Bool) (x : TimeFault) (o : Option TimeFault) → cond a (Some x) o ≡ None → a ≡ false
first_none true x o e = absurd (cc)
first_none false x o e = refl

two_none : (a b : Bool) (x y : TimeFault) → cond a (Some x) (cond b (Some y) None) ≡ None → b ≡ false
two_none true b x y e = absurd (cc)
two_none false true x y e = absurd (cc)
two_none false false x y e = refl

not_not : (b : Bool) → not b ≡ false → b ≡ true
not_not true e = refl
not_not false e = absurd (cc)

word_parts : (a limit : ℕ) → is_word a limit ≡ true → (a % 4 ≡ 0) × (a + 4 ≤ limit)
word_parts a limit h = (eqb-true (a % 4) 0 (left (a % 4 == 0) (nat_le (a + 4) limit) h), leb-true (a + 4) limit (right (a % 4 == 0) (nat_le (a + 4) limit) h))
  where
    left : (p q : Bool) → (p && q) ≡ true → p ≡ true
    left true q e = refl
    left false q e = absurd (cc)

    right : (p q : Bool) → (p && q) ≡ true → q ≡ true
    right true q e = e
    right false q e = absurd (cc)

word_of_fault : (step address : ℕ) (s : Schedule) (b : Bool) (f : TimeFault) → cond (nat_lt 1000000 step) (Some StepTooLarge) (cond (not (is_word address s.limit)) (Some BadAddress) (cond b (Some f) None)) ≡ None → (address % 4 ≡ 0) × (address + 4 ≤ s.limit)
word_of_fault step address s b f e = word_parts address s.limit (not_not (is_word address s.limit) (second_none (nat_lt 1000000 step) (not (is_word address s.limit)) b StepTooLarge BadAddress f e))

pub poke_aligned : (step address : ℕ) (s : Schedule) → set_poke_fault step address s ≡ None → address % 4 ≡ 0
poke_aligned step address s e = (word_of_fault step address s (is_one_too_many (has_word step address s.pokes) s) TooManyEvents e).0

pub clear_aligned : (step address : ℕ) (s : Schedule) → clear_poke_fault step address s ≡ None → address % 4 ≡ 0
clear_aligned step address s e = (word_of_fault step address s (not (has_word step address s.pokes)) NothingThere e).0

pub word_stands : (step address : ℕ) (s : Schedule) → clear_poke_fault step address s ≡ None → has_word step address s.pokes ≡ true
word_stands step address s e = not_not (has_word step address s.pokes) (third_none (nat_lt 1000000 step) (not (is_word address s.limit)) (not (has_word step address s.pokes)) StepTooLarge BadAddress NothingThere e)

pub byte_stands : (step address : ℕ) (s : Schedule) → clear_poke_byte_fault step address s ≡ None → has_poke step address s.pokes ≡ true
byte_stands step address s e = not_not (has_poke step address s.pokes) (third_none (nat_lt 1000000 step) (not (nat_lt address s.limit)) (not (has_poke step address s.pokes)) StepTooLarge BadAddress NothingThere e)

pub input_stands : (step : ℕ) (s : Schedule) → clear_input_fault step s ≡ None → has_input step s.inputs ≡ true
input_stands step s e = not_not (has_input step s.inputs) (two_none (nat_lt 1000000 step) (not (has_input step s.inputs)) StepTooLarge NothingThere e)

pub request_stands : (step level : ℕ) (s : Schedule) → clear_request_fault step level s ≡ None → has_request step level s.requests ≡ true
request_stands step level s e = not_not (has_request step level s.requests) (third_none (nat_lt 1000000 step) (not (is_level level)) (not (has_request step level s.requests)) StepTooLarge BadLevel NothingThere e)

-- marks

covered : {X : Type 0} (step : X → ℕ) (m n : List Bool) → Covers m n → (xs : List X) → Each (λ x. is_marked m (step x) ≡ true) xs → Each (λ x. is_marked n (step x) ≡ true) xs
covered step m n c xs h = each_map (λ x. is_marked m (step x) ≡ true) (λ x. is_marked n (step x) ≡ true) (λ x e. c (step x) e) xs h

pub sound_covers : (m n : List Bool) (s : Schedule) → Covers m n → Sound m s → Sound n s
sound_covers m n s c h = record {
  timeline = h.timeline;
  pokes_marked = covered (λ p. p.step) m n c s.pokes h.pokes_marked;
  inputs_marked = covered (λ i. i.step) m n c s.inputs h.inputs_marked;
  requests_marked = covered (λ r. r.step) m n c s.requests h.requests_marked;
}

-- one more event has a place

one_more : (n k : ℕ) (b : Bool) → n ≤ 65536 → (nat_le 65536 n && not b) ≡ false → k ≡ cond b n (n + 1) → k ≤ 65536
one_more n k true h e f = omega arith
one_more n k false h e f = grind (arith, nat_tests)

plus : (a b n : ℕ) (c : Bool) → n ≡ cond c a (a + 1) → n + b ≡ cond c (a + b) (a + b + 1)
plus a b n true e = omega arith
plus a b n false e = omega arith

plus_left : (a b n : ℕ) (c : Bool) → n ≡ cond c a (a + 1) → b + n ≡ cond c (b + a) (b + a + 1)
plus_left a b n true e = omega arith
plus_left a b n false e = omega arith

abbrev with_pokes : List BytePoke → Schedule → Schedule
with_pokes new s = record { limit = s.limit; pokes = new; inputs = s.inputs; requests = s.requests }

abbrev with_inputs : List Input → Schedule → Schedule
with_inputs new s = record { limit = s.limit; pokes = s.pokes; inputs = new; requests = s.requests }

abbrev with_requests : List Request → Schedule → Schedule
with_requests new s = record { limit = s.limit; pokes = s.pokes; inputs = s.inputs; requests = new }

-- poked bytes

-- what is kept by poking a byte
record Fit (m : List Bool) (limit : ℕ) (pokes : List BytePoke) : Type 0 where
  pub rise : Rising poke_before pokes
  pub places : Each (IsPokePlace limit) pokes
  pub marked : Each (λ p. is_marked m p.step ≡ true) pokes

fit_put : (m : List Bool) (limit step address value : ℕ) (pokes : List BytePoke) → step ≤ 1000000 → address < limit → value < 256 → is_marked m step ≡ true → Fit m limit pokes → Fit m limit (put_poke (poke_of step address value) pokes)
fit_put m limit step address value pokes a b v e h = record {
  rise = rising_placed poke_before (key_order (λ p. p.step) (λ p. p.address)) (poke_of step address value) pokes h.rise;
  places = each_placed (IsPokePlace limit) poke_before (poke_of step address value) pokes (a, b, v) h.places;
  marked = each_placed (λ p. is_marked m p.step ≡ true) poke_before (poke_of step address value) pokes e h.marked;
}

fit_cut : (m : List Bool) (limit step address : ℕ) (pokes : List BytePoke) → Fit m limit pokes → Fit m limit (cut_poke step address pokes)
fit_cut m limit step address pokes h = record {
  rise = rising_filter poke_before (λ p. not (is_poke_at step address p)) pokes h.rise;
  places = each_filter (IsPokePlace limit) (λ p. not (is_poke_at step address p)) pokes h.places;
  marked = each_filter (λ p. is_marked m p.step ≡ true) (λ p. not (is_poke_at step address p)) pokes h.marked;
}

fit_of : (m n : List Bool) (s : Schedule) → Covers m n → Sound m s → Fit n s.limit s.pokes
fit_of m n s c h = record { rise = h.timeline.pokes_rise; places = h.timeline.poke_places; marked = covered (λ p. p.step) m n c s.pokes h.pokes_marked }

same_covers : (m : List Bool) → Covers m m
same_covers m = λ step e. e

sound_fit : (m n : List Bool) (s : Schedule) (new : List BytePoke) → Covers m n → Sound m s → Fit n s.limit new → word_count new + length s.inputs + length s.requests ≤ 65536 → Sound n (with_pokes new s)
sound_fit m n s new c h f l = record {
  timeline = record { pokes_rise = f.rise; poke_places = f.places; inputs_rise = h.timeline.inputs_rise; input_places = h.timeline.input_places; requests_rise = h.timeline.requests_rise; request_places = h.timeline.request_places; few = l };
  pokes_marked = f.marked;
  inputs_marked = covered (λ i. i.step) m n c s.inputs h.inputs_marked;
  requests_marked = covered (λ r. r.step) m n c s.requests h.requests_marked;
}

poke_few : (s : Schedule) (step address : ℕ) (new : List BytePoke) → event_count s ≤ 65536 → is_one_too_many (has_word step address s.pokes) s ≡ false → word_count new ≡ cond (has_word step address s.pokes) (word_count s.pokes) (word_count s.pokes + 1)
    → word_count new + length s.inputs + length s.requests ≤ 65536
poke_few s step address new h e k = one_more (event_count s) (word_count new + length s.inputs + length s.requests) (has_word step address s.pokes) h e
    (plus (word_count s.pokes + length s.inputs) (length s.requests) (word_count new + length s.inputs) (has_word step address s.pokes) (plus (word_count s.pokes) (length s.inputs) (word_count new) (has_word step address s.pokes) k))

step_bound : (step : ℕ) → nat_lt 1000000 step ≡ false → step ≤ 1000000
step_bound step e = ltb-false 1000000 step e

pub sound_poke_byte : (m n : List Bool) (s : Schedule) (step address value : ℕ) (new : List BytePoke) → value < 256 → Covers m n → is_marked n step ≡ true → Sound m s → set_poke_byte_fault step address s ≡ None → new ≡ put_poke (poke_of step address value) s.pokes
    → word_count new ≡ cond (has_word step address s.pokes) (word_count s.pokes) (word_count s.pokes + 1) → Sound n (with_pokes new s)
sound_poke_byte m n s step address value new byte c e h f g k =
    let many = is_one_too_many (has_word step address s.pokes) s in
    let a = step_bound step (first_none (nat_lt 1000000 step) StepTooLarge _ f) in
    let b = ltb-true address s.limit (not_not (nat_lt address s.limit) (second_none (nat_lt 1000000 step) (not (nat_lt address s.limit)) many StepTooLarge BadAddress TooManyEvents f)) in
    let t = third_none (nat_lt 1000000 step) (not (nat_lt address s.limit)) many StepTooLarge BadAddress TooManyEvents f in
    sound_fit m n s new c h (subst (λ l. Fit n s.limit l) (sym g) (fit_put n s.limit step address value s.pokes a b byte e (fit_of m n s c h))) (poke_few s step address new h.timeline.few t k)

pub sound_poke : (m n : List Bool) (s : Schedule) (step address v w x y : ℕ) (new : List BytePoke) → v < 256 → w < 256 → x < 256 → y < 256 → Covers m n → is_marked n step ≡ true → Sound m s → set_poke_fault step address s ≡ None
    → new ≡ put_poke (poke_of step (address + 3) y) (put_poke (poke_of step (address + 2) x) (put_poke (poke_of step (address + 1) w) (put_poke (poke_of step address v) s.pokes)))
    → word_count new ≡ cond (has_word step address s.pokes) (word_count s.pokes) (word_count s.pokes + 1) → Sound n (with_pokes new s)
sound_poke m n s step address v w x y new v_fits w_fits x_fits y_fits c e h f g k =
    let many = is_one_too_many (has_word step address s.pokes) s in
    let a = step_bound step (first_none (nat_lt 1000000 step) StepTooLarge _ f) in
    let b = (word_of_fault step address s many TooManyEvents f).1 in
    let t = third_none (nat_lt 1000000 step) (not (is_word address s.limit)) many StepTooLarge BadAddress TooManyEvents f in
    let one = fit_put n s.limit step address v s.pokes a (omega arith) v_fits e (fit_of m n s c h) in
    let two = fit_put n s.limit step (address + 1) w _ a (omega arith) w_fits e one in
    let three = fit_put n s.limit step (address + 2) x _ a (omega arith) x_fits e two in
    let four = fit_put n s.limit step (address + 3) y _ a (omega arith) y_fits e three in
    sound_fit m n s new c h (subst (λ l. Fit n s.limit l) (sym g) four) (poke_few s step address new h.timeline.few t k)

cut_few : (s : Schedule) (new : List BytePoke) → event_count s ≤ 65536 → word_count new ≤ word_count s.pokes → word_count new + length s.inputs + length s.requests ≤ 65536
cut_few s new h l = omega arith

pub sound_cut_byte : (m : List Bool) (s : Schedule) (step address : ℕ) (new : List BytePoke) → Sound m s → new ≡ cut_poke step address s.pokes → word_count new ≤ word_count s.pokes → Sound m (with_pokes new s)
sound_cut_byte m s step address new h e l =
    sound_fit m m s new (same_covers m) h (subst (λ l. Fit m s.limit l) (sym e) (fit_cut m s.limit step address s.pokes (fit_of m m s (same_covers m) h))) (cut_few s new h.timeline.few l)

pub sound_cut_word : (m : List Bool) (s : Schedule) (step address : ℕ) (new : List BytePoke) → Sound m s → new ≡ cut_poke step (address + 3) (cut_poke step (address + 2) (cut_poke step (address + 1) (cut_poke step address s.pokes))) → word_count new ≤ word_count s.pokes → Sound m (with_pokes new s)
sound_cut_word m s step address new h e l =
    let one = fit_cut m s.limit step address s.pokes (fit_of m m s (same_covers m) h) in
    let four = fit_cut m s.limit step (address + 3) _ (fit_cut m s.limit step (address + 2) _ (fit_cut m s.limit step (address + 1) _ one)) in
    sound_fit m m s new (same_covers m) h (subst (λ l. Fit m s.limit l) (sym e) four) (cut_few s new h.timeline.few l)

-- inputs

pub sound_input : (m n : List Bool) (s : Schedule) (step : ℕ) (bytes : List ℕ) (new : List Input) → Covers m n → is_marked n step ≡ true → Sound m s → set_input_fault step bytes s ≡ None → new ≡ put_input (input_of step bytes) s.inputs
    → length new ≡ cond (has_input step s.inputs) (length s.inputs) (length s.inputs + 1) → Sound n (with_inputs new s)
sound_input m n s step bytes new c e h f g k =
    let many = is_one_too_many (has_input step s.inputs) s in
    let a = step_bound step (first_none (nat_lt 1000000 step) StepTooLarge _ f) in
    let b = ltb-false 1024 (length bytes) (third_none (nat_lt 1000000 step) many (nat_lt 1024 (length bytes)) StepTooLarge TooManyEvents InputTooLong f) in
    record {
      timeline = record {
        pokes_rise = h.timeline.pokes_rise;
        poke_places = h.timeline.poke_places;
        inputs_rise = subst (λ l. Rising input_before l) (sym g) (rising_placed input_before input_order (input_of step bytes) s.inputs h.timeline.inputs_rise);
        input_places = subst (λ l. Each IsInputPlace l) (sym g) (each_placed IsInputPlace input_before (input_of step bytes) s.inputs (a, b) h.timeline.input_places);
        requests_rise = h.timeline.requests_rise;
        request_places = h.timeline.request_places;
        few = one_more (event_count s) (word_count s.pokes + length new + length s.requests) (has_input step s.inputs) h.timeline.few (second_none (nat_lt 1000000 step) many (nat_lt 1024 (length bytes)) StepTooLarge TooManyEvents InputTooLong f)
            (plus (word_count s.pokes + length s.inputs) (length s.requests) (word_count s.pokes + length new) (has_input step s.inputs) (plus_left (length s.inputs) (word_count s.pokes) (length new) (has_input step s.inputs) k));
      };
      pokes_marked = covered (λ p. p.step) m n c s.pokes h.pokes_marked;
      inputs_marked = subst (λ l. Each (λ x. is_marked n x.step ≡ true) l) (sym g) (each_placed (λ x. is_marked n x.step ≡ true) input_before (input_of step bytes) s.inputs e (covered (λ x. x.step) m n c s.inputs h.inputs_marked));
      requests_marked = covered (λ r. r.step) m n c s.requests h.requests_marked;
    }

pub sound_cut_input : (m : List Bool) (s : Schedule) (step : ℕ) (new : List Input) → Sound m s → new ≡ cut_input step s.inputs → length new ≤ length s.inputs → Sound m (with_inputs new s)
sound_cut_input m s step new h e l = record {
  timeline = record {
    pokes_rise = h.timeline.pokes_rise;
    poke_places = h.timeline.poke_places;
    inputs_rise = subst (λ l. Rising input_before l) (sym e) (rising_filter input_before (λ i. not (is_input_at step i)) s.inputs h.timeline.inputs_rise);
    input_places = subst (λ l. Each IsInputPlace l) (sym e) (each_filter IsInputPlace (λ i. not (is_input_at step i)) s.inputs h.timeline.input_places);
    requests_rise = h.timeline.requests_rise;
    request_places = h.timeline.request_places;
    few = omega (arith, h.timeline.few);
  };
  pokes_marked = h.pokes_marked;
  inputs_marked = subst (λ l. Each (λ x. is_marked m x.step ≡ true) l) (sym e) (each_filter (λ x. is_marked m x.step ≡ true) (λ i. not (is_input_at step i)) s.inputs h.inputs_marked);
  requests_marked = h.requests_marked;
}

-- an accepted input is short, and has a place if it is new
pub input_fits : (step : ℕ) (bytes : List ℕ) (s : Schedule) → set_input_fault step bytes s ≡ None → length bytes ≤ 1024
input_fits step bytes s e =
    let h = third_none (nat_lt 1000000 step) (is_one_too_many (has_input step s.inputs) s) (nat_lt 1024 (length bytes)) StepTooLarge TooManyEvents InputTooLong e in
    grind (arith, nat_tests)

-- requests

level_parts : (level : ℕ) → is_level level ≡ true → (1 ≤ level) × (level ≤ 15)
level_parts level h = (grind (arith, nat_tests), grind (arith, nat_tests))

pub sound_request : (m n : List Bool) (s : Schedule) (r : Request) (new : List Request) → Covers m n → is_marked n r.step ≡ true → Sound m s → set_request_fault r.step r.level s ≡ None → new ≡ put_request r s.requests
    → length new ≡ cond (has_request r.step r.level s.requests) (length s.requests) (length s.requests + 1) → Sound n (with_requests new s)
sound_request m n s r new c e h f g k =
    let many = is_one_too_many (has_request r.step r.level s.requests) s in
    let a = step_bound r.step (first_none (nat_lt 1000000 r.step) StepTooLarge _ f) in
    let b = level_parts r.level (not_not (is_level r.level) (second_none (nat_lt 1000000 r.step) (not (is_level r.level)) many StepTooLarge BadLevel TooManyEvents f)) in
    record {
      timeline = record {
        pokes_rise = h.timeline.pokes_rise;
        poke_places = h.timeline.poke_places;
        inputs_rise = h.timeline.inputs_rise;
        input_places = h.timeline.input_places;
        requests_rise = subst (λ l. Rising request_before l) (sym g) (rising_placed request_before (key_order (λ r. r.step) (λ r. r.level)) r s.requests h.timeline.requests_rise);
        request_places = subst (λ l. Each IsRequestPlace l) (sym g) (each_placed IsRequestPlace request_before r s.requests (a, b.0, b.1) h.timeline.request_places);
        few = one_more (event_count s) (word_count s.pokes + length s.inputs + length new) (has_request r.step r.level s.requests) h.timeline.few (third_none (nat_lt 1000000 r.step) (not (is_level r.level)) many StepTooLarge BadLevel TooManyEvents f)
            (plus_left (length s.requests) (word_count s.pokes + length s.inputs) (length new) (has_request r.step r.level s.requests) k);
      };
      pokes_marked = covered (λ p. p.step) m n c s.pokes h.pokes_marked;
      inputs_marked = covered (λ i. i.step) m n c s.inputs h.inputs_marked;
      requests_marked = subst (λ l. Each (λ x. is_marked n x.step ≡ true) l) (sym g) (each_placed (λ x. is_marked n x.step ≡ true) request_before r s.requests e (covered (λ x. x.step) m n c s.requests h.requests_marked));
    }

pub sound_cut_request : (m : List Bool) (s : Schedule) (step level : ℕ) (new : List Request) → Sound m s → new ≡ cut_request step level s.requests → length new ≤ length s.requests → Sound m (with_requests new s)
sound_cut_request m s step level new h e l = record {
  timeline = record {
    pokes_rise = h.timeline.pokes_rise;
    poke_places = h.timeline.poke_places;
    inputs_rise = h.timeline.inputs_rise;
    input_places = h.timeline.input_places;
    requests_rise = subst (λ l. Rising request_before l) (sym e) (rising_filter request_before (λ r. not (is_request_at step level r)) s.requests h.timeline.requests_rise);
    request_places = subst (λ l. Each IsRequestPlace l) (sym e) (each_filter IsRequestPlace (λ r. not (is_request_at step level r)) s.requests h.timeline.request_places);
    few = omega (arith, h.timeline.few);
  };
  pokes_marked = h.pokes_marked;
  inputs_marked = h.inputs_marked;
  requests_marked = subst (λ l. Each (λ x. is_marked m x.step ≡ true) l) (sym e) (each_filter (λ x. is_marked m x.step ≡ true) (λ r. not (is_request_at step level r)) s.requests h.requests_marked);
}

-- an unmarked step has no event

elsewhere : (m : List Bool) (step n : ℕ) → is_marked m step ≡ false → is_marked m n ≡ true → (n == step) ≡ false
elsewhere m step n e f = false_from_ne_true (n == step) (λ g. both_ways (is_marked m step) e (subst (λ k. is_marked m k ≡ true) (eqb-true n step g) f))

pub no_pokes : (m : List Bool) (step : ℕ) (s : Schedule) → Sound m s → is_marked m step ≡ false → [] ≡ pokes_of_step step s.pokes
no_pokes m step s h e = sym (filter_none (λ p. p.step == step) s.pokes (each_map (λ p. is_marked m p.step ≡ true) (λ p. (p.step == step) ≡ false) (λ p f. elsewhere m step p.step e f) s.pokes h.pokes_marked))

pub no_bytes : (m : List Bool) (step : ℕ) (s : Schedule) → Sound m s → is_marked m step ≡ false → [] ≡ bytes_of_step step s.inputs
no_bytes m step s h e = ap input_bytes (sym (filter_none (is_input_at step) s.inputs (each_map (λ p. is_marked m p.step ≡ true) (λ p. is_input_at step p ≡ false) (λ p f. elsewhere m step p.step e f) s.inputs h.inputs_marked)))

pub no_requests : (m : List Bool) (step : ℕ) (s : Schedule) → Sound m s → is_marked m step ≡ false → [] ≡ requests_of_step step s.requests
no_requests m step s h e = sym (filter_none (λ r. r.step == step) s.requests (each_map (λ r. is_marked m r.step ≡ true) (λ r. (r.step == step) ≡ false) (λ r f. elsewhere m step r.step e f) s.requests h.requests_marked))

-- the events of a step are where they may be

pub words_inside : (limit step : ℕ) (pokes : List BytePoke) (words : List WordPoke) → Each (IsPokePlace limit) pokes → bytes_of_words words ≡ pokes_of_step step pokes → Each (λ w. is_poked w.bytes ≡ true) words → Each (IsWordIn limit) words
words_inside limit step pokes words h e k =
    words_in limit words (subst (λ l. Each (λ p. p.address < limit) l) (sym e) (each_map (IsPokePlace limit) (λ p. p.address < limit) (λ p q. q.1) (pokes_of_step step pokes) (each_filter (IsPokePlace limit) (λ p. p.step == step) pokes h))) k

pub requests_inside : (step : ℕ) (requests new : List Request) → Each IsRequestPlace requests → new ≡ requests_of_step step requests → Each IsRequestPlace new
requests_inside step requests new h e = subst (λ l. Each IsRequestPlace l) (sym e) (each_filter IsRequestPlace (λ r. r.step == step) requests h)

any_bound : {X : Type 0} (P : X → Type 0) (Q : Type 0) (p : X → Bool) → ((x : X) → P x → p x ≡ true → Q) → (xs : List X) → Each P xs → list_any p xs ≡ true → Q
any_bound P Q p f [] h e = absurd (cc)
any_bound P Q p f (x ∷ xs) h e = go (p x) refl (any_bound P Q p f xs h.1)
  where
    go : (b : Bool) → p x ≡ b → (list_any p xs ≡ true → Q) → Q
    go true g ih = f x h.0 g
    go false g ih = ih (let k : (false || list_any p xs) ≡ true = rw g at e in k)

at_step : (s a n b : ℕ) → s ≤ 1000000 → (s == n && a == b) ≡ true → n ≤ 1000000
at_step s a n b l e = grind (arith, nat_tests)

pub poke_bound : (limit address : ℕ) (pokes : List BytePoke) → Each (IsPokePlace limit) pokes → (n : ℕ) → has_poke n address pokes ≡ true → n ≤ 1000000
poke_bound limit address pokes h n e = any_bound (IsPokePlace limit) (n ≤ 1000000) (is_poke_at n address) (λ p q f. at_step p.step p.address n address q.0 f) pokes h e

pub request_bound : (level : ℕ) (requests : List Request) → Each IsRequestPlace requests → (n : ℕ) → has_request n level requests ≡ true → n ≤ 1000000
request_bound level requests h n e = any_bound IsRequestPlace (n ≤ 1000000) (is_request_at n level) (λ r q f. at_step r.step r.level n level q.0 f) requests h e
