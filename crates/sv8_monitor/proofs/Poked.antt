-- The lines of the poked bytes of a step are those of the words that they are kept in.
use Rattle.std.proofs.Common.{◌≡◌, ◌∙◌, ℕ, ◌+◌, ◌%◌, ◌<◌, ◌≤◌, ◌==◌, ◌&&◌, Bool, true, false, List, [], ◌∷◌, ◌++◌, length, Option, Some, None, refl, sym, ap, append_assoc, append-nil, arith, ltb, inl, inr}
use Rattle.std.proofs.lemmas.Bool.{eqb-true, ltb-true, eq-eqb, ne_eqb, and_left, and_right, and_parts, or_cases}
use Rattle.sv8_time.specs.Order.{Each, Rising}
use Rattle.sv8_time.specs.Schedule.{Schedule, BytePoke, poke_of, pokes_of_step, bytes_of_step, requests_of_step}
use Rattle.sv8_time.specs.declared.requests.Request.{Request}
use Rattle.sv8_time.specs.Words.{poked_from, poked_bytes, bytes_of_words, is_poked, word_before, IsWordIn}
use Rattle.sv8_time.specs.declared.words.WordPoke.{WordPoke}
use Rattle.sv8_time.proofs.Parts.{each_append, each_passes}
use Rattle.sv8_commands.specs.Text.{numbered_text}
use Rattle.sv8_monitor.specs.Events.{byte_line, word_line, is_word, pokes_text, some_line, four_lines, lines_of_word, word_lines, words_text, input_text, requests_text, step_events}

each_parts : {X : Type 0} (P : X → Type 0) (xs ys : List X) → Each P (xs ++ ys) → Each P xs × Each P ys
each_parts P [] ys h = (tt, h)
each_parts P (x ∷ xs) ys h = let rest = each_parts P xs ys h.1 in ((h.0, rest.0), rest.1)

-- ---- a byte that begins no whole word

-- a byte begins a whole word
abbrev begins : BytePoke → List BytePoke → Bool
begins p [] = false
begins p (q ∷ []) = false
begins p (q ∷ r ∷ []) = false
begins p (q ∷ r ∷ s ∷ ps) = is_word p s

-- one that does not has a line of its own
single : (p : BytePoke) (ps : List BytePoke) → begins p ps ≡ false → pokes_text (p ∷ ps) ≡ byte_line p ++ pokes_text ps
single p [] h = sym (append-nil (byte_line p))
single p (q ∷ []) h = refl
single p (q ∷ r ∷ []) h = refl
single p (q ∷ r ∷ s ∷ ps) h = rw h refl

-- a byte behind the first of its word
inside : (p : BytePoke) (ps : List BytePoke) → (p.address % 4 == 0) ≡ false → begins p ps ≡ false
inside p [] h = refl
inside p (q ∷ []) h = refl
inside p (q ∷ r ∷ []) h = refl
inside p (q ∷ r ∷ s ∷ ps) h = and_left (p.address % 4 == 0) (s.address == p.address + 3) h

-- a byte above a word does not end it
apart : (p s : BytePoke) → p.address + 4 ≤ s.address → is_word p s ≡ false
apart p s h = and_right (p.address % 4 == 0) (s.address == p.address + 3) (ne_eqb s.address (p.address + 3) (λ e. omega arith))

-- a byte with fewer than three bytes of its word behind it
short : (p : BytePoke) (qs ps : List BytePoke) → length qs < 3 → Each (λ s. p.address + 4 ≤ s.address) ps → begins p (qs ++ ps) ≡ false
short p [] [] n h = refl
short p [] (q ∷ []) n h = refl
short p [] (q ∷ r ∷ []) n h = refl
short p [] (q ∷ r ∷ s ∷ ps) n h = apart p s h.1.1.0
short p (q ∷ []) [] n h = refl
short p (q ∷ []) (r ∷ []) n h = refl
short p (q ∷ []) (r ∷ s ∷ ps) n h = apart p s h.1.0
short p (q ∷ r ∷ []) [] n h = refl
short p (q ∷ r ∷ []) (s ∷ ps) n h = apart p s h.0
short p (q ∷ r ∷ s ∷ qs) ps n h = absurd (omega arith)

-- ---- the bytes of one word

-- the lines of bytes from an address on
abbrev lines_from : ℕ → ℕ → List (Option ℕ) → List ℕ
lines_from step address [] = []
lines_from step address (b ∷ bytes) = some_line step address b ++ lines_from step (address + 1) bytes

poked_few : (step address : ℕ) (bytes : List (Option ℕ)) → length (poked_from step address bytes) ≤ length bytes
poked_few step address [] = omega arith
poked_few step address (None ∷ bytes) = let few = poked_few step (address + 1) bytes in omega arith
poked_few step address (Some value ∷ bytes) = let few = poked_few step (address + 1) bytes in omega arith

-- bytes behind the first of their word
later : (step address : ℕ) (bytes : List (Option ℕ)) (ps : List BytePoke) → ((k : ℕ) → k < length bytes → ((address + k) % 4 == 0) ≡ false)
    → pokes_text (poked_from step address bytes ++ ps) ≡ lines_from step address bytes ++ pokes_text ps
later step address [] ps h = refl
later step address (None ∷ bytes) ps h = later step (address + 1) bytes ps (λ k below. let e : address + 1 + k ≡ address + (k + 1) = omega arith in rw e (h (k + 1) (omega arith)))
later step address (Some value ∷ bytes) ps h =
    let p = poke_of step address value in
    let here : (address % 4 == 0) ≡ false = (let e : address + 0 ≡ address = omega arith in rw e at (h 0 (omega arith))) in
    let rest = later step (address + 1) bytes ps (λ k below. let e : address + 1 + k ≡ address + (k + 1) = omega arith in rw e (h (k + 1) (omega arith))) in
    single p (poked_from step (address + 1) bytes ++ ps) (inside p (poked_from step (address + 1) bytes ++ ps) here)
    ∙ ap (λ l. byte_line p ++ l) rest ∙ sym (append_assoc (byte_line p) (lines_from step (address + 1) bytes) (pokes_text ps))

module _ (step a : ℕ) (aligned : a % 4 ≡ 0) where
  four_are : (b c d e : Option ℕ) → four_lines step a (b ∷ c ∷ d ∷ e ∷ []) ≡ lines_from step a (b ∷ c ∷ d ∷ e ∷ [])
  four_are b c d e =
      let two : a + 1 + 1 ≡ a + 2 = omega arith in
      let three : a + 1 + 1 + 1 ≡ a + 3 = omega arith in
      rw (three, two) (simp (append_assoc, append-nil))

  behind_first : (c d e : Option ℕ) (ps : List BytePoke) → pokes_text (poked_from step (a + 1) (c ∷ d ∷ e ∷ []) ++ ps) ≡ lines_from step (a + 1) (c ∷ d ∷ e ∷ []) ++ pokes_text ps
  behind_first c d e ps = later step (a + 1) (c ∷ d ∷ e ∷ []) ps (λ k below. ne_eqb ((a + 1 + k) % 4) 0 (λ zero. omega arith))

  -- the first byte has a line of its own
  first_alone : (v : ℕ) (c d e : Option ℕ) (ps : List BytePoke) → Each (λ p. a + 4 ≤ p.address) ps → length (poked_from step (a + 1) (c ∷ d ∷ e ∷ [])) < 3
      → pokes_text (poked_from step a (Some v ∷ c ∷ d ∷ e ∷ []) ++ ps) ≡ four_lines step a (Some v ∷ c ∷ d ∷ e ∷ []) ++ pokes_text ps
  first_alone v c d e ps above few =
      let p = poke_of step a v in
      let qs = poked_from step (a + 1) (c ∷ d ∷ e ∷ []) in
      single p (qs ++ ps) (short p qs ps few above) ∙ ap (λ l. byte_line p ++ l) (behind_first c d e ps)
      ∙ sym (append_assoc (byte_line p) (lines_from step (a + 1) (c ∷ d ∷ e ∷ [])) (pokes_text ps)) ∙ ap (λ l. l ++ pokes_text ps) (sym (four_are (Some v) c d e))

  whole : (v w x y : ℕ) (ps : List BytePoke) → pokes_text (poked_from step a (Some v ∷ Some w ∷ Some x ∷ Some y ∷ []) ++ ps) ≡ word_line step a v w x y ++ pokes_text ps
  whole v w x y ps =
      let first : (a % 4 == 0) ≡ true = eq-eqb (a % 4) 0 aligned in
      let last : (a + 1 + 1 + 1 == a + 3) ≡ true = eq-eqb (a + 1 + 1 + 1) (a + 3) (omega arith) in
      rw (first, last) refl

  word_text : (b c d e : Option ℕ) (ps : List BytePoke) → Each (λ p. a + 4 ≤ p.address) ps
      → pokes_text (poked_from step a (b ∷ c ∷ d ∷ e ∷ []) ++ ps) ≡ lines_of_word step a (b ∷ c ∷ d ∷ e ∷ []) ++ pokes_text ps
  word_text None c d e ps above = behind_first c d e ps ∙ ap (λ l. l ++ pokes_text ps) (sym (four_are None c d e))
  word_text (Some v) None d e ps above = first_alone v None d e ps above (let few = poked_few step (a + 1 + 1) (d ∷ e ∷ []) in omega arith)
  word_text (Some v) (Some w) None e ps above = first_alone v (Some w) None e ps above (let few = poked_few step (a + 1 + 1 + 1) (e ∷ []) in omega arith)
  word_text (Some v) (Some w) (Some x) None ps above = first_alone v (Some w) (Some x) None ps above (omega arith)
  word_text (Some v) (Some w) (Some x) (Some y) ps above = whole v w x y ps

  -- the same of the bytes of a list
  four_text : (bytes : List (Option ℕ)) (ps : List BytePoke) → length bytes ≡ 4 → Each (λ p. a + 4 ≤ p.address) ps → pokes_text (poked_from step a bytes ++ ps) ≡ lines_of_word step a bytes ++ pokes_text ps
  four_text [] ps full above = absurd (omega arith)
  four_text (b ∷ []) ps full above = absurd (omega arith)
  four_text (b ∷ c ∷ []) ps full above = absurd (omega arith)
  four_text (b ∷ c ∷ d ∷ []) ps full above = absurd (omega arith)
  four_text (b ∷ c ∷ d ∷ e ∷ []) ps full above = word_text b c d e ps above
  four_text (b ∷ c ∷ d ∷ e ∷ f ∷ bytes) ps full above = absurd (omega arith)

-- ---- the words of a step

from_address : (bound step address : ℕ) (bytes : List (Option ℕ)) → bound ≤ address → Each (λ p. bound ≤ p.address) (poked_from step address bytes)
from_address bound step address [] h = tt
from_address bound step address (None ∷ bytes) h = from_address bound step (address + 1) bytes (omega arith)
from_address bound step address (Some value ∷ bytes) h = (h, from_address bound step (address + 1) bytes (omega arith))

-- a word of the same step behind another one
behind_word : (w v : WordPoke) → w.step ≡ v.step → word_before w v ≡ true → w.address + 4 ≤ v.address
behind_word w v same h = elim (or_cases (ltb w.step v.step) (w.step == v.step && ltb w.address v.address) h) [
  | inl e ↦ absurd (omega (arith, ltb-true w.step v.step e))
  | inr e ↦ omega (arith, ltb-true w.address v.address (and_parts (w.step == v.step) (ltb w.address v.address) e).1, w.aligned, v.aligned)
]

-- all bytes of words behind one are above it
above_word : (n : ℕ) (w : WordPoke) (ws : List WordPoke) → w.step ≡ n → Each (λ v. v.step ≡ n) ws → Each (λ v. word_before w v ≡ true) ws → Each (λ p. w.address + 4 ≤ p.address) (bytes_of_words ws)
above_word n w [] same steps rise = tt
above_word n w (v ∷ ws) same steps rise =
    each_append (λ p. w.address + 4 ≤ p.address) (poked_bytes v) (bytes_of_words ws)
    (from_address (w.address + 4) v.step v.address v.bytes (behind_word w v (same ∙ sym steps.0) rise.0)) (above_word n w ws same steps.1 rise.1)

-- a word whose poked bytes are all of a step
step_is : (n step address : ℕ) (bytes : List (Option ℕ)) → is_poked bytes ≡ true → Each (λ p. (p.step == n) ≡ true) (poked_from step address bytes) → step ≡ n
step_is n step address [] poked h = cc
step_is n step address (None ∷ bytes) poked h = step_is n step (address + 1) bytes poked h
step_is n step address (Some value ∷ bytes) poked h = eqb-true step n h.0

steps_are : (n limit : ℕ) (ws : List WordPoke) → Each (IsWordIn limit) ws → Each (λ p. (p.step == n) ≡ true) (bytes_of_words ws) → Each (λ w. w.step ≡ n) ws
steps_are n limit [] words h = tt
steps_are n limit (w ∷ ws) words h =
    let parts = each_parts (λ p. (p.step == n) ≡ true) (poked_bytes w) (bytes_of_words ws) h in
    (step_is n w.step w.address w.bytes words.0.poked parts.0, steps_are n limit ws words.1 parts.1)

text_is : (n i : ℕ) (ws : List WordPoke) → Each (λ w. w.step ≡ n) ws → Rising word_before ws → pokes_text (bytes_of_words ws) ≡ numbered_text (λ k w. word_lines w) i ws
text_is n i [] steps rise = refl
text_is n i (w ∷ ws) steps rise =
    four_text w.step w.address w.aligned w.bytes (bytes_of_words ws) w.full (above_word n w ws steps.0 steps.1 rise.0)
    ∙ ap (λ l. word_lines w ++ l) (text_is n (i + 1) ws steps.1 rise.1)

words_text_is : (n limit : ℕ) (pokes : List BytePoke) (ws : List WordPoke) → bytes_of_words ws ≡ pokes_of_step n pokes → Rising word_before ws → Each (IsWordIn limit) ws
    → pokes_text (pokes_of_step n pokes) ≡ words_text ws
words_text_is n limit pokes ws same rise words =
    let of_step : Each (λ p. (p.step == n) ≡ true) (bytes_of_words ws) = rw same (each_passes (λ p. p.step == n) pokes) in
    ap pokes_text (sym same) ∙ text_is n 0 ws (steps_are n limit ws words of_step) rise

-- what stands at a step, by the words that its poked bytes are kept in
pub step_events_are : (s : Schedule) (n : ℕ) (ws : List WordPoke) (bytes : List ℕ) (requests : List Request)
    → bytes_of_words ws ≡ pokes_of_step n s.pokes → Rising word_before ws → Each (IsWordIn s.limit) ws → bytes ≡ bytes_of_step n s.inputs → requests ≡ requests_of_step n s.requests
    → step_events s n ≡ words_text ws ++ (input_text n bytes ++ requests_text requests)
unfolding step_events
step_events_are s n ws bytes requests same rise words inputs asked = rw (inputs, asked, words_text_is n s.limit s.pokes ws same rise words) refl
