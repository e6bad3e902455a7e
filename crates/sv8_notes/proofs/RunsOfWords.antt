-- Runs of words, and the notes that they stand for.
use Rattle.std.proofs.Common.{◌≡◌, ◌≢◌, ℕ, zero, suc, ◌+◌, ◌-◌, ◌*◌, ◌<◌, List, [], ◌∷◌, ◌++◌, length, take, get_or, Option, ◌==◌, Bool, true, false, ◌||◌, refl, sym, ◌∙◌, ap, ap₂, arith, eq-eqb, ne_eqb}
use Rattle.std.proofs.lemmas.List.{append_assoc, append-nil, take_more}
use Rattle.std.specs.List.{list_any}
use Rattle.sv8_notes.specs.declared.notes.WordNote.{WordNote}
use Rattle.sv8_notes.specs.declared.word_run.WordRun.{WordRun}
use Rattle.sv8_notes.specs.Steps.{Steps, is_word_of, has_word, IsFirstBelow}
use Rattle.sv8_notes.specs.Recording.{with_run}
use Rattle.sv8_notes.specs.Marks.{mark_of, AreMarkedFrom}
use Rattle.sv8_notes.specs.WordRuns.{words_from, words_of_run, words_of, AreMarkedBelow}
use Rattle.sv8_notes.proofs.Gaining.{any_append, or_none}
use Rattle.sv8_notes.proofs.Firsts.{first_like, or_false}

-- ---- the words of a run

-- an address of none of them has no note
pub none_from : (a o n w j : ℕ) → ((k : ℕ) → k < n → a + 4 * k ≢ w) → has_word (words_from a o n) w j ≡ false
none_from a o zero w j others = refl
none_from a o (suc n) w j others =
    let first : a ≢ w = λ e. others 0 (omega arith) (omega (arith, e)) in
    rw (ne_eqb a w first, none_from (a + 4) (o + 1) n w j (λ k below e. others (suc k) (omega arith) (omega (arith, e))))

-- an address of one of them has the note of its step
pub word_from : (a o n k w j : ℕ) → k < n → w ≡ a + 4 * k → has_word (words_from a o n) w j ≡ (o + k == j)
word_from a o zero k w j below e = absurd (omega arith)
word_from a o (suc n) zero w j below e =
    let here : a ≡ w = omega (arith, e) in
    let there : o ≡ o + 0 = omega arith in
    rw (eq-eqb a w here, none_from (a + 4) (o + 1) n w j (λ i i_in other. absurd (omega (arith, e, other)))) (or_none (o == j) ∙ ap (λ x. x == j) there)
word_from a o (suc n) (suc k) w j below e =
    let first : a ≢ w = λ same. absurd (omega (arith, e, same)) in
    let there : o + 1 + k ≡ o + suc k = omega arith in
    rw (ne_eqb a w first) (word_from (a + 4) (o + 1) n k w j (omega arith) (omega (arith, e)) ∙ ap (λ x. x == j) there)

-- one word more
pub more_words : (a o n : ℕ) → words_from a o (suc n) ≡ words_from a o n ++ record { address = a + 4 * n; offset = o + n } ∷ []
more_words a o zero =
    let address : a ≡ a + 4 * 0 = omega arith in
    let offset : o ≡ o + 0 = omega arith in
    ap₂ (λ (x y : ℕ). record { address = x; offset = y } ∷ []) address offset
more_words a o (suc n) =
    let address : a + 4 + 4 * n ≡ a + 4 * suc n = omega arith in
    let offset : o + 1 + n ≡ o + suc n = omega arith in
    ap (λ (ws : List WordNote). record { address = a; offset = o } ∷ ws) (more_words (a + 4) (o + 1) n
    ∙ ap₂ (λ (x y : ℕ). words_from (a + 4) (o + 1) n ++ record { address = x; offset = y } ∷ []) address offset)

-- the next word, read by the next step
pub longer_run : (a o n address offset : ℕ) → o + n ≡ offset → a + 4 * n ≡ address → words_from a o (n + 1) ≡ words_from a o n ++ record { address = address; offset = offset } ∷ []
longer_run a o n address offset at is =
    let one : n + 1 ≡ suc n = omega arith in
    ap (words_from a o) one ∙ more_words a o n ∙ ap₂ (λ (x y : ℕ). words_from a o n ++ record { address = x; offset = y } ∷ []) is at

-- the first word of a run, and the others
pub next_words : (a o n : ℕ) → 0 < n → words_from a o n ≡ record { address = a; offset = o } ∷ words_from (a + 4) (o + 1) (n - 1)
next_words a o zero some = absurd (omega arith)
next_words a o (suc n) some =
    let one : n ≡ suc n - 1 = omega arith in
    ap (λ k. record { address = a; offset = o } ∷ words_from (a + 4) (o + 1) k) one

-- a word with a lesser mark than those of the run is not in it
pub unmarked_run : (a o n w j mark : ℕ) (marks : List (List ℕ)) → AreMarkedFrom marks a mark n → mark_of marks w < mark → has_word (words_from a o n) w j ≡ false
unmarked_run a o n w j mark marks marked less =
    none_from a o n w j (λ k below e. let m = marked k below in absurd (omega (arith, m, less, ap (mark_of marks) e)))

-- ---- several runs

pub words_append : (xs ys : List WordRun) → words_of (xs ++ ys) ≡ words_of xs ++ words_of ys
words_append [] ys = refl
words_append (r ∷ rs) ys = ap (λ ws. words_of_run r ++ ws) (words_append rs ys) ∙ sym (append_assoc (words_of_run r) (words_of rs) (words_of ys))

-- one run more
pub words_with : (rs : List WordRun) (r : WordRun) → words_of (rs ++ r ∷ []) ≡ words_of rs ++ words_of_run r
words_with rs r = words_append rs (r ∷ []) ∙ ap (λ ws. words_of rs ++ ws) (append-nil (words_of_run r))

-- or none, as it is of no word
pub words_without : (rs : List WordRun) (r : WordRun) → r.count ≡ 0 → words_of rs ≡ words_of rs ++ words_of_run r
words_without rs r none = sym (ap (λ n. words_of rs ++ words_from r.address r.first n) none ∙ append-nil (words_of rs))

-- the words of a run more among those that are fetched
pub one_run : (run : WordRun) (old s : Steps) (more : List WordNote) → old ≡ s → more ≡ old.fetches ++ words_of_run run → record old { fetches = more } ≡ with_run s run
one_run run old s more same longer = ap (λ words. record old { fetches = words }) longer ∙ ap (λ x. with_run x run) same

-- ---- notes in a range

module _ (f : WordNote → Bool) (a o count p : ℕ) (below : p < count) where
  rest : words_from (a + 4 * p + 4) (o + p + 1) (count - p - 1) ≡ words_from (a + 4 * (p + 1)) (o + (p + 1)) (count - (p + 1))
  rest =
      let x : a + 4 * p + 4 ≡ a + 4 * (p + 1) = omega arith in
      let y : o + p + 1 ≡ o + (p + 1) = omega arith in
      let n : count - p - 1 ≡ count - (p + 1) = omega arith in
      ap (λ k. words_from k (o + p + 1) (count - p - 1)) x ∙ ap₂ (λ k m. words_from (a + 4 * (p + 1)) k m) y n

  pub split : list_any f (words_from (a + 4 * p) (o + p) (count - p)) ≡ (f (record { address = a + 4 * p; offset = o + p }) || list_any f (words_from (a + 4 * (p + 1)) (o + (p + 1)) (count - (p + 1))))
  split =
      ap (list_any f) (next_words (a + 4 * p) (o + p) (count - p) (omega (arith, below)))
      ∙ ap (λ ws. f (record { address = a + 4 * p; offset = o + p }) || list_any f ws) rest

  pub found_at : f (record { address = a + 4 * p; offset = o + p }) ≡ true → list_any f (words_from (a + 4 * p) (o + p) (count - p)) ≡ true
  found_at e = split ∙ ap (λ b. b || list_any f (words_from (a + 4 * (p + 1)) (o + (p + 1)) (count - (p + 1)))) e

  pub passed_at : f (record { address = a + 4 * p; offset = o + p }) ≡ false
      → list_any f (words_from (a + 4 * (p + 1)) (o + (p + 1)) (count - (p + 1))) ≡ list_any f (words_from (a + 4 * p) (o + p) (count - p))
  passed_at e = sym (split ∙ ap (λ b. b || list_any f (words_from (a + 4 * (p + 1)) (o + (p + 1)) (count - (p + 1)))) e)

-- ---- the first step that reads a word

pub first_of_one_more : (rs : List WordRun) (i : ℕ) (d : WordRun) (address from end : ℕ) (found here best : Option ℕ) → i < length rs
    → ((f g : ℕ → Bool) (from end : ℕ) → IsFirstBelow f from end found → IsFirstBelow g from end here → IsFirstBelow (λ n. f n || g n) from end best)
    → IsFirstBelow (has_word (words_of (take i rs)) address) from end found → IsFirstBelow (has_word (words_of_run (get_or rs i d)) address) from end here
    → IsFirstBelow (has_word (words_of (take (i + 1) rs)) address) from end best
first_of_one_more rs i d address from end found here best h lesser p q =
    first_like (λ n. has_word (words_of (take i rs)) address n || has_word (words_of_run (get_or rs i d)) address n) (has_word (words_of (take (i + 1) rs)) address) from end best both
    (lesser (has_word (words_of (take i rs)) address) (has_word (words_of_run (get_or rs i d)) address) from end p q)
  where
    both : (n : ℕ) → (has_word (words_of (take i rs)) address n || has_word (words_of_run (get_or rs i d)) address n) ≡ has_word (words_of (take (i + 1) rs)) address n
    both n =
        sym (ap (λ us. has_word (words_of us) address n) (take_more rs i d h)
        ∙ ap (λ ws. has_word ws address n) (words_append (take i rs) (get_or rs i d ∷ []) ∙ ap (λ ws. words_of (take i rs) ++ ws) (append-nil (words_of_run (get_or rs i d))))
        ∙ any_append (is_word_of address n) (words_of (take i rs)) (words_of_run (get_or rs i d)))

-- a run reads a word at one step, if it does
pub first_at : (a o n address k from end : ℕ) (found : Option ℕ) → k < n → address ≡ a + 4 * k → IsFirstBelow (λ j. o + k == j) from end found → IsFirstBelow (has_word (words_from a o n) address) from end found
first_at a o n address k from end found below is h = first_like (λ j. o + k == j) (has_word (words_from a o n) address) from end found (λ j. sym (word_from a o n k address j below is)) h

-- ---- marks of runs

-- a word with a lesser mark is in none of the runs
pub unmarked_runs : (rs : List WordRun) (marks : List (List ℕ)) (mark : ℕ) → AreMarkedBelow marks mark rs (length rs) → (a : ℕ) → mark_of marks a < mark → (j : ℕ) → has_word (words_of rs) a j ≡ false
unmarked_runs [] marks mark all a less j = refl
unmarked_runs (r ∷ rs) marks mark all a less j =
    any_append (is_word_of a j) (words_of_run r) (words_of rs)
    ∙ or_false _ _ (unmarked_run r.address r.first r.count a j mark marks (all 0 r (omega arith)) less)
    (unmarked_runs rs marks mark (λ i d below. all (suc i) d (omega arith)) a less j)
