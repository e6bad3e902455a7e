-- Runs of checkpoints that have the same page.
use Rattle.std.proofs.Common.{◌≡◌, ◌≢◌, ℕ, zero, suc, ◌+◌, ◌-◌, ◌%◌, ◌<◌, ◌≤◌, List, [], ◌∷◌, ◌++◌, length, get_or, set, take, drop, replicate, Bool, true, false, MatchBool, ◌&&◌, cond, leb, ltb, refl, sym, ap, ap₂, ◌∙◌, inl, inr, ◌⊎◌, arith, append_assoc, add-one, zero-add, add_assoc, lt-ltb, le-ltb, length-append}
use Rattle.std.proofs.lemmas.Bool.{cases_lt}
use Rattle.std.proofs.lemmas.Bool.Decides.{nat_tests}
use Rattle.std.proofs.lemmas.List.{append-nil, length-replicate, get_or-replicate, replicate-append-replicate, replicate_more, get_or_append_left, get_or-append_right, get_or-append-add, get_or_default, set-get_or}
use Rattle.sv8_notes.specs.declared.runs.PageRun.{PageRun}
use Rattle.sv8_notes.specs.PageRuns.{expand, before, no_run, with_byte}

-- ---- lists of runs

pub expand-append : (xs ys : List PageRun) → expand (xs ++ ys) ≡ expand xs ++ expand ys
expand-append [] ys = refl
expand-append (r ∷ rs) ys = ap (λ z. replicate r.count r.page ++ z) (expand-append rs ys) ∙ sym (append_assoc (replicate r.count r.page) (expand rs) (expand ys))

-- one run more
pub expand_more : (xs : List PageRun) (r : PageRun) → expand (xs ++ r ∷ []) ≡ expand xs ++ replicate r.count r.page
expand_more xs r = expand-append xs (r ∷ []) ∙ ap (λ z. expand xs ++ z) (append-nil (replicate r.count r.page))

long_run : (r : PageRun) (rs : List PageRun) → length (expand (r ∷ rs)) ≡ r.count + length (expand rs)
long_run r rs = length-append (replicate r.count r.page) (expand rs) ∙ ap (λ n. n + length (expand rs)) (length-replicate r.count r.page)

pub before_next : (rs : List PageRun) (n : ℕ) → n < length rs → before (suc n) rs ≡ before n rs + (get_or rs n no_run).count
before_next [] n h = absurd (omega (arith, h))
before_next (r ∷ rs) zero h = omega arith
before_next (r ∷ rs) (suc n) h = let step = before_next rs n (omega (arith, h)) in omega (arith, step)

pub before_all : (rs : List PageRun) (n : ℕ) → length rs ≤ n → before n rs ≡ length (expand rs)
before_all [] zero h = refl
before_all [] (suc n) h = refl
before_all (r ∷ rs) zero h = absurd (omega (arith, h))
before_all (r ∷ rs) (suc n) h = let rest = before_all rs n (omega (arith, h)) in omega (arith, rest, long_run r rs)

before_le : (rs : List PageRun) (n m : ℕ) → n ≤ m → before n rs ≤ before m rs
before_le rs zero m h = omega arith
before_le [] (suc n) m h = omega arith
before_le (r ∷ rs) (suc n) zero h = absurd (omega (arith, h))
before_le (r ∷ rs) (suc n) (suc m) h = let rest = before_le rs n m (omega (arith, h)) in omega (arith, rest)

-- the page of a checkpoint, by the run and the place in it
pub page_in_run : (rs : List PageRun) (n o : ℕ) → n < length rs → o < (get_or rs n no_run).count → get_or (expand rs) (before n rs + o) [] ≡ (get_or rs n no_run).page
page_in_run [] n o h inside = absurd (omega (arith, h))
page_in_run (r ∷ rs) zero o h inside =
    ap (λ k. get_or (replicate r.count r.page ++ expand rs) k []) (zero-add o)
    ∙ get_or_append_left (replicate r.count r.page) (expand rs) [] o (omega (arith, inside, length-replicate r.count r.page))
    ∙ get_or-replicate r.count o r.page [] inside
page_in_run (r ∷ rs) (suc n) o h inside =
    ap (λ k. get_or (replicate r.count r.page ++ expand rs) k []) (add_assoc r.count (before n rs) o ∙ ap (λ k. k + (before n rs + o)) (sym (length-replicate r.count r.page)))
    ∙ get_or-append-add (replicate r.count r.page) (expand rs) (before n rs + o) []
    ∙ page_in_run rs n o (omega (arith, h)) inside

-- a checkpoint that is there has a run
pub has_run : (rs seen : List PageRun) (whole : List (List ℕ)) (n o at : ℕ) → seen ≡ rs → expand rs ≡ whole → before n seen + o ≡ at → at < length whole → n < length rs
has_run rs seen whole n o at same all_is is below = go (cases_lt n (length rs))
  where
    go : (n < length rs) ⊎ (length rs ≤ n) → n < length rs
    go (inl h) = h
    go (inr h) = let all = ap (before n) same ∙ before_all rs n h ∙ ap length all_is in absurd (omega (arith, all, is, below))

-- and its page is that of the run
pub page_found : (rs seen : List PageRun) (whole : List (List ℕ)) (n o at : ℕ) (r : PageRun) → seen ≡ rs → expand rs ≡ whole → before n seen + o ≡ at → at < length whole
    → (n < length seen → o < (get_or seen n no_run).count) → r ≡ get_or rs n r → r.page ≡ get_or whole at []
page_found rs seen whole n o at r same all_is is below inside run_is =
    let h = has_run rs seen whole n o at same all_is is below in
    let long = ap length same in
    let there = inside (omega (arith, long, h)) in
    let in_run = rw same at there in
    ap (λ (x : PageRun). x.page) (run_is ∙ sym (get_or_default rs n no_run r h))
    ∙ sym (page_in_run rs n o h in_run)
    ∙ ap (λ xs. get_or (expand rs) (before n xs + o) []) (sym same)
    ∙ ap₂ (λ xs k. get_or xs k []) all_is is

-- and so has one that is not the first behind a run
pub has_run_inside : (rs seen : List PageRun) (n o at : ℕ) → seen ≡ rs → before n seen + o ≡ at → at ≤ length (expand rs) → o ≢ 0 → n < length rs
has_run_inside rs seen n o at same is below some = go (cases_lt n (length rs))
  where
    go : (n < length rs) ⊎ (length rs ≤ n) → n < length rs
    go (inl h) = h
    go (inr h) = let all = ap (before n) same ∙ before_all rs n h in absurd (some (omega (arith, all, is, below)))

pub one_more : (xs ys zs : List (List ℕ)) (n : ℕ) (p : List ℕ) → ys ≡ xs ++ replicate n p → zs ≡ ys ++ p ∷ [] → zs ≡ xs ++ replicate (n + 1) p
one_more xs ys zs n p e f = f ∙ ap (λ w. w ++ p ∷ []) e ∙ append_assoc xs (replicate n p) (p ∷ []) ∙ ap (λ w. xs ++ w) (replicate_more n p)

-- ---- one checkpoint more in the last run

pub expand_longer : (rs : List PageRun) (n : ℕ) (r : PageRun) → suc n ≡ length rs → r ≡ get_or rs n no_run → expand (set rs n (record r { count = r.count + 1 })) ≡ expand rs ++ r.page ∷ []
expand_longer [] n r h is = absurd (omega (arith, h))
expand_longer (q ∷ []) zero r h is =
    append-nil (replicate (r.count + 1) r.page) ∙ sym (replicate_more r.count r.page)
    ∙ ap (λ x. replicate x.count x.page ++ r.page ∷ []) is
    ∙ ap (λ z. z ++ r.page ∷ []) (sym (append-nil (replicate q.count q.page)))
expand_longer (q ∷ p ∷ rs) zero r h is = absurd (omega (arith, h))
expand_longer (q ∷ rs) (suc n) r h is =
    ap (λ z. replicate q.count q.page ++ z) (expand_longer rs n r (omega (arith, h)) is)
    ∙ sym (append_assoc (replicate q.count q.page) (expand rs) (r.page ∷ []))

-- or the run stays as it is
pub extended : (b : Bool) (rs : List PageRun) (n : ℕ) (r q : PageRun) (p : List ℕ) → suc n ≡ length rs → r ≡ get_or rs n r → MatchBool b ((r.page ≡ p) × (q ≡ record r { count = r.count + 1 })) (q ≡ r)
    → MatchBool b (expand (set rs n q) ≡ expand rs ++ p ∷ []) (expand (set rs n q) ≡ expand rs)
extended true rs n r q p last is law =
    let h : n < length rs = omega arith in
    ap (λ x. expand (set rs n x)) law.1 ∙ expand_longer rs n r last (is ∙ sym (get_or_default rs n no_run r h)) ∙ ap (λ x. expand rs ++ x ∷ []) law.0
extended false rs n r q p last is law = ap (λ x. expand (set rs n x)) (law ∙ is) ∙ ap expand (set-get_or rs n r)

-- ---- a run that is cut in two

pub cut_run : ℕ → ℕ → List PageRun → List PageRun
cut_run n o [] = []
cut_run zero o (r ∷ rs) = record r { count = o } ∷ record r { count = r.count - o } ∷ rs
cut_run (suc n) o (r ∷ rs) = r ∷ cut_run n o rs

pub cut_is : (rs : List PageRun) (n o : ℕ) (r : PageRun) → n < length rs → r ≡ get_or rs n no_run
    → take (suc n) (set rs n (record r { count = o })) ++ record r { count = r.count - o } ∷ drop (suc n) (set rs n (record r { count = o })) ≡ cut_run n o rs
unfolding cut_run
cut_is [] n o r h is = absurd (omega (arith, h))
cut_is (q ∷ rs) zero o r h is = ap (λ (x : PageRun). cut_run 0 o (x ∷ rs)) is
cut_is (q ∷ rs) (suc n) o r h is = ap (λ x. q ∷ x) (cut_is rs n o r (omega (arith, h)) is)

pub expand_cut : (rs : List PageRun) (n o : ℕ) → n < length rs → o ≤ (get_or rs n no_run).count → expand (cut_run n o rs) ≡ expand rs
unfolding cut_run
expand_cut [] n o h inside = refl
expand_cut (r ∷ rs) zero o h inside =
    let whole : o + (r.count - o) ≡ r.count = omega (arith, inside) in
    sym (append_assoc (replicate o r.page) (replicate (r.count - o) r.page) (expand rs)) ∙ ap (λ z. z ++ expand rs) (replicate-append-replicate o (r.count - o) r.page ∙ ap (λ k. replicate k r.page) whole)
expand_cut (r ∷ rs) (suc n) o h inside = ap (λ z. replicate r.count r.page ++ z) (expand_cut rs n o (omega (arith, h)) inside)

pub length-cut : (rs : List PageRun) (n o : ℕ) → n < length rs → length (cut_run n o rs) ≡ suc (length rs)
unfolding cut_run
length-cut [] n o h = absurd (omega (arith, h))
length-cut (r ∷ rs) zero o h = refl
length-cut (r ∷ rs) (suc n) o h = ap suc (length-cut rs n o (omega (arith, h)))

pub before_cut : (rs : List PageRun) (n o : ℕ) → n < length rs → before (suc n) (cut_run n o rs) ≡ before n rs + o
unfolding cut_run
before_cut [] n o h = absurd (omega (arith, h))
before_cut (r ∷ rs) zero o h = omega arith
before_cut (r ∷ rs) (suc n) o h = let rest = before_cut rs n o (omega (arith, h)) in omega (arith, rest)

low_stays : (rs : List PageRun) (n o m : ℕ) → m ≤ n → before m (cut_run n o rs) ≡ before m rs
unfolding cut_run
low_stays rs n o zero h = refl
low_stays [] n o (suc m) h = refl
low_stays (r ∷ rs) zero o (suc m) h = absurd (omega (arith, h))
low_stays (r ∷ rs) (suc n) o (suc m) h = ap (λ k. r.count + k) (low_stays rs n o m (omega (arith, h)))

-- the runs that begin before the cut stay
pub cut_keeps : (rs : List PageRun) (n o m : ℕ) → n < length rs → o < (get_or rs n no_run).count → before m rs < before n rs + o → before m (cut_run n o rs) ≡ before m rs
cut_keeps rs n o m h inside low = go (cases_lt n m)
  where
    go : (n < m) ⊎ (m ≤ n) → before m (cut_run n o rs) ≡ before m rs
    go (inl far) = let up = before_le rs (suc n) m (omega (arith, far)) in let next = before_next rs n h in absurd (omega (arith, up, next, inside, low))
    go (inr near) = low_stays rs n o m near

-- what a cut at checkpoint `at`, in front of run n, leaves
pub record IsCut (old new : List PageRun) (at n : ℕ) : Type 0 where
  pub same : expand new ≡ expand old
  pub inside : n ≤ length new
  pub place : before n new ≡ at
  pub kept : (m : ℕ) → before m old < at → before m new ≡ before m old

pub cut_holds : (rs seen new : List PageRun) (n o at : ℕ) (r first rest : PageRun) → n < length rs → seen ≡ rs → before n seen + o ≡ at → (n < length seen → o < (get_or seen n no_run).count)
    → r ≡ get_or rs n r → first ≡ record r { count = o } → rest ≡ record r { count = r.count - o }
    → new ≡ take (n + 1) (set rs n first) ++ rest ∷ drop (n + 1) (set rs n first) → IsCut rs new at (n + 1)
cut_holds rs seen new n o at r first rest h same reaches inside is first_is rest_is new_is = record {
  same = ap expand cut ∙ expand_cut rs n o h (omega (arith, in_run));
  inside = let long = ap length cut ∙ length-cut rs n o h in omega (arith, long, h);
  place = rw add-one (ap (before (suc n)) cut ∙ before_cut rs n o h ∙ reached);
  kept = λ m low. ap (before m) cut ∙ cut_keeps rs n o m h in_run (omega (arith, low, reached));
}
  where
    run_is : r ≡ get_or rs n no_run
    run_is = is ∙ sym (get_or_default rs n no_run r h)

    reached : before n rs + o ≡ at
    reached = ap (λ xs. before n xs + o) (sym same) ∙ reaches

    in_run : o < (get_or rs n no_run).count
    in_run = let long = ap length same in let below = inside (omega (arith, long, h)) in rw same at below

    cut : new ≡ cut_run n o rs
    cut = new_is ∙ ap (λ k. take k (set rs n first) ++ rest ∷ drop k (set rs n first)) (add-one n)
        ∙ ap₂ (λ x y. take (suc n) (set rs n x) ++ y ∷ drop (suc n) (set rs n x)) first_is rest_is
        ∙ cut_is rs n o r h run_is

pub split_inside : (rs seen : List PageRun) (n o : ℕ) (r : PageRun) → n < length rs → seen ≡ rs → (n < length seen → o < (get_or seen n no_run).count) → r ≡ get_or rs n r → o ≤ r.count
split_inside rs seen n o r h same inside is =
    let long = ap length same in
    let below = inside (omega (arith, long, h)) in
    let in_run = rw same at below in
    let count = ap (λ (x : PageRun). x.count) (is ∙ sym (get_or_default rs n no_run r h)) in
    omega (arith, in_run, count)

-- ---- a byte that is set in the pages of some runs

pred : ℕ → ℕ
pred zero = zero
pred (suc n) = n

get_run : (n : ℕ) (p : List ℕ) (xs : List (List ℕ)) (i : ℕ) → get_or (replicate n p ++ xs) i [] ≡ cond (ltb i n) p (get_or xs (i - n) [])
get_run n p xs i = go (cases_lt i n)
  where
    go : (i < n) ⊎ (n ≤ i) → get_or (replicate n p ++ xs) i [] ≡ cond (ltb i n) p (get_or xs (i - n) [])
    go (inl h) = rw (lt-ltb i n h) (get_or_append_left (replicate n p) xs [] i (omega (arith, h, length-replicate n p)) ∙ get_or-replicate n i p [] h)
    go (inr h) = rw (le-ltb i n h) (get_or-append_right (replicate n p) xs n i [] (length-replicate n p) h)

in_first : (first last i : ℕ) (r : PageRun) (rs : List PageRun) → i < r.count → (leb (before first (r ∷ rs)) i && ltb i (before last (r ∷ rs))) ≡ (leb first 0 && ltb 0 last)
in_first zero zero i r rs h = grind (arith, nat_tests)
in_first zero (suc l) i r rs h = grind (arith, nat_tests)
in_first (suc f) zero i r rs h = grind (arith, nat_tests)
in_first (suc f) (suc l) i r rs h = grind (arith, nat_tests)

in_rest : (first last i : ℕ) (r : PageRun) (rs : List PageRun) → r.count ≤ i
    → (leb (before first (r ∷ rs)) i && ltb i (before last (r ∷ rs))) ≡ (leb (before (pred first) rs) (i - r.count) && ltb (i - r.count) (before (pred last) rs))
unfolding pred
in_rest zero zero i r rs h = grind (arith, nat_tests)
in_rest zero (suc l) i r rs h = grind (arith, nat_tests)
in_rest (suc f) zero i r rs h = grind (arith, nat_tests)
in_rest (suc f) (suc l) i r rs h = grind (arith, nat_tests)

next_run : (first last j : ℕ) → (leb first (suc j) && ltb (suc j) last) ≡ (leb (pred first) j && ltb j (pred last))
unfolding pred
next_run zero zero j = grind (arith, nat_tests)
next_run zero (suc l) j = grind (arith, nat_tests)
next_run (suc f) zero j = grind (arith, nat_tests)
next_run (suc f) (suc l) j = grind (arith, nat_tests)

same_choice : {X : Type 0} (b : Bool) (x : X) → x ≡ cond b x x
same_choice true x = refl
same_choice false x = refl

count_stays : (b : Bool) (a v : ℕ) (r : PageRun) → (cond b (with_byte a v r) r).count ≡ r.count
count_stays true a v r = refl
count_stays false a v r = refl

page_changes : (b : Bool) (a v : ℕ) (r : PageRun) → (cond b (with_byte a v r) r).page ≡ cond b (set r.page (a % 4096) v) r.page
page_changes true a v r = refl
page_changes false a v r = refl

pub set_expands : (a v : ℕ) (old new : List PageRun) (first last : ℕ) → length new ≡ length old
    → ((j : ℕ) → get_or new j no_run ≡ cond (leb first j && ltb j last) (with_byte a v (get_or old j no_run)) (get_or old j no_run))
    → (i : ℕ) → get_or (expand new) i [] ≡ cond (leb (before first old) i && ltb i (before last old)) (set (get_or (expand old) i []) (a % 4096) v) (get_or (expand old) i [])
set_expands a v [] [] first last long each i = same_choice (leb (before first []) i && ltb i (before last [])) []
set_expands a v [] (q ∷ qs) first last long each i = absurd (omega (arith, long))
set_expands a v (r ∷ rs) [] first last long each i = absurd (omega (arith, long))
set_expands a v (r ∷ rs) (q ∷ qs) first last long each i =
    get_run q.count q.page (expand qs) i
    ∙ ap (λ n. cond (ltb i n) q.page (get_or (expand qs) (i - n) [])) same_count
    ∙ ap (λ p. cond (ltb i r.count) p (get_or (expand qs) (i - r.count) [])) page
    ∙ go (cases_lt i r.count)
    (set_expands a v rs qs (pred first) (pred last) (omega (arith, long)) (λ j. each (suc j) ∙ ap (λ b. cond b (with_byte a v (get_or rs j no_run)) (get_or rs j no_run)) (next_run first last j)) (i - r.count))
  where
    head : q ≡ cond (leb first 0 && ltb 0 last) (with_byte a v r) r
    head = each 0

    same_count : q.count ≡ r.count
    same_count = ap (λ (x : PageRun). x.count) head ∙ count_stays (leb first 0 && ltb 0 last) a v r

    page : q.page ≡ cond (leb first 0 && ltb 0 last) (set r.page (a % 4096) v) r.page
    page = ap (λ (x : PageRun). x.page) head ∙ page_changes (leb first 0 && ltb 0 last) a v r

    go : (i < r.count) ⊎ (r.count ≤ i)
        → get_or (expand qs) (i - r.count) []
        ≡ cond (leb (before (pred first) rs) (i - r.count) && ltb (i - r.count) (before (pred last) rs)) (set (get_or (expand rs) (i - r.count) []) (a % 4096) v) (get_or (expand rs) (i - r.count) [])
        → cond (ltb i r.count) (cond (leb first 0 && ltb 0 last) (set r.page (a % 4096) v) r.page) (get_or (expand qs) (i - r.count) [])
        ≡ cond (leb (before first (r ∷ rs)) i && ltb i (before last (r ∷ rs))) (set (get_or (expand (r ∷ rs)) i []) (a % 4096) v) (get_or (expand (r ∷ rs)) i [])
    go (inl h) rest = rw (get_run r.count r.page (expand rs) i, lt-ltb i r.count h, in_first first last i r rs h) refl
    go (inr h) rest = rw (get_run r.count r.page (expand rs) i, le-ltb i r.count h, in_rest first last i r rs h) rest

pub set_long : (a v : ℕ) (old new : List PageRun) (first last : ℕ) → length new ≡ length old
    → ((j : ℕ) → get_or new j no_run ≡ cond (leb first j && ltb j last) (with_byte a v (get_or old j no_run)) (get_or old j no_run))
    → length (expand new) ≡ length (expand old)
set_long a v [] [] first last long each = refl
set_long a v [] (q ∷ qs) first last long each = absurd (omega (arith, long))
set_long a v (r ∷ rs) [] first last long each = absurd (omega (arith, long))
set_long a v (r ∷ rs) (q ∷ qs) first last long each =
    let count = ap (λ (x : PageRun). x.count) (each 0) ∙ count_stays (leb first 0 && ltb 0 last) a v r in
    let rest = set_long a v rs qs (pred first) (pred last) (omega (arith, long)) (λ j. each (suc j) ∙ ap (λ b. cond b (with_byte a v (get_or rs j no_run)) (get_or rs j no_run)) (next_run first last j)) in
    omega (arith, long_run q qs, long_run r rs, count, rest)

-- ---- a byte that is set in the pages from one checkpoint on and below another

module _ (a v low end first last : ℕ) (rs one two new : List PageRun) (whole : List (List ℕ)) (all_is : expand rs ≡ whole) (some : low < end)
    (same : expand one ≡ expand rs) (at_low : before first one ≡ low) (same_again : expand two ≡ expand one) (at_end : before last two ≡ end)
    (kept : (m : ℕ) → before m one < end → before m two ≡ before m one) (long : length new ≡ length two)
    (each : (j : ℕ) → get_or new j no_run ≡ cond (leb first j && ltb j last) (with_byte a v (get_or two j no_run)) (get_or two j no_run)) where
  old_is : expand two ≡ whole
  old_is = same_again ∙ same ∙ all_is

  starts : before first two ≡ low
  starts = kept first (omega (arith, at_low, some)) ∙ at_low

  pub set_between : (i : ℕ) → get_or (expand new) i [] ≡ cond (leb low i && ltb i end) (set (get_or whole i []) (a % 4096) v) (get_or whole i [])
  set_between i =
      set_expands a v two new first last long each i
      ∙ ap₂ (λ m n. cond (leb m i && ltb i n) (set (get_or (expand two) i []) (a % 4096) v) (get_or (expand two) i [])) starts at_end
      ∙ ap (λ xs. cond (leb low i && ltb i end) (set (get_or xs i []) (a % 4096) v) (get_or xs i [])) old_is

  pub set_whole_long : length (expand new) ≡ length whole
  set_whole_long = set_long a v two new first last long each ∙ ap length old_is
