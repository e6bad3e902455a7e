-- The words that one line can change.
use Rattle.std.proofs.Common.{◌≡◌, ◌∙◌, ℕ, zero, suc, ◌+◌, ◌-◌, ◌*◌, ◌≤◌, ◌<◌, ◌⊎◌, inl, inr, List, [], ◌∷◌, ◌++◌, length, take, drop, max, Some, false, cond, refl, sym, ap, add-zero, zero-add, add-one, arith}
use Rattle.std.specs.List.{slice_get, slice_index}
use Rattle.std.proofs.lemmas.Bool.Decides.{nat_tests}
use Rattle.std.proofs.lemmas.List.{take_all}
use Rattle.std.proofs.Math.ListN.{drop_of_length-le}
use Rattle.sv8_source.specs.Layout.{Place}
use Rattle.sv8_source.specs.Listing.{ListedLine, shown, shown_line, shown_all}
use Rattle.sv8_source.specs.Image.{covers, byte_at, changed, words}
use Rattle.sv8_source.specs.Text.{Assembly}
use Rattle.sv8_source.specs.Edits.{with_line_between, Within}
use Rattle.sv8_source.proofs.Changed.{changed_step, changed_skip}

-- ---- words outside of which nothing changes

changed_cut : (old new : List ListedLine) (k n m : ℕ) → ((b : ℕ) → 4 * (k + n) ≤ b → b < 4 * (k + n + m) → byte_at old b ≡ byte_at new b) → changed old new k (n + m) ≡ changed old new k n
unfolding changed
changed_cut old new k zero m h = rw (zero-add m) (ap (λ x. changed old new k x) (sym (add-zero m)) ∙ changed_skip old new k m 0 (λ b up below. h b (omega arith) (omega arith)))
changed_cut old new k (suc n) m h =
    let e : suc n + m ≡ suc (n + m) = omega arith in
    rw e (changed_step old new k (n + m)
    ∙ ap (λ x. changed old new k 1 ++ x) (changed_cut old new (k + 1) n m (λ b up below. h b (omega arith) (omega arith)))
    ∙ sym (changed_step old new k n))

within_words : (old new : List ListedLine) (at count first end all : ℕ) → ((b : ℕ) → (b < at) ⊎ (at + count ≤ b) → byte_at old b ≡ byte_at new b) → 4 * first ≤ at → first ≤ end → end ≤ all
    → (end ≡ all) ⊎ (at + count ≤ 4 * end) → changed old new first (end - first) ≡ changed old new 0 all
within_words old new at count first end all same low up most high =
    let e : all ≡ first + (all - first) = omega arith in
    sym (ap (λ x. changed old new 0 x) e ∙ changed_skip old new 0 first (all - first) (λ b from below. same b (inl (omega arith))) ∙ ap (λ x. changed old new x (all - first)) (zero-add first) ∙ go high)
  where
    go : (end ≡ all) ⊎ (at + count ≤ 4 * end) → changed old new first (all - first) ≡ changed old new first (end - first)
    go (inl f) = ap (λ x. changed old new first (x - first)) (sym f)
    go (inr f) =
        let g : all - first ≡ (end - first) + (all - end) = omega arith in
        ap (λ x. changed old new first x) g ∙ changed_cut old new first (end - first) (all - end) (λ b from below. same b (inr (omega arith)))

-- ---- one line of a listing

outside : (l : ListedLine) (at count b : ℕ) → l.address ≡ at → length l.bytes ≤ count → (b < at) ⊎ (at + count ≤ b) → covers l b ≡ false
outside l at count b e h (inl k) = let f : b < l.address = omega arith in grind (arith, nat_tests)
outside l at count b e h (inr k) = let f : l.address + length l.bytes ≤ b = omega arith in grind (arith, nat_tests)

other_line : (ps : List Place) (cs : List (List ℕ)) (i : ℕ) (p q : Place) (b c : List ℕ) (a : ℕ) → slice_get ps i ≡ Some p → slice_get cs i ≡ Some b → covers (shown_line p b) a ≡ false → covers (shown_line q c) a ≡ false
    → byte_at (shown ps cs) a ≡ byte_at (shown (take i ps ++ q ∷ drop (suc i) ps) (take i cs ++ c ∷ drop (suc i) cs)) a
other_line [] cs i p q b c a e f g h = absurd (cc)
other_line (p0 ∷ ps) [] i p q b c a e f g h = absurd (cc)
other_line (p0 ∷ ps) (b0 ∷ cs) zero p q b c a e f g h =
    let x : p0 ≡ p = cc in
    let y : b0 ≡ b = cc in
    rw (x, y, g, h) refl
other_line (p0 ∷ ps) (b0 ∷ cs) (suc i) p q b c a e f g h = ap (λ x. cond (covers (shown_line p0 b0) a) (slice_index b0 (a - p0.at)) x) (other_line ps cs i p q b c a e f g h)

one_more : (ps : List Place) (cs : List (List ℕ)) (q : Place) (c : List ℕ) (a : ℕ) → length cs ≡ length ps → covers (shown_line q c) a ≡ false → byte_at (shown ps cs) a ≡ byte_at (shown (ps ++ q ∷ []) (cs ++ c ∷ [])) a
one_more [] [] q c a e h = rw h refl
one_more [] (c0 ∷ cs) q c a e h = absurd (omega arith)
one_more (p0 ∷ ps) [] q c a e h = absurd (omega arith)
one_more (p0 ∷ ps) (c0 ∷ cs) q c a e h = ap (λ x. cond (covers (shown_line p0 c0) a) (slice_index c0 (a - p0.at)) x) (one_more ps cs q c a (omega arith) h)

-- ---- both kinds of edit

pub in_place_within : (limit i : ℕ) (a : Assembly) (p q : Place) (b c : List ℕ) (at first end : ℕ) → slice_get a.layout.places i ≡ Some p → slice_get a.code i ≡ Some b → q.at ≡ p.at
    → 4 * first ≤ p.at → first ≤ end → end ≤ words limit → (end ≡ words limit) ⊎ (p.at + max (length b) (length c) ≤ 4 * end) → Within a (with_line_between i (i + 1) q c at a) limit first end
in_place_within limit i a p q b c at first end e f g low up most high =
    rw (add-one i) (record { up = up; most = most; same = within_words (shown_all a) (shown (take i a.layout.places ++ q ∷ drop (suc i) a.layout.places) (take i a.code ++ c ∷ drop (suc i) a.code)) p.at (max (length b) (length c)) first end (words limit) same low up most high })
  where
    same : (x : ℕ) → (x < p.at) ⊎ (p.at + max (length b) (length c) ≤ x) → byte_at (shown_all a) x ≡ byte_at (shown (take i a.layout.places ++ q ∷ drop (suc i) a.layout.places) (take i a.code ++ c ∷ drop (suc i) a.code)) x
    same x h = other_line a.layout.places a.code i p q b c x e f
        (outside (shown_line p b) p.at (max (length b) (length c)) x refl (omega arith) h)
        (outside (shown_line q c) p.at (max (length b) (length c)) x g (omega arith) h)

pub behind_within : (limit n : ℕ) (a : Assembly) (q : Place) (c : List ℕ) (next at first end : ℕ) → length a.layout.places ≡ n → length a.code ≡ length a.layout.places → q.at ≡ at
    → 4 * first ≤ at → first ≤ end → end ≤ words limit → (end ≡ words limit) ⊎ (at + length c ≤ 4 * end) → Within a (with_line_between n n q c next a) limit first end
behind_within limit n a q c next at first end e f g low up most high =
    let code : length a.code ≤ n = omega (arith, e, f) in
    rw (take_all n a.layout.places (omega (arith, e)), drop_of_length-le a.layout.places {i = n} (omega (arith, e)), take_all n a.code code, drop_of_length-le a.code {i = n} code)
    (record { up = up; most = most; same = within_words (shown_all a) (shown (a.layout.places ++ q ∷ []) (a.code ++ c ∷ [])) at (length c) first end (words limit) same low up most high })
  where
    same : (x : ℕ) → (x < at) ⊎ (at + length c ≤ x) → byte_at (shown_all a) x ≡ byte_at (shown (a.layout.places ++ q ∷ []) (a.code ++ c ∷ [])) x
    same x h = one_more a.layout.places a.code q c x f (outside (shown_line q c) at (length c) x g (omega arith) h)

pub all_within : (limit : ℕ) (old new : Assembly) → Within old new limit 0 (words limit)
all_within limit old new = record { up = omega arith; most = omega arith; same = ap (λ n. changed (shown_all old) (shown_all new) 0 n) (omega arith) }
