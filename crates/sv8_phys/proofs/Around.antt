-- One of the lists of sixteen that a list of handles holds, one after the other, and what stands before and behind it.
use Rattle.std.proofs.Common.{◌≡◌, ℕ, zero, suc, ◌+◌, ◌-◌, ◌*◌, ◌<◌, List, [], ◌∷◌, ◌++◌, length, get_or, set, flat_map, sym, ap, ◌∙◌, arith, length-append, length-set}
use Rattle.std.proofs.lemmas.List.{append_assoc, get_or_append_left, get_or-append_right, set-append_left, set-append_right, set-get_or}
use Rattle.std.proofs.lemmas.List.Concat.{flat_map-cons}

module _ {H A : Type 0} (held : H → List A) (full : (h : H) → length (held h) ≡ 16) where
  abbrev all : List H → List A
  all handles = flat_map held handles

  -- what stands around the list of handle g, whichever handle that is
  pub record Around (handles : List H) (g : ℕ) : Type 0 where
    pub front : List A
    pub behind : List A
    pub fronted : length front ≡ 16 * g
    pub whole : (h : H) → all (set handles g h) ≡ front ++ held h ++ behind

  around : (handles : List H) (g : ℕ) → g < length handles → Around handles g
  around [] g below = absurd (omega arith)
  around (h ∷ handles) zero below = record { front = []; behind = all handles; fronted = omega arith; whole = λ new. flat_map-cons held new handles }
  around (h ∷ handles) (suc g) below =
      let rest = around handles g (omega arith) in
      record {
        front = held h ++ rest.front;
        behind = rest.behind;
        fronted = length-append (held h) rest.front ∙ omega (arith, full h, rest.fronted);
        whole = λ new.
            flat_map-cons held h (set handles g new)
            ∙ ap (λ xs. held h ++ xs) (rest.whole new)
            ∙ sym (append_assoc (held h) (rest.front ++ held new) rest.behind)
            ∙ ap (λ xs. xs ++ rest.behind) (sym (append_assoc (held h) rest.front (held new)));
      }

  -- their number
  pub length-groups : (handles : List H) → length (all handles) ≡ 16 * length handles
  length-groups [] = omega arith
  length-groups (h ∷ handles) = ap length (flat_map-cons held h handles) ∙ length-append (held h) (all handles) ∙ omega (arith, full h, length-groups handles)

  -- one of those between a front and the rest is replaced
  set_between : (front xs behind : List A) (n k : ℕ) (x : A) → length front ≡ n → k < length xs → set (front ++ xs ++ behind) (n + k) x ≡ front ++ set xs k x ++ behind
  set_between front xs behind n k x e below =
      let place : n + k - n ≡ k = omega arith in
      ap (λ ys. set ys (n + k) x) (append_assoc front xs behind)
      ∙ set-append_right front (xs ++ behind) n (n + k) x e (omega arith)
      ∙ ap (λ j. front ++ set (xs ++ behind) j x) place
      ∙ ap (λ ys. front ++ ys) (set-append_left xs behind k x below)
      ∙ sym (append_assoc front (set xs k x) behind)

  module _ (handles : List H) (g : ℕ) (h : H) (below : g < length handles) where
    it : Around handles g
    it = around handles g below

    -- what stands around the handle that is there
    there : all handles ≡ it.front ++ held (get_or handles g h) ++ it.behind
    there = ap all (sym (set-get_or handles g h)) ∙ it.whole (get_or handles g h)

    -- the handle is replaced by one that holds the same
    pub group_kept : (new : H) → held new ≡ held (get_or handles g h) → all (set handles g new) ≡ all handles
    group_kept new e = it.whole new ∙ ap (λ xs. it.front ++ xs ++ it.behind) e ∙ sym there

    -- by one that holds another in one place
    pub group_changed : (new : H) (k : ℕ) (x : A) → k < 16 → held new ≡ set (held (get_or handles g h)) k x → all (set handles g new) ≡ set (all handles) (16 * g + k) x
    group_changed new k x inside e =
        it.whole new
        ∙ ap (λ xs. it.front ++ xs ++ it.behind) e
        ∙ sym (set_between it.front (held (get_or handles g h)) it.behind (16 * g) k x it.fronted (omega (arith, full (get_or handles g h))))
        ∙ ap (λ xs. set xs (16 * g + k) x) (sym there)

    -- by one that holds others in two places
    pub group_changed_twice : (new : H) (k l : ℕ) (x y : A) → k < 16 → l < 16 → held new ≡ set (set (held (get_or handles g h)) k x) l y
        → all (set handles g new) ≡ set (set (all handles) (16 * g + k) x) (16 * g + l) y
    group_changed_twice new k l x y k_in l_in e =
        let old = held (get_or handles g h) in
        let count : length (set old k x) ≡ 16 = length-set old k x ∙ full (get_or handles g h) in
        it.whole new
        ∙ ap (λ xs. it.front ++ xs ++ it.behind) e
        ∙ sym (set_between it.front (set old k x) it.behind (16 * g) l y it.fronted (omega (arith, count)))
        ∙ ap (λ xs. set xs (16 * g + l) y) (sym (set_between it.front old it.behind (16 * g) k x it.fronted (omega (arith, full (get_or handles g h)))) ∙ ap (λ xs. set xs (16 * g + k) x) (sym there))

    -- one of those that a handle holds
    pub in_group : (k : ℕ) (d : A) → k < 16 → get_or (all handles) (16 * g + k) d ≡ get_or (held (get_or handles g h)) k d
    in_group k d inside =
        let old = held (get_or handles g h) in
        let place : 16 * g + k - 16 * g ≡ k = omega arith in
        ap (λ xs. get_or xs (16 * g + k) d) (there ∙ append_assoc it.front old it.behind)
        ∙ get_or-append_right it.front (old ++ it.behind) (16 * g) (16 * g + k) d it.fronted (omega arith)
        ∙ ap (λ j. get_or (old ++ it.behind) j d) place
        ∙ get_or_append_left old it.behind d k (omega (arith, full (get_or handles g h)))
