-- Lemmas on what reaches a writer that may fail.
use Rattle.std.proofs.Common.{◌≡◌, ℕ, suc, ◌+◌, ◌-◌, ◌<◌, ◌≤◌, List, [], ◌∷◌, ◌++◌, length, take, drop, Option, Some, None, Result, Ok, Err, refl, sym, ap, ◌∙◌, append_assoc, append-nil, arith, length-append, take-append-drop, length-take, subst, get_or, flat_map, drop-cons, add-one}
use Rattle.std.proofs.Math.Seq.{take-suc}
use Rattle.std.proofs.lemmas.List.{take_rest}
use Rattle.std.proofs.lemmas.Grind.{flat_map-append}
use Rattle.std.specs.Io.KnownBytes.{Appends, Keeps}
use Rattle.std.specs.Result.{IsErr}
use Rattle.std.proofs.KnownBytes.{Appends-nil, Appends-trans, Appends-kept}
use Rattle.sv8_session.specs.Put.{AppendsPart, Puts}
use Rattle.sv8_commands.specs.Put.{Gained, Gains}

-- of these bytes a front was written, by at least as many bytes as turns
pub record Wrote (old now : Option (List ℕ)) (bytes rest : List ℕ) (turns : ℕ) : Type 0 where
  pub front : List ℕ
  pub is : bytes ≡ front ++ rest
  pub gained : Appends old now front
  pub turned : turns ≤ length front

pub Wrote-more : (a b c : Option (List ℕ)) (bytes rest : List ℕ) (turns n : ℕ) → Wrote a b bytes rest turns → Appends b c (take n rest) → 0 < n → n ≤ length rest
    → Wrote a c bytes (drop n rest) (turns + 1)
Wrote-more a b c bytes rest turns n w h some fits = record {
  front = w.front ++ take n rest;
  is = w.is ∙ ap (λ l. w.front ++ l) (sym (take-append-drop n rest)) ∙ sym (append_assoc w.front (take n rest) (drop n rest));
  gained = Appends-trans a b c w.front (take n rest) w.gained h;
  turned = (let t = w.turned in omega (arith, length-append w.front (take n rest), length-take n rest));
}

none_left : (xs : List ℕ) → length xs ≤ 0 → xs ≡ []
none_left [] h = refl
none_left (x ∷ xs) h = absurd (omega arith)

-- ---- one after the other

pub part-more : (a b : Option (List ℕ)) (xs ys : List ℕ) → AppendsPart a b xs → AppendsPart a b (xs ++ ys)
part-more a b xs ys p = record {
  part = p.part;
  first = record { rest = p.first.rest ++ ys; is = ap (λ l. l ++ ys) p.first.is ∙ append_assoc p.part p.first.rest ys };
  gained = p.gained;
}

pub part-after : (a b c : Option (List ℕ)) (xs ys : List ℕ) → Appends a b xs → AppendsPart b c ys → AppendsPart a c (xs ++ ys)
part-after a b c xs ys h p = record {
  part = xs ++ p.part;
  first = record { rest = p.first.rest; is = ap (λ l. xs ++ l) p.first.is ∙ sym (append_assoc xs p.part p.first.rest) };
  gained = Appends-trans a b c xs p.part h p.gained;
}

pub Puts-after : {A E : Type 0} (r : Result A E) (a b c : Option (List ℕ)) (xs ys : List ℕ) → Appends a b xs → Puts r b c ys → Puts r a c (xs ++ ys)
Puts-after (Ok _) a b c xs ys h p = Appends-trans a b c xs ys h p
Puts-after (Err _) a b c xs ys h p = part-after a b c xs ys h p

-- the same where what is left is written as a range
pub Wrote-range : (a b c : Option (List ℕ)) (bytes rest : List ℕ) (turns n : ℕ) → Wrote a b bytes rest turns → Appends b c (take n rest) → 0 < n → n ≤ length rest
    → Wrote a c bytes (take (length rest - n) (drop n rest)) (turns + 1)
Wrote-range a b c bytes rest turns n w h some fits = rw take_rest (Wrote-more a b c bytes rest turns n w h some fits)

-- ---- with a text that waits

pub gained-none : (a : Option (List ℕ)) (w : List ℕ) → Gained a a w w []
gained-none a w = record { written = []; put = Appends-nil a; is = append-nil w }

-- bytes were added to what waits
pub gained-more : (a b : Option (List ℕ)) (w x y s t : List ℕ) → Gained a b w x s → y ≡ x ++ t → Gained a b w y (s ++ t)
gained-more a b w x y s t g e = record {
  written = g.written;
  put = g.put;
  is = sym (append_assoc w s t) ∙ ap (λ l. l ++ t) g.is ∙ append_assoc g.written x t ∙ ap (λ l. g.written ++ l) (sym e);
}

-- what waits, after some bytes, and then some more
joined : (w x s p t : List ℕ) → w ++ s ≡ p ++ x → w ++ (s ++ t) ≡ p ++ (x ++ t)
joined w x s p t e = sym (append_assoc w s t) ∙ ap (λ l. l ++ t) e ∙ append_assoc p x t

pub Gains-after : {A E : Type 0} (r : Result A E) (a b c : Option (List ℕ)) (w x y s t : List ℕ) → Gained a b w x s → Gains r b c x y t → Gains r a c w y (s ++ t)
Gains-after (Ok _) a b c w x y s t g h = record {
  written = g.written ++ h.written;
  put = Appends-trans a b c g.written h.written g.put h.put;
  is = joined w x s g.written t g.is ∙ ap (λ l. g.written ++ l) h.is ∙ sym (append_assoc g.written h.written y);
}
Gains-after (Err _) a b c w x y s t g h = subst (AppendsPart a c) (sym (joined w x s g.written t g.is)) (part-after a b c g.written (x ++ t) g.put h)

-- a failure after a first part, where more was due
pub gains-cut : (a b : Option (List ℕ)) (w s t : List ℕ) → AppendsPart a b (w ++ s) → AppendsPart a b (w ++ (s ++ t))
gains-cut a b w s t p = subst (AppendsPart a b) (append_assoc w s t) (part-more a b (w ++ s) t p)

-- a failure after a part of what was to be put, or gained
pub puts-failed : {A E : Type 0} (r : Result A E) (a b : Option (List ℕ)) (s : List ℕ) → IsErr r → AppendsPart a b s → Puts r a b s
puts-failed (Ok v) a b s h p = absurd (cc)
puts-failed (Err e) a b s h p = p

pub gains-failed : {A E : Type 0} (r : Result A E) (a b : Option (List ℕ)) (w x s : List ℕ) → IsErr r → AppendsPart a b (w ++ s) → Gains r a b w x s
gains-failed (Ok v) a b w x s h p = absurd (cc)
gains-failed (Err e) a b w x s h p = p

-- what waited was put, and then more
pub Puts-gained : {A E : Type 0} (r : Result A E) (a b c : Option (List ℕ)) (w x s t : List ℕ) → Gained a b w x s → Puts r b c (x ++ t) → Puts r a c (w ++ (s ++ t))
Puts-gained r a b c w x s t g h = subst (Puts r a c) (sym (joined w x s g.written t g.is)) (Puts-after r a b c g.written (x ++ t) g.put h)

-- nothing waits any more
all_put : (a b : Option (List ℕ)) (w x : List ℕ) → Gained a b w x [] → x ≡ [] → Appends a b w
all_put a b w x g e =
    let written : w ≡ g.written = sym (append-nil w) ∙ g.is ∙ ap (λ l. g.written ++ l) e ∙ append-nil g.written in
    subst (Appends a b) (sym written) g.put

-- all that waited was put, and bytes behind it
Gains-direct : {A E : Type 0} (r : Result A E) (a b c : Option (List ℕ)) (w x t : List ℕ) → Appends a b w → x ≡ [] → Puts r b c t → Gains r a c w x t
Gains-direct (Ok _) a b c w x t h e k = record { written = w ++ t; put = Appends-trans a b c w t h k; is = sym (append-nil (w ++ t)) ∙ ap (λ l. (w ++ t) ++ l) (sym e) }
Gains-direct (Err _) a b c w x t h e k = part-after a b c w t h k

-- the same after room was made
pub Gains-long : {A E : Type 0} (r : Result A E) (a b c : Option (List ℕ)) (w x t : List ℕ) → Gained a b w x [] → length x ≤ 0 → Puts r b c t → Gains r a c w x t
Gains-long r a b c w x t g h k = Gains-direct r a b c w x t (all_put a b w x g (none_left x h)) (none_left x h) k

-- ---- pieces

pub pieces-split : {X : Type 0} (f : X → List ℕ) (xs : List X) (i : ℕ) (d : X) → i < length xs → flat_map f xs ≡ flat_map f (take i xs) ++ (f (get_or xs i d) ++ flat_map f (drop (suc i) xs))
pieces-split f xs i d h =
    ap (flat_map f) (sym (take-append-drop i xs)) ∙ flat_map-append f (take i xs) (drop i xs) ∙ ap (λ l. flat_map f (take i xs) ++ flat_map f l) (drop-cons xs i d h)

-- one item's bytes were put in part
pub pieces-cut : {X : Type 0} (f : X → List ℕ) (xs : List X) (i : ℕ) (d : X) (a b c : Option (List ℕ)) (w x : List ℕ) → i < length xs → Gained a b w x (flat_map f (take i xs))
    → AppendsPart b c (x ++ f (get_or xs i d)) → AppendsPart a c (w ++ flat_map f xs)
pieces-cut f xs i d a b c w x h g p =
    let now = f (get_or xs i d) in
    let part : AppendsPart a c (w ++ (flat_map f (take i xs) ++ now)) = Gains-after {A = Unit {0}} {E = Unit {0}} (Err tt) a b c w x x (flat_map f (take i xs)) now g p in
    subst (λ l. AppendsPart a c (w ++ l)) (append_assoc (flat_map f (take i xs)) now (flat_map f (drop (suc i) xs)) ∙ sym (pieces-split f xs i d h))
    (gains-cut a c w (flat_map f (take i xs) ++ now) (flat_map f (drop (suc i) xs)) part)

-- one item's bytes were put
pub pieces-next : {X : Type 0} (f : X → List ℕ) (xs : List X) (i : ℕ) (d : X) (a b c : Option (List ℕ)) (w x y : List ℕ) → i < length xs → Gained a b w x (flat_map f (take i xs))
    → Gained b c x y (f (get_or xs i d)) → Gained a c w y (flat_map f (take (i + 1) xs))
pieces-next f xs i d a b c w x y h g q =
    let more : flat_map f (take (i + 1) xs) ≡ flat_map f (take i xs) ++ f (get_or xs i d) =
    ap (flat_map f) (rw (add-one, take-suc xs i d h) refl) ∙ flat_map-append f (take i xs) (get_or xs i d ∷ []) ∙ ap (λ l. flat_map f (take i xs) ++ l) (append-nil (f (get_or xs i d))) in
    subst (λ l. Gained a c w y l) (sym more) (Gains-after {A = Unit {0}} {E = Unit {0}} (Ok tt) a b c w x y (flat_map f (take i xs)) (f (get_or xs i d)) g q)
