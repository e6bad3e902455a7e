-- What a buffer keeps, as its parts change.
use Rattle.std.proofs.Common.{◌≡◌, ◌≢◌, ℕ, zero, suc, ◌+◌, ◌/◌, ◌%◌, ◌<◌, length, get_or, set, take, get_or-set_same, get_or-set_other, Bool, true, false, true≢false, ◌⊎◌, inl, inr, List, [], ◌∷◌, ◌++◌, Contains, Option, Some, None, IfSome, Result, Ok, Err, sym, ◌∙◌, ap, subst, arith}
use Rattle.std.proofs.lemmas.Bool.{cases_eq}
use Rattle.std.proofs.lemmas.List.Elements.{Contains-append_left, Contains-append_right, Contains-append_cases}
use Rattle.std.specs.Prelude.{OnOk, OnErr}
use Rattle.std.specs.Global.{Box}
use Rattle.std.specs.Map.{lookup}
use Rattle.lru.specs.LruCache.{LruCache, lru_cache, put_entries}
use Rattle.lru.proofs.Splits.{Contains-cons, Contains-nil}
use Rattle.lru.proofs.CallerLemmas.{Contains-lookup, Contains-put_entries}
use Rattle.sv8_mmu.specs.declared.buffer.Key.{Key}
use Rattle.sv8_mmu.specs.declared.walk.Walk.{Walk}
use Rattle.sv8_mmu.specs.Kept.{Kept, places_of, if_kept, entries_of, walks_of, is_marked, AreMarked, AreAmong, NoneReads, NoneReadsPage}
use Rattle.sv8_mmu.specs.contracts.buffer.KeyPartialEq as key

pub same_key : (a b : Key) → key.TheImpl.eq-value.it a b ≡ true → a ≡ b
same_key a b h = grind arith

same_pair : (k : Kept) (at : Key) (w : Walk) → k.0 ≡ at → k.1 ≡ w → k ≡ (at, w)
same_pair k at w p q = λ i. (p i, q i)

-- ---- none of a list has read an entry, or a page

pub none_reads-nil : (at : ℕ) → NoneReads at []
none_reads-nil at k h place c = absurd (Contains-nil k h)

pub none_reads-cons : (at : ℕ) (k : Kept) (ks : List Kept) → ((place : ℕ) → Contains (places_of k.1.trail) place → place ≢ at) → NoneReads at ks → NoneReads at (k ∷ ks)
none_reads-cons at k ks h r d c = elim (Contains-cons k ks d c) [ inl p ↦ subst (λ x. (place : ℕ) → Contains (places_of x.1.trail) place → place ≢ at) p h | inr t ↦ r d t ]

pub none_reads_page-nil : (page : ℕ) → NoneReadsPage page []
none_reads_page-nil page k h place c = absurd (Contains-nil k h)

pub none_reads_page-cons : (page : ℕ) (k : Kept) (ks : List Kept) → ((place : ℕ) → Contains (places_of k.1.trail) place → place / 4096 ≢ page) → NoneReadsPage page ks → NoneReadsPage page (k ∷ ks)
none_reads_page-cons page k ks h r d c =
    elim (Contains-cons k ks d c) [ inl p ↦ subst (λ x. (place : ℕ) → Contains (places_of x.1.trail) place → place / 4096 ≢ page) p h | inr t ↦ r d t ]

-- ---- flags of pages

pub still_marked : (pages : List Bool) (i place : ℕ) → i < length pages → is_marked pages place ≡ true → is_marked (set pages i true) place ≡ true
still_marked pages i place lt h = elim (cases_eq (place / 4096 % 256) i) [
  | inl e ↦ subst (λ j. get_or (set pages i true) j false ≡ true) (sym e) (get_or-set_same pages i true false lt)
  | inr n ↦ get_or-set_other pages i (place / 4096 % 256) true false n ∙ h
]

now_marked : (pages : List Bool) (place : ℕ) → place / 4096 % 256 < length pages → is_marked (set pages (place / 4096 % 256) true) place ≡ true
now_marked pages place lt = get_or-set_same pages (place / 4096 % 256) true false lt

-- each place is marked or among those that are left
pub mark_next : (pages : List Bool) (rest after : List ℕ) (at m n : ℕ) → (rest ≡ at ∷ after) × (m + 1 ≡ n) → at / 4096 % 256 < length pages → (place : ℕ)
    → Contains (take n rest) place ⊎ (is_marked pages place ≡ true) → Contains (take m after) place ⊎ (is_marked (set pages (at / 4096 % 256) true) place ≡ true)
mark_next pages rest after at m n e lt place (inr h) = inr (still_marked pages (at / 4096 % 256) place lt h)
mark_next pages rest after at m n e lt place (inl h) =
    let z : m + 1 ≡ suc m = omega arith in
    let q : n ≡ suc m = sym e.1 ∙ z in
    let k : take n rest ≡ at ∷ take m after = ap (λ j. take j rest) q ∙ ap (take (suc m)) e.0 in
    elim (Contains-cons at (take m after) place (subst (λ l. Contains l place) k h)) [
      | inl p ↦ inr (subst (λ x. is_marked (set pages (at / 4096 % 256) true) x ≡ true) p (now_marked pages at lt))
      | inr t ↦ inl t
    ]

-- none is left
pub mark_last : (pages : List Bool) (rest : List ℕ) (n : ℕ) → (0 < n → length rest ≡ 0) → (place : ℕ) → Contains (take n rest) place ⊎ (is_marked pages place ≡ true) → is_marked pages place ≡ true
mark_last pages rest n e place (inr h) = h
mark_last pages rest zero e place (inl h) = absurd (Contains-nil place h)
mark_last pages [] (suc n) e place (inl h) = absurd (Contains-nil place h)
mark_last pages (p ∷ rest) (suc n) e place (inl h) = absurd (let z = e (omega arith) in omega arith)

-- ---- the cache

-- a look-up finds what is kept for the key itself
pub recalled : (at : Key) (ks : List Kept) (o : Option Walk) → o ≡ lookup (key.TheImpl.eq-value.it at) ks → IfSome o (λ w. Contains ks (at, w))
recalled at ks None h = tt
recalled at ks (Some w) h =
    let f = Contains-lookup (key.TheImpl.eq-value.it at) ks w (sym h) in
    subst (λ j. Contains ks (j, w)) (sym (same_key at f.0 f.2)) f.1

-- a pair that is put is there for the key itself
pub stored : {A B : Type 0} (c new : LruCache Key Walk) (at : Key) (w : Walk) (r : Result A B) →
    OnOk r (new ≡ lru_cache (put_entries key.TheImpl.eq-value.it c at w) c.cap) → OnErr r (new ≡ c) → (k : Kept) → Contains new.entries k → Contains c.entries k ⊎ (k ≡ (at, w))
stored c new at w (Ok x) h g k m =
    elim (Contains-put_entries key.TheImpl.eq-value.it c at w k (subst (λ z. Contains z.entries k) h m)) [
      | inl was ↦ inl was
      | inr p ↦ elim p.1 [
        | inl q ↦ inr (same_pair k at w q p.0)
        | inr q ↦ inr (same_pair k at w (sym (same_key at k.0 q.2)) p.0)
      ]
    ]
stored c new at w (Err x) h g k m = inl (subst (λ z. Contains z.entries k) g m)

-- ---- the buffer's list, behind a box

-- what the box holds is the whole list
pub in_box : (o : Option (Box (List Kept))) (walks : Box (List Kept)) (held all : List Kept) → walks_of o ≡ all → o ≡ Some walks → held ≡ walks.value → held ≡ all
in_box o walks held all view is value = value ∙ sym (ap walks_of is) ∙ view

-- what is among the walks in the box is among all
pub among_box : (o : Option (Box (List Kept))) (walks : Box (List Kept)) (held new all : List Kept) → walks_of o ≡ all → o ≡ Some walks → held ≡ walks.value → AreAmong new held → AreAmong new all
among_box o walks held new all view is value among = subst (AreAmong new) (in_box o walks held all view is value) among

-- and so is what has not changed
pub among_same : (o : Option (Box (List Kept))) (all : List Kept) → walks_of o ≡ all → AreAmong (walks_of o) all
among_same o all view = subst (AreAmong (walks_of o)) view (λ k m. m)

-- ---- that list: the memos, and then the cache

-- what holds of each part holds of the whole
pub each_part : (P : Kept → Type 0) (a b c d : List Kept) → ((k : Kept) → Contains a k → P k) → ((k : Kept) → Contains b k → P k) → ((k : Kept) → Contains c k → P k) → ((k : Kept) → Contains d k → P k)
    → (k : Kept) → Contains (a ++ b ++ c ++ d) k → P k
each_part P a b c d e f g h k m = elim (Contains-append_cases (a ++ b ++ c) d k m) [
  | inl abc ↦ elim (Contains-append_cases (a ++ b) c k abc) [
    | inl ab ↦ elim (Contains-append_cases a b k ab) [ inl x ↦ e k x | inr y ↦ f k y ]
    | inr z ↦ g k z
  ]
  | inr z ↦ h k z
]

pub sole : (P : Kept → Type 0) (f : Kept) → P f → (k : Kept) → Contains (f ∷ []) k → P k
sole P f p k m = elim (Contains-cons f [] k m) [ inl e ↦ subst P e p | inr n ↦ absurd (Contains-nil k n) ]

module _ (fetch load store : Option Kept) (cache : Option (LruCache Key Walk)) (all : List Kept) (view : if_kept fetch ++ if_kept load ++ if_kept store ++ entries_of cache ≡ all) where
  in_memos : (k : Kept) → Contains (if_kept fetch ++ if_kept load ++ if_kept store) k → Contains all k
  in_memos k m = subst (λ z. Contains z k) view (Contains-append_left (if_kept fetch ++ if_kept load ++ if_kept store) (entries_of cache) k m)

  in_fetch : (k : Kept) → Contains (if_kept fetch) k → Contains all k
  in_fetch k m = in_memos k (Contains-append_left (if_kept fetch ++ if_kept load) (if_kept store) k (Contains-append_left (if_kept fetch) (if_kept load) k m))

  in_load : (k : Kept) → Contains (if_kept load) k → Contains all k
  in_load k m = in_memos k (Contains-append_left (if_kept fetch ++ if_kept load) (if_kept store) k (Contains-append_right (if_kept fetch) (if_kept load) k m))

  in_store : (k : Kept) → Contains (if_kept store) k → Contains all k
  in_store k m = in_memos k (Contains-append_right (if_kept fetch ++ if_kept load) (if_kept store) k m)

  pub in_cache : (k : Kept) → Contains (entries_of cache) k → Contains all k
  in_cache k m = subst (λ z. Contains z k) view (Contains-append_right (if_kept fetch ++ if_kept load ++ if_kept store) (entries_of cache) k m)

  -- the cache after a look-up
  module _ (new : Option (LruCache Key Walk)) (among : AreAmong (entries_of new) (entries_of cache)) where
    cached : (k : Kept) → Contains (entries_of new) k → Contains all k
    cached k m = in_cache k (among k m)

    pub found_nothing : AreAmong (if_kept fetch ++ if_kept load ++ if_kept store ++ entries_of new) all
    found_nothing = each_part (Contains all) (if_kept fetch) (if_kept load) (if_kept store) (entries_of new) in_fetch in_load in_store cached

    pub found_fetch : (f : Kept) → Contains (entries_of cache) f → AreAmong (f ∷ [] ++ if_kept load ++ if_kept store ++ entries_of new) all
    found_fetch f c = each_part (Contains all) (f ∷ []) (if_kept load) (if_kept store) (entries_of new) (sole (Contains all) f (in_cache f c)) in_load in_store cached

    pub found_load : (f : Kept) → Contains (entries_of cache) f → AreAmong (if_kept fetch ++ f ∷ [] ++ if_kept store ++ entries_of new) all
    found_load f c = each_part (Contains all) (if_kept fetch) (f ∷ []) (if_kept store) (entries_of new) in_fetch (sole (Contains all) f (in_cache f c)) in_store cached

    pub found_store : (f : Kept) → Contains (entries_of cache) f → AreAmong (if_kept fetch ++ if_kept load ++ f ∷ [] ++ entries_of new) all
    found_store f c = each_part (Contains all) (if_kept fetch) (if_kept load) (f ∷ []) (entries_of new) in_fetch in_load (sole (Contains all) f (in_cache f c)) cached

  pub one_more : (new : Option (LruCache Key Walk)) (last : Kept) → ((k : Kept) → Contains (entries_of new) k → Contains (entries_of cache) k ⊎ (k ≡ last))
      → (k : Kept) → Contains (if_kept fetch ++ if_kept load ++ if_kept store ++ entries_of new) k → Contains all k ⊎ (k ≡ last)
  one_more new last h =
      each_part (λ k. Contains all k ⊎ (k ≡ last)) (if_kept fetch) (if_kept load) (if_kept store) (entries_of new) (λ k m. inl (in_fetch k m)) (λ k m. inl (in_load k m)) (λ k m. inl (in_store k m))
      (λ k m. elim (h k m) [ inl was ↦ inl (in_cache k was) | inr p ↦ inr p ])

  pub none_reads_page : (page : ℕ) → NoneReadsPage page (if_kept fetch) → NoneReadsPage page (if_kept load) → NoneReadsPage page (if_kept store) → NoneReadsPage page (entries_of cache) → NoneReadsPage page all
  none_reads_page page f l s c =
      subst (NoneReadsPage page) view (each_part (λ k. (place : ℕ) → Contains (places_of k.1.trail) place → place / 4096 ≢ page) (if_kept fetch) (if_kept load) (if_kept store) (entries_of cache) f l s c)

-- what is left needs no other flags
pub marked_among : (pages : List Bool) (was all new : List Kept) → was ≡ all → AreMarked pages was → AreAmong new all → AreMarked pages new
marked_among pages was all new e h among k m = h k (subst (λ z. Contains z k) (sym e) (among k m))

-- one walk more, whose pages were marked
pub marked_more : (pages now : List Bool) (was all new : List Kept) (last : Kept) → was ≡ all → AreMarked pages was → ((place : ℕ) → is_marked pages place ≡ true → is_marked now place ≡ true)
    → ((place : ℕ) → Contains (places_of last.1.trail) place → is_marked now place ≡ true) → ((k : Kept) → Contains new k → Contains all k ⊎ (k ≡ last)) → AreMarked now new
marked_more pages now was all new last e h kept marked more k m place p = elim (more k m) [
  | inl old ↦ kept place (h k (subst (λ z. Contains z k) (sym e) old) place p)
  | inr q ↦ marked place (subst (λ z. Contains (places_of z.1.trail) place) q p)
]

-- where the flag of a page is not set, none has read a word of it
pub unmarked_page : (pages : List Bool) (was all : List Kept) (page : ℕ) → was ≡ all → AreMarked pages was → get_or pages (page % 256) false ≡ false → NoneReadsPage page all
unmarked_page pages was all page e h unset k m place p q =
    let marked = h k (subst (λ z. Contains z k) (sym e) m) place p in
    let at : get_or pages (page % 256) false ≡ true = subst (λ n. get_or pages (n % 256) false ≡ true) q marked in
    true≢false (sym at ∙ unset)
