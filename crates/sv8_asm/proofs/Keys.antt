-- Byte vectors as keys of a tree map, by their bytes.
use Rattle.std.proofs.Common.{◌≡◌, ◌∙◌, refl, sym, subst, ℕ, ℤ, Bool, true, false, cond, List, [], ◌∷◌, ◌++◌, Option, Some, None, Vec, nat_cmp}
use Rattle.std.specs.Ordering.{is_eq}
use Rattle.std.specs.Cmp.{eq_by_cmp_equiv}
use Rattle.std.specs.Cmp.Lexicographic.{slice_cmp, bytes_decides, nat_list_cmp_total, nat_list_eq_equiv}
use Rattle.std.specs.Str.{bytes_eq}
use Rattle.std.specs.BTreeMap as tree
use Rattle.std.specs.BTreeMap.{BTreeMap}
use Rattle.std.specs.Map.{lookup, IsKeyTest, AreApart, KeepsOthers}
use Rattle.std.proofs.lemmas.Map.Text.{is_eq-slice_cmp}
use Rattle.sv8_asm.specs.Names.{defined}
use Rattle.sv8_asm.specs.Index.{Answers}

apart : (bs cs ks : List ℕ) → bytes_eq bs cs ≡ false → bytes_eq bs ks ≡ true → bytes_eq cs ks ≡ false
apart bs cs ks n y = nat_list_eq_equiv.symm cs ks ∙ sym (nat_list_eq_equiv.congr bs ks cs y) ∙ n

apart_in_order : (bs cs ks : List ℕ) → bytes_eq bs cs ≡ false → is_eq (slice_cmp nat_cmp bs ks) ≡ true → is_eq (slice_cmp nat_cmp cs ks) ≡ false
apart_in_order bs cs ks n y = is_eq-slice_cmp cs ks ∙ apart bs cs ks n (sym (is_eq-slice_cmp bs ks) ∙ y)

other_entries : {K X : Type 0} (eq : K → K → Bool) (test : K → Bool) (old new : List (K × X)) → KeepsOthers eq test old new → (other : K → Bool) → IsKeyTest eq other → AreApart test other → lookup other new ≡ lookup other old
unfolding KeepsOthers
other_entries eq test old new h = h

pub defined_push : (xs : List (List ℕ × ℤ)) (n : List ℕ) (v : ℤ) → defined xs n ≡ None → (q : List ℕ) → defined (xs ++ (n, v) ∷ []) q ≡ cond (bytes_eq n q) (Some v) (defined xs q)
defined_push [] n v absent q = refl
defined_push (x ∷ xs) n v absent q = go (bytes_eq x.0 n) (bytes_eq x.0 q) refl refl absent (λ a. defined_push xs n v a q)
  where
    go : (b d : Bool) → bytes_eq x.0 n ≡ b → bytes_eq x.0 q ≡ d → cond b (Some x.1) (defined xs n) ≡ None → (defined xs n ≡ None → defined (xs ++ (n, v) ∷ []) q ≡ cond (bytes_eq n q) (Some v) (defined xs q))
        → cond d (Some x.1) (defined (xs ++ (n, v) ∷ []) q) ≡ cond (bytes_eq n q) (Some v) (cond d (Some x.1) (defined xs q))
    go true d e f a ih = absurd (cc)
    go false false e f a ih = ih a
    go false true e f a ih = rw (apart x.0 n q e f) refl

pub updates_bytes : {A : Type 0} (bs : List ℕ) (m n : BTreeMap (Vec ℕ A) ℤ) (w : Option ℤ) → tree.UpdatesBy (λ x y. slice_cmp nat_cmp x.items y.items) (λ k. slice_cmp nat_cmp bs k.items) m n w
    → (cs : List ℕ) → bytes_eq bs cs ≡ false → tree.get_by (λ k. slice_cmp nat_cmp cs k.items) n ≡ tree.get_by (λ k. slice_cmp nat_cmp cs k.items) m
updates_bytes bs m n w h cs e = other_entries _ _ _ _ h.3 _ (λ x y. (eq_by_cmp_equiv nat_list_cmp_total).congr cs x.items y.items) (λ k. apart_in_order bs cs k.items e)

pub answers_push : {A : Type 0} (name : List ℕ) (v : ℤ) (m n : BTreeMap (Vec ℕ A) ℤ) (xs : List (List ℕ × ℤ)) → tree.UpdatesBy (λ x y. slice_cmp nat_cmp x.items y.items) (λ k. slice_cmp nat_cmp name k.items) m n (Some v)
    → Answers m xs → defined xs name ≡ None → Answers n (xs ++ (name, v) ∷ [])
answers_push name v m n xs h old absent q = go (bytes_eq name q) refl ∙ sym (defined_push xs name v absent q)
  where
    go : (b : Bool) → bytes_eq name q ≡ b → tree.get_by (λ k. slice_cmp nat_cmp q k.items) n ≡ cond b (Some v) (defined xs q)
    go true e = subst (λ l. tree.get_by (λ k. slice_cmp nat_cmp l k.items) n ≡ Some v) ((bytes_decides name q).0 e) h.1
    go false e = updates_bytes name m n (Some v) h q e ∙ old q
