-- Registers that are the same, field by field.
use Rattle.std.proofs.Common.{Bool, true, false, MatchBool, ◌≡◌, ◌≢◌, ◌==◌, ◌&&◌, ℕ, ◌+◌, ◌*◌, ◌<◌, ◌≤◌, List, [], length, get_or, take, replicate, not, refl, sym, ap, ◌∙◌, subst, arith}
use Rattle.std.proofs.lemmas.Grind.{same_number_lists}
use Rattle.std.proofs.lemmas.Bool.{not-false}
use Rattle.std.proofs.lemmas.Bool.Decides.{Decides-eqb}
use Rattle.std.proofs.Math.Bool.{beq}
use Rattle.std.specs.Bool.{Decides}
use Rattle.std.specs.Cmp.{booleans_Decides}
use Rattle.sv8_regs.specs.declared.Psr.{Psr}
use Rattle.sv8_regs.specs.Ring.{Registers, flat}
use Rattle.sv8_regs.specs.Current.{ring_of, IsVacant, other_windows}
use Rattle.sv8_regs.proofs.Rows.{get_or-flat_at}
use Rattle.sv8_regs.proofs.Current.{same_current, same_rest, vacated}

-- what follows from each answer of a test
pub decided : {P Q R : Type 0} (b : Bool) → Decides b R → (R → P) → (¬ R → Q) → MatchBool b P Q
decided true h f g = f (h.0 refl)
decided false h f g = g (λ r. cc (h.1 r))

both : (a b : Bool) → (a && b) ≡ true → (a ≡ true) × (b ≡ true)
both true true e = (refl, refl)
both true false e = cc
both false b e = cc

-- a test of all fields of the PSR
pub same_psr : (p q : Psr)
    → false ≡ not (beq p.n q.n && (beq p.z q.z && (beq p.v q.v && (beq p.c q.c && (p.pil == q.pil && (beq p.s q.s && (beq p.ps q.ps && beq p.et q.et)))))))
    → p ≡ q
same_psr p q h =
    let n = both _ _ (not-false _ (sym h)) in
    let z = both _ _ n.1 in
    let v = both _ _ z.1 in
    let c = both _ _ v.1 in
    let pil = both _ _ c.1 in
    let s = both _ _ pil.1 in
    let ps = both _ _ s.1 in
    λ i. record {
      n = (booleans_Decides p.n q.n).0 n.0 i;
      z = (booleans_Decides p.z q.z).0 z.0 i;
      v = (booleans_Decides p.v q.v).0 v.0 i;
      c = (booleans_Decides p.c q.c).0 c.0 i;
      pil = (Decides-eqb p.pil q.pil).0 pil.0 i;
      s = (booleans_Decides p.s q.s).0 s.0 i;
      ps = (booleans_Decides p.ps q.ps).0 ps.0 i;
      et = (booleans_Decides p.et q.et).0 ps.1 i;
    }

-- registers whose fields but for their words are the same
pub same_fields : (u v s t : Registers) → u ≡ s → v ≡ t → u.cwp ≡ v.cwp → u.psr ≡ v.psr → u.wim ≡ v.wim → u.tbr ≡ v.tbr → u.y ≡ v.y
    → s ≡ record t { globals = s.globals; ring = s.ring }
same_fields u v s t us vt cwp psr wim tbr y =
    sym us
    ∙ (λ i. record { globals = u.globals; ring = u.ring; cwp = cwp i; psr = psr i; wim = wim i; tbr = tbr i; y = y i })
    ∙ (λ i. record (vt i) { globals = (us i).globals; ring = (us i).ring })

-- such registers, compared by the words of the window and of the rows
module _ (n : ℕ) (u v s t : Registers) (us : u ≡ s) (vt : v ≡ t) (fields : s ≡ record t { globals = s.globals; ring = s.ring }) (current current2 words words2 : List ℕ)
    (globals_are : u.globals ≡ take 8 current) (globals2_are : v.globals ≡ take 8 current2) (ring_is : u.ring ≡ ring_of n u.cwp current words) (ring2_is : v.ring ≡ ring_of n v.cwp current2 words2)
    (two : 2 ≤ n) (w_in : u.cwp < n) where
  same_cwp : u.cwp ≡ v.cwp
  same_cwp = ap (λ (x : Registers). x.cwp) (us ∙ fields) ∙ ap (λ (x : Registers). x.cwp) (sym vt)

  alike : current ≡ current2 → words ≡ words2 → s ≡ t
  alike currents rests =
      let globals = globals_are ∙ ap (λ xs. take 8 xs) currents ∙ sym globals2_are in
      let rings = ring_is ∙ (λ i. ring_of n (same_cwp i) (currents i) (rests i)) ∙ sym ring2_is in
      let globals_now = ap (λ (x : Registers). x.globals) (sym us) ∙ globals ∙ ap (λ (x : Registers). x.globals) vt in
      let ring_now = ap (λ (x : Registers). x.ring) (sym us) ∙ rings ∙ ap (λ (x : Registers). x.ring) vt in
      fields ∙ (λ i. record t { globals = globals_now i; ring = ring_now i })

  rings_same : s ≡ t → ring_of n u.cwp current words ≡ ring_of n u.cwp current2 words2
  rings_same same = sym ring_is ∙ ap (λ (x : Registers). x.ring) (us ∙ same ∙ sym vt) ∙ ring2_is ∙ ap (λ w. ring_of n w current2 words2) (sym same_cwp)

  pub decided_by_rest : (b : Bool) → MatchBool b (words ≡ words2) (words ≢ words2) → current ≡ current2 → length words ≡ 16 * n → length words2 ≡ 16 * n
      → IsVacant n u.cwp words → IsVacant n v.cwp words2 → MatchBool b (s ≡ t) (s ≢ t)
  decided_by_rest true rests currents size size2 vacant vacant2 = alike currents rests
  decided_by_rest false differ currents size size2 vacant vacant2 = λ same.
      differ (same_rest n u.cwp two w_in current current2 words words2 (rings_same same) size size2 vacant (subst (λ w. IsVacant n w words2) (sym same_cwp) vacant2))

  pub unlike_current : (b : Bool) → b ≡ false → MatchBool b (current ≡ current2) (current ≢ current2) → length current ≡ 32 → length current2 ≡ 32 → MatchBool b (s ≡ t) (s ≢ t)
  unlike_current true b_is same size size2 = cc
  unlike_current false b_is differ size size2 = λ same.
      let globals = sym globals_are ∙ ap (λ (x : Registers). x.globals) (us ∙ same ∙ sym vt) ∙ globals2_are in
      differ (same_current n u.cwp two w_in current current2 words words2 (rings_same same) size size2 globals)

  -- the same where the registers outside the window are known to be
  pub decided_by_window : (b : Bool) → MatchBool b (current ≡ current2) (current ≢ current2) → length current ≡ 32 → length current2 ≡ 32
      → length words ≡ 16 * n → length words2 ≡ 16 * n → IsVacant n u.cwp words → IsVacant n v.cwp words2
      → MatchBool b (other_windows n s ≡ other_windows n t → s ≡ t) (s ≢ t)
  decided_by_window true currents len len2 size size2 vacant vacant2 = λ others.
      let v_in : v.cwp < n = subst (λ w. w < n) same_cwp w_in in
      let zeros = replicate 32 0 in
      let own = ap (other_windows n) (sym us) ∙ ap (ring_of n u.cwp zeros) ring_is ∙ vacated n u.cwp two w_in current words size vacant in
      let theirs = ap (other_windows n) (sym vt) ∙ ap (ring_of n v.cwp zeros) ring2_is ∙ vacated n v.cwp two v_in current2 words2 size2 vacant2 in
      alike currents (sym own ∙ others ∙ theirs)
  decided_by_window false differ len len2 size size2 vacant vacant2 = unlike_current false refl differ len len2

-- rows that differ have other words
pub row_unlike : (n w : ℕ) (one other : List (List ℕ)) → w < n → length (get_or one w []) ≡ 16 → length (get_or other w []) ≡ 16
    → get_or one w [] ≢ get_or other w [] → flat n one ≢ flat n other
row_unlike n w one other w_in len other_len differ same =
    differ (same_number_lists _ _ (len ∙ sym other_len) (λ k below.
    sym (get_or-flat_at n one w k (16 * w + k) w_in (omega (arith, below, len)) refl)
    ∙ ap (λ xs. get_or xs (16 * w + k) 0) same
    ∙ get_or-flat_at n other w k (16 * w + k) w_in (omega (arith, below, len)) refl))
