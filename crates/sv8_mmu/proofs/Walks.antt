-- A walk depends on the entries that it reads, and on nothing else.
use Rattle.std.proofs.Common.{◌≡◌, ◌≢◌, ℕ, ◌+◌, ◌*◌, ◌/◌, ◌<◌, Bool, true, false, cond, ltb, inl, inr, List, [], ◌∷◌, get_or, Contains, refl, sym, ◌∙◌, ap, subst, arith}
use Rattle.std.specs.Prelude.{⊤}
use Rattle.lru.proofs.Splits.{Contains-head, Contains-tail, Contains-cons, Contains-nil}
use Rattle.sv8_model.specs.declared.touch.Touch.TheVariants.{Read}
use Rattle.sv8_model.specs.Outside.{Outside, word_of, with_word}
use Rattle.sv8_model.specs.Action.{Action, done, load_word, store_word, load_byte, store_byte, take_input, count_waiting, emit, ask_levels, clear_levels, expire, observe, result_of, after, touches, observations}
use Rattle.sv8_model.specs.Does.{Notes, keeping, no_notes, noting}
use Rattle.sv8_model.proofs.Common.{length-with_word, word_other}
use Rattle.sv8_mmu.specs.declared.fault_type.FaultType.TheVariants as of
use Rattle.sv8_mmu.specs.declared.table_level.TableLevel.{TableLevel}
use Rattle.sv8_mmu.specs.declared.table_level.TableLevel.TheVariants.{Context}
use Rattle.sv8_mmu.specs.declared.walk.TableIndex.{TableIndex}
use Rattle.sv8_mmu.specs.declared.walk.Walk.{Walk}
use Rattle.sv8_mmu.specs.declared.walk.Walked.{Walked}
use Rattle.sv8_mmu.specs.declared.walk.Walked.TheVariants.{Fault}
use Rattle.sv8_mmu.specs.Walk.{is_invalid, is_pointer, is_page_entry, met, looked_up, below_pointer, indices_of, walk}
use Rattle.sv8_mmu.specs.Kept.{places_of, reads_of, IsWalk, Kept, AllStand, AreAmong, NoneReads, NoneReadsPage, DiffersInPage}

-- nothing but loads of words
abbrev pub OnlyLoads : {R : Type 0} → Action R → Type 0
OnlyLoads (done x) = ⊤
OnlyLoads (load_word k g) = (v : ℕ) → OnlyLoads (g v)
OnlyLoads (store_word k v a) = ⊥
OnlyLoads (load_byte i g) = ⊥
OnlyLoads (store_byte i v a) = ⊥
OnlyLoads (take_input g) = ⊥
OnlyLoads (count_waiting g) = ⊥
OnlyLoads (emit b a) = ⊥
OnlyLoads (ask_levels w g) = ⊥
OnlyLoads (clear_levels w a) = ⊥
OnlyLoads (expire a) = ⊥
OnlyLoads (observe s a) = ⊥

-- where the words that are loaded are the same, so is all else
pub same_loads : {R : Type 0} (a : Action R) (o o' : Outside) → OnlyLoads a → ((k : ℕ) → Contains (touches a o) (Read (4 * k)) → word_of o'.ram k ≡ word_of o.ram k)
    → (result_of a o' ≡ result_of a o) × (touches a o' ≡ touches a o)
same_loads (done x) o o' l h = (refl, refl)
same_loads (load_word k g) o o' l h =
    let e = h k (Contains-head (Read (4 * k)) _) in
    let r = same_loads (g (word_of o.ram k)) o o' (l _) (λ j m. h j (Contains-tail (Read (4 * k)) _ _ m)) in
    rw e (r.0, ap (λ t. Read (4 * k) ∷ t) r.1)
same_loads (store_word k v a) o o' l h = absurd l
same_loads (load_byte i g) o o' l h = absurd l
same_loads (store_byte i v a) o o' l h = absurd l
same_loads (take_input g) o o' l h = absurd l
same_loads (count_waiting g) o o' l h = absurd l
same_loads (emit b a) o o' l h = absurd l
same_loads (ask_levels w g) o o' l h = absurd l
same_loads (clear_levels w a) o o' l h = absurd l
same_loads (expire a) o o' l h = absurd l
same_loads (observe s a) o o' l h = absurd l

pub after_loads : {R : Type 0} (a : Action R) (o : Outside) → OnlyLoads a → after a o ≡ o
after_loads (done x) o l = refl
after_loads (load_word k g) o l = after_loads (g (word_of o.ram k)) o (l _)
after_loads (store_word k v a) o l = absurd l
after_loads (load_byte i g) o l = absurd l
after_loads (store_byte i v a) o l = absurd l
after_loads (take_input g) o l = absurd l
after_loads (count_waiting g) o l = absurd l
after_loads (emit b a) o l = absurd l
after_loads (ask_levels w g) o l = absurd l
after_loads (clear_levels w a) o l = absurd l
after_loads (expire a) o l = absurd l
after_loads (observe s a) o l = absurd l

loads_unseen : {R : Type 0} (a : Action R) (o : Outside) → OnlyLoads a → observations a o ≡ []
loads_unseen (done x) o l = refl
loads_unseen (load_word k g) o l = loads_unseen (g (word_of o.ram k)) o (l _)
loads_unseen (store_word k v a) o l = absurd l
loads_unseen (load_byte i g) o l = absurd l
loads_unseen (store_byte i v a) o l = absurd l
loads_unseen (take_input g) o l = absurd l
loads_unseen (count_waiting g) o l = absurd l
loads_unseen (emit b a) o l = absurd l
loads_unseen (ask_levels w g) o l = absurd l
loads_unseen (clear_levels w a) o l = absurd l
loads_unseen (expire a) o l = absurd l
loads_unseen (observe s a) o l = absurd l

-- what is noted of the same loads is the same
pub same_noted : {R : Type 0} (a : Action R) (o o' : Outside) → OnlyLoads a → touches a o' ≡ touches a o
    → noting (keeping true true) no_notes (touches a o) (observations a o) ≡ noting (keeping true true) no_notes (touches a o') (observations a o')
same_noted a o o' l t =
    ap (λ ss. noting (keeping true true) no_notes (touches a o) ss) (loads_unseen a o l ∙ sym (loads_unseen a o' l)) ∙ ap (λ ts. noting (keeping true true) no_notes ts (observations a o')) (sym t)

-- ---- a walk makes nothing but loads

loads_if : {R : Type 0} (b : Bool) (x y : Action R) → OnlyLoads x → OnlyLoads y → OnlyLoads (cond b x y)
loads_if true x y p q = p
loads_if false x y p q = q

met_loads : (level : TableLevel) (at : ℕ) (deeper : ℕ → Action Walked) → ((e : ℕ) → OnlyLoads (deeper e)) → (e : ℕ) → OnlyLoads (met level at deeper e)
met_loads level at deeper h e =
    loads_if (is_pointer e) _ _ (h e) (loads_if (is_page_entry e) _ _ tt (loads_if (is_invalid e) (done (Fault of.InvalidAddress level)) (done (Fault of.Translation level)) tt tt))

looked_up_loads : (limit : ℕ) (level : TableLevel) (at : ℕ) (deeper : ℕ → Action Walked) → ((e : ℕ) → OnlyLoads (deeper e)) → OnlyLoads (looked_up limit level at deeper)
looked_up_loads limit level at deeper h = loads_if (ltb at limit) (load_word (at / 4) (met level at deeper)) (done (Fault of.Translation level)) (met_loads level at deeper h) tt

below_loads : (limit : ℕ) (level : TableLevel) (below : List TableIndex) (e : ℕ) → OnlyLoads (below_pointer limit level below e)
unfolding below_pointer
below_loads limit level [] e = tt
below_loads limit level (to ∷ below) e = looked_up_loads limit to.level _ _ (below_loads limit to.level below)

pub walk_loads : (limit table_pointer context va : ℕ) → OnlyLoads (walk limit table_pointer context va)
unfolding walk
walk_loads limit table_pointer context va = looked_up_loads limit Context _ _ (below_loads limit Context (indices_of va))

-- ---- the same walk in another RAM

same_place : (j k : ℕ) → Read j ≡ Read k → j ≡ k
same_place j k h = cc

pub read_place : (places : List ℕ) (at : ℕ) → Contains (reads_of places) (Read at) → Contains places at
read_place [] at m = absurd (Contains-nil _ m)
read_place (j ∷ places) at m = elim (Contains-cons (Read j) (reads_of places) (Read at) m) [
  | inl p ↦ subst (Contains (j ∷ places)) (same_place j at p) (Contains-head j places)
  | inr t ↦ Contains-tail j places at (read_place places at t)
]

-- a walk stays the walk of another RAM in which the entries that it read are the same
pub walk_same : (limit : ℕ) (ram now : List ℕ) (table_pointer context va : ℕ) (w : Walk) → ((k : ℕ) → Contains (places_of w.trail) (4 * k) → word_of now k ≡ word_of ram k)
    → IsWalk limit ram table_pointer context va w → IsWalk limit now table_pointer context va w
walk_same limit ram now table_pointer context va w h s = record {
  end = s.end;
  does = λ o.
      let a = walk limit table_pointer context va in
      let loads = walk_loads limit table_pointer context va in
      let d = s.does o in
      let r = same_loads a (record o { ram = ram }) (record o { ram = now }) loads (λ k m. h k (read_place _ (4 * k) (subst (λ t. Contains t (Read (4 * k))) (sym (ap (λ (n : Notes). n.touches) d.noted)) m))) in
      record { result = d.result ∙ sym r.0; outside = sym (after_loads a (record o { ram = now }) loads); noted = d.noted ∙ same_noted a (record o { ram = ram }) (record o { ram = now }) loads r.1 };
}

-- ---- words

-- bytes that are the same make the same word
pub same_bytes : (ram now : List ℕ) (k : ℕ) → ((j : ℕ) → j < 4 → get_or now (4 * k + j) 0 ≡ get_or ram (4 * k + j) 0) → word_of now k ≡ word_of ram k
unfolding word_of
same_bytes ram now k h =
    let z : 4 * k + 0 ≡ 4 * k = omega arith in
    let b0 = subst (λ i. get_or now i 0 ≡ get_or ram i 0) z (h 0 (omega arith)) in
    let b1 = h 1 (omega arith) in
    let b2 = h 2 (omega arith) in
    let b3 = h 3 (omega arith) in
    cc

pub other_word : (ram : List ℕ) (k v j : ℕ) → j ≢ k → word_of (with_word ram k v) j ≡ word_of ram j
other_word ram k v j n = same_bytes ram (with_word ram k v) j (λ b l. word_other ram k v (4 * j + b) (λ p. n (omega arith)))

-- ---- kept walks

-- where none of them has read an entry, all stand once it is stored
pub stand_but_entry : (limit : ℕ) (ram : List ℕ) (table_pointer at v : ℕ) (old new : List Kept) → AllStand limit ram table_pointer old → AreAmong new old → NoneReads at new → at / 4 * 4 ≡ at
    → AllStand limit (with_word ram (at / 4) v) table_pointer new
stand_but_entry limit ram table_pointer at v old new s among none aligned k m =
    walk_same limit ram (with_word ram (at / 4) v) table_pointer _ _ k.1 (λ j c. other_word ram (at / 4) v j (λ q. none k m (4 * j) c (omega arith))) (s k (among k m))

-- where none of them has read a word of a page, all stand in RAM that differs in that page alone
pub stand_but_page : (limit : ℕ) (ram now : List ℕ) (table_pointer page : ℕ) (old new : List Kept) → DiffersInPage page ram now → AllStand limit ram table_pointer old → AreAmong new old → NoneReadsPage page new
    → AllStand limit now table_pointer new
stand_but_page limit ram now table_pointer page old new differs s among none k m =
    walk_same limit ram now table_pointer _ _ k.1 (λ j c. same_bytes ram now j (λ b l. differs.others (4 * j + b) (λ q. none k m (4 * j) c (omega arith)))) (s k (among k m))

-- a store of a word of RAM changes its page alone
pub stored_in_page : (ram : List ℕ) (k v page : ℕ) → 4 * k / 4096 ≡ page → DiffersInPage page ram (with_word ram k v)
stored_in_page ram k v page e = record { size = length-with_word ram k v; others = λ i n. word_other ram k v i (λ p. n (omega arith)) }
