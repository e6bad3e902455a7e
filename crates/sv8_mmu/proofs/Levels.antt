-- The levels of a walk and of a probe, from one to the next.
use Rattle.std.proofs.Common.{◌≡◌, ℕ, zero, suc, ◌+◌, ◌*◌, ◌-◌, ◌/◌, ◌%◌, ◌≤◌, true, false, nat_lt, ◌++◌, List, [], ◌∷◌, length, drop, take, get_or, refl, ap, ◌∙◌, arith}
use Rattle.std.proofs.lemmas.List.{take_all, map-append}
use Rattle.sv8_model.specs.declared.touch.Touch.TheVariants.{Read}
use Rattle.sv8_model.specs.Outside.{Outside, word_of}
use Rattle.sv8_model.specs.Action.{Action, done, load_word, result_of, after, touches, observations}
use Rattle.sv8_model.specs.Does.{Does, keeping, noting, touching}
use Rattle.sv8_model.proofs.Common.{does_if_true, noting_then}
use Rattle.sv8_mmu.specs.declared.table_level.TableLevel.{TableLevel}
use Rattle.sv8_mmu.specs.declared.table_level.TableLevel.TheVariants.{Context}
use Rattle.sv8_mmu.specs.declared.walk.TableIndex.{TableIndex}
use Rattle.sv8_mmu.specs.Kept.{reads_of}
use Rattle.sv8_mmu.specs.Walk.{index_at, is_pointer, table_of, entry_at, looked_up, below_pointer}
use Rattle.sv8_mmu.specs.Probe.{sought}

-- an entry is read, and what it leads to
pub entry_read : {R : Type 0} (limit at : ℕ) (outside : R) (use_entry : ℕ → Action R) (e : ℕ) (o : Outside) (r : R) (before now later : List ℕ) → nat_lt at limit ≡ true → at % 4 ≡ 0
    → e ≡ word_of o.ram (at / 4) → now ≡ before ++ at ∷ [] → Does (keeping true true) (use_entry e) o o r (touching (reads_of now)) (touching (reads_of later))
    → Does (keeping true true) (entry_at limit at outside use_entry) o o r (touching (reads_of before)) (touching (reads_of later))
entry_read limit at outside use_entry e o r before now later inside aligned is trail d =
    does_if_true (keeping true true) (nat_lt at limit) (load_word (at / 4) use_entry) (done outside) o o r (touching (reads_of before)) (touching (reads_of later)) inside (record {
      result = d.result ∙ ap (λ x. result_of (use_entry x) o) is;
      outside = d.outside ∙ ap (λ x. after (use_entry x) o) is;
      noted = d.noted ∙ ap (λ t. noting (keeping true true) (touching t) (touches (use_entry e) o) (observations (use_entry e) o)) (ap reads_of trail ∙ map-append (λ x. Read x) before (at ∷ []))
          ∙ noting_then (keeping true true) (touching (reads_of before)) (Read at ∷ []) (touches (use_entry e) o) [] (observations (use_entry e) o)
          ∙ ap (λ x. noting (keeping true true) (touching (reads_of before)) (Read at ∷ touches (use_entry x) o) (observations (use_entry x) o)) is
          ∙ ap (λ x. noting (keeping true true) (touching (reads_of before)) (Read x ∷ touches (use_entry (word_of o.ram (at / 4))) o) (observations (use_entry (word_of o.ram (at / 4))) o)) whole;
    })
  where
    whole : at ≡ 4 * (at / 4)
    whole = omega arith

-- what is left of the indices behind the first one
pub indices_left : {A : Type 0} (to : A) (below : List A) → take (length (to ∷ below) - 1) (drop 1 (to ∷ below)) ≡ below
indices_left to below = take_all (length (to ∷ below) - 1) below (omega arith)

-- a pointer above level 3 leads to an entry of the next table
pub next_level : (limit : ℕ) (level : TableLevel) (e table : ℕ) (below : List TableIndex) → 1 ≤ length below → table ≡ table_of e
    → below_pointer limit level below e ≡ looked_up limit (get_or below 0 (index_at Context 0)).level (table + 4 * (get_or below 0 (index_at Context 0)).index) (below_pointer limit (get_or below 0 (index_at Context 0)).level (take (length below - 1) (drop 1 below)))
unfolding below_pointer
next_level limit level e table [] h t = absurd (omega arith)
next_level limit level e table (to ∷ below) h t = rw (t, indices_left to below) refl

-- a probe goes one level deeper
pub next_sought : (limit depth e table : ℕ) (below : List TableIndex) → 1 ≤ depth → 1 ≤ length below → table ≡ table_of e → e % 4 ≡ 1
    → sought limit depth below e ≡ entry_at limit (table + 4 * (get_or below 0 (index_at Context 0)).index) 0 (sought limit (depth - 1) (take (length below - 1) (drop 1 below)))
unfolding sought
next_sought limit zero e table below d h t p = absurd (omega arith)
next_sought limit (suc depth) e table [] d h t p = absurd (omega arith)
next_sought limit (suc depth) e table (to ∷ below) d h t p = rw (t, p, indices_left to below) (ap (λ n. entry_at limit (table_of e + 4 * to.index) 0 (sought limit n below)) less)
  where
    less : depth ≡ suc depth - 1
    less = omega arith

-- what is no pointer leads no deeper
pub none_sought : (limit depth e : ℕ) (below : List TableIndex) → 1 ≤ depth → is_pointer e ≡ false → sought limit depth below e ≡ done 0
unfolding sought
none_sought limit zero e below d p = absurd (omega arith)
none_sought limit (suc depth) e [] d p = refl
none_sought limit (suc depth) e (to ∷ below) d p = rw p refl

-- below level 3 there is nothing
pub nothing_below : (limit depth e : ℕ) (below : List TableIndex) → 1 ≤ depth → length below ≡ 0 → sought limit depth below e ≡ done 0
unfolding sought
nothing_below limit zero e below d h = absurd (omega arith)
nothing_below limit (suc depth) e [] d h = refl
nothing_below limit (suc depth) e (to ∷ below) d h = absurd (omega arith)
