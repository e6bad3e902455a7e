-- Lemmas on words that are read as conditions.
use Rattle.std.proofs.Common.{◌≡◌, ℕ, suc, ◌-◌, ◌<◌, List, [], ◌∷◌, ◌++◌, length, Option, Some, None, option_map, refl, ap, append_assoc, length-append, arith}
use Rattle.sv8_watch.specs.declared.condition.Condition.{Condition}
use Rattle.sv8_monitor.specs.Conditions.{condition_of, conditions_of}

-- conditions that were read, with those that words are, of which all together are at most 32
abbrev pub with_others : List Condition → List (List ℕ) → Option (List Condition)
with_others read words = option_map (λ cs. read ++ cs) (conditions_of (32 - length read) words)

one_more : (read : List Condition) (c : Condition) (others : Option (List Condition))
    → option_map (λ cs. (read ++ c ∷ []) ++ cs) others ≡ option_map (λ cs. read ++ cs) (option_map (λ cs. c ∷ cs) others)
one_more read c None = refl
one_more read c (Some cs) = ap Some (append_assoc read (c ∷ []) cs)

-- one more is read
pub read-more : (read : List Condition) (c : Condition) (name : List ℕ) (words rest : List (List ℕ)) → length read < 32 → condition_of name words ≡ Some (c, rest)
    → with_others (read ++ c ∷ []) rest ≡ with_others read (name ∷ words)
read-more read c name words rest few is =
    let left : 32 - length read ≡ suc (32 - length (read ++ c ∷ [])) = omega (arith, length-append read (c ∷ [])) in
    rw (left, is) (one_more read c (conditions_of (32 - length (read ++ c ∷ [])) rest))

-- none is read so far
pub read-start : (words : List (List ℕ)) → with_others [] words ≡ conditions_of 32 words
read-start words = go (conditions_of 32 words) where
  go : (cs : Option (List Condition)) → option_map (λ xs. [] ++ xs) cs ≡ cs
  go None = refl
  go (Some xs) = refl
