-- What stands at a step, by the words that are poked.
use Rattle.std.proofs.Common.{◌≡◌, ℕ, ◌+◌, true, List, [], ◌∷◌, ◌++◌, Option, Some, None, refl, sym}
use Rattle.std.proofs.lemmas.Bool.{false≢true}
use Rattle.sv8_time.specs.Order.{Each}
use Rattle.sv8_time.specs.Words.{poked_from, poked_bytes, bytes_of_words, is_poked, IsWordIn}
use Rattle.sv8_time.specs.declared.words.WordPoke.{WordPoke}
use Rattle.sv8_watch.specs.Happening.{is_some_of}

some_in_front : {A : Type 0} (xs ys : List A) → is_some_of xs ≡ true → is_some_of (xs ++ ys) ≡ true
some_in_front [] ys h = absurd (false≢true h)
some_in_front (x ∷ xs) ys h = refl

some_poked : (step address : ℕ) (bytes : List (Option ℕ)) → is_poked bytes ≡ true → is_some_of (poked_from step address bytes) ≡ true
some_poked step address [] h = absurd (false≢true h)
some_poked step address (None ∷ bytes) h = some_poked step (address + 1) bytes h
some_poked step address (Some b ∷ bytes) h = refl

pub words_stand : (limit : ℕ) (words : List WordPoke) → Each (IsWordIn limit) words → is_some_of words ≡ is_some_of (bytes_of_words words)
words_stand limit [] h = refl
words_stand limit (w ∷ words) h = sym (some_in_front (poked_bytes w) (bytes_of_words words) (some_poked w.step w.address w.bytes h.0.poked))
