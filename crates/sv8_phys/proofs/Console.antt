-- The bytes that came in at the console, and those of them that wait.
use Rattle.std.proofs.Common.{arith, ◌≡◌, ◌≤◌, ℕ, zero, suc, ◌+◌, ◌-◌, Bool, true, false, List, [], ◌∷◌, length, drop, Option, Some, None, refl, sym, ap, ◌∙◌}
use Rattle.std.specs.List.{slice_get}
use Rattle.std.proofs.lemmas.Bool.{true≢false}
use Rattle.std.proofs.lemmas.List.{length-drop}
use Rattle.std.proofs.lemmas.Option.{slice_get_within, get_or_from_slice_get}
use Rattle.std.proofs.Math.ListN.{drop_of_length-le}
use Rattle.sv8_model.specs.Outside.{Outside, oldest, without_oldest}
use Rattle.sv8_model.specs.declared.touch.Touch.TheVariants as note
use Rattle.sv8_model.specs.Action.{done, take_input, count_waiting}
use Rattle.sv8_model.specs.Does.{Does, Noting, noting}
use Rattle.sv8_phys.specs.Contents.{Contents, outside_of}

-- a byte that stands at k, and what is behind it
drop_at : (xs : List ℕ) (k b : ℕ) → slice_get xs k ≡ Some b → drop k xs ≡ b ∷ drop (suc k) xs
drop_at [] k b e = let w = slice_get_within [] k b e in absurd (omega arith)
drop_at (x ∷ xs) zero b e = ap (λ y. y ∷ xs) (get_or_from_slice_get (x ∷ xs) zero b 0 e)
drop_at (x ∷ xs) (suc k) b e = drop_at xs k b e

-- where nothing stands, the list has ended
pub none_at : (xs : List ℕ) (k : ℕ) → slice_get xs k ≡ None → length xs ≤ k
none_at [] k e = omega arith
none_at (x ∷ xs) zero e = absurd (true≢false (ap has e)) where
  has : Option ℕ → Bool
  has (Some y) = true
  has None = false
none_at (x ∷ xs) (suc k) e = let rest = none_at xs k e in omega arith

-- what is noted of either access
abbrev noted_input : (way : Noting) → way.Taken → way.Taken → Type 0
noted_input way ns ns1 = ns1 ≡ noting way ns (note.Input ∷ []) []

module _ (way : Noting) (m : Contents) (bytes : List ℕ) (ns ns1 : way.Taken) (note : noted_input way ns ns1) where
  abbrev waits : List ℕ → Outside
  waits w = record { ram = m.ram; waiting = w; output = m.output; pending = m.pending }

  pub takes_byte : (b : ℕ) (m1 : Contents) → m1 ≡ record m { taken = m.taken + 1 } → slice_get bytes m.taken ≡ Some b
      → Does way (take_input (λ x. done x)) (outside_of m bytes) (outside_of m1 bytes) b ns ns1
  takes_byte b m1 next e =
      let behind : suc m.taken ≡ m.taken + 1 = omega arith in
      let d = drop_at bytes m.taken b e ∙ ap (λ n. b ∷ drop n bytes) behind in
      rw next record { result = sym (ap oldest d); outside = ap waits (sym (ap without_oldest d)); noted = note }

  pub takes_none : length bytes ≤ m.taken → Does way (take_input (λ x. done x)) (outside_of m bytes) (outside_of m bytes) 0 ns ns1
  takes_none all =
      let d : drop m.taken bytes ≡ [] = drop_of_length-le bytes all in
      record { result = sym (ap oldest d); outside = ap waits (d ∙ sym (ap without_oldest d)); noted = note }

  pub counts_waiting : (n : ℕ) → n ≡ length bytes - m.taken → Does way (count_waiting (λ x. done x)) (outside_of m bytes) (outside_of m bytes) n ns ns1
  counts_waiting n e = record { result = e ∙ sym (length-drop m.taken bytes); outside = refl; noted = note }
