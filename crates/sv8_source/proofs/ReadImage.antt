-- The image's byte, by the last line at or below its address.
use Rattle.std.proofs.Common.{◌≡◌, ◌∙◌, ℕ, zero, suc, ◌+◌, ◌-◌, ◌≤◌, ◌<◌, List, length, Option, Some, None, refl, sym, add-one, sub-one, arith}
use Rattle.std.specs.List.{slice_get, slice_index}
use Rattle.std.proofs.lemmas.List.{get_or_past}
use Rattle.sv8_source.specs.Layout.{Place}
use Rattle.sv8_source.specs.Listing.{ListedLine, shown, shown_line}
use Rattle.sv8_source.specs.Image.{byte_at, Rising}
use Rattle.sv8_source.proofs.ShownLines.{both, slice_get-shown}
use Rattle.sv8_source.proofs.RisingImage.{before_first, found}

-- a line of the listing is at its place
pub at_place : (ps : List Place) (bs : List (List ℕ)) (k a : ℕ) → ((p : Place) → slice_get ps k ≡ Some p → a < p.at) → (m : ListedLine) → slice_get (shown ps bs) k ≡ Some m → a < m.address
at_place ps bs k a h m e = go (slice_get ps k) (slice_get bs k) refl (sym (slice_get-shown ps bs k) ∙ e)
  where
    go : (x : Option Place) (y : Option (List ℕ)) → slice_get ps k ≡ x → both x y ≡ Some m → a < m.address
    go (Some p) (Some b) f g = let same : shown_line p b ≡ m = cc in rw (← same) (h p f)
    go (Some p) None f g = absurd (cc)
    go None y f g = absurd (cc)

pub no_line : (ps : List Place) (bs : List (List ℕ)) (n a : ℕ) → Rising 0 (shown ps bs) → n ≡ 0 → ((p : Place) → slice_get ps n ≡ Some p → a < p.at) → byte_at (shown ps bs) a ≡ 0
no_line ps bs n a r z h = before_first (shown ps bs) 0 a r (at_place ps bs 0 a (λ p e. h p (rw z e)))

pub last_line : (ps : List Place) (bs : List (List ℕ)) (n a : ℕ) (p : Place) (b : List ℕ) → Rising 0 (shown ps bs) → (n ≡ 0 → ⊥) → slice_get ps (n - 1) ≡ Some p → slice_get bs (n - 1) ≡ Some b → p.at ≤ a → ((q : Place) → slice_get ps n ≡ Some q → a < q.at) → byte_at (shown ps bs) a ≡ slice_index b (a - p.at)
last_line ps bs zero a p b r nz e f low high = absurd (nz refl)
last_line ps bs (suc n) a p b r nz e f low high =
    let e2 = rw sub-one at e in
    let f2 = rw sub-one at f in
    let g : slice_get (shown ps bs) n ≡ Some (shown_line p b) = slice_get-shown ps bs n ∙ cc (e2, f2) in
    found (shown ps bs) 0 n a (shown_line p b) r g low (at_place ps bs (n + 1) a (λ q h. high q (rw add-one at h)))

pub none_before : (ps : List Place) (bs : List (List ℕ)) (n end : ℕ) → Rising 0 (shown ps bs) → n ≡ 0 → ((p : Place) → slice_get ps n ≡ Some p → end ≡ p.at) → (a : ℕ) → a < end → byte_at (shown ps bs) a ≡ 0
none_before ps bs n end r z h a low = no_line ps bs n a r z (λ p e. let same = h p e in omega arith)

pub none_between : (ps : List Place) (bs : List (List ℕ)) (n end : ℕ) (p : Place) (b : List ℕ) → Rising 0 (shown ps bs) → (n ≡ 0 → ⊥) → slice_get ps (n - 1) ≡ Some p → slice_get bs (n - 1) ≡ Some b → ((q : Place) → slice_get ps n ≡ Some q → end ≡ q.at) → (from : ℕ) → p.at ≤ from → length b ≤ from - p.at → (a : ℕ) → from ≤ a → a < end → byte_at (shown ps bs) a ≡ 0
none_between ps bs n end p b r nz e f h from low past a up below =
    last_line ps bs n a p b r nz e f (omega arith) (λ q g. let same = h q g in omega arith) ∙ get_or_past b (a - p.at) 0 (omega arith)
