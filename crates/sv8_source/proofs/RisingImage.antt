-- The image, read in a listing whose lines rise.
use Rattle.std.proofs.Common.{◌≡◌, ◌∙◌, ℕ, zero, suc, ◌+◌, ◌-◌, ◌≤◌, ◌<◌, List, [], ◌∷◌, length, Some, Bool, true, false, cond, refl, sym, add-one, arith}
use Rattle.std.specs.List.{slice_get, slice_index}
use Rattle.std.proofs.lemmas.Bool.Decides.{nat_tests}
use Rattle.std.proofs.lemmas.List.{get_or_past}
use Rattle.sv8_source.specs.Listing.{ListedLine}
use Rattle.sv8_source.specs.Image.{covers, byte_at, Rising}

not_above : (l : ListedLine) (a : ℕ) → a < l.address → covers l a ≡ false
not_above l a h = grind (arith, nat_tests)

pub not_below : (l : ListedLine) (a : ℕ) → l.address + length l.bytes ≤ a → covers l a ≡ false
not_below l a h = grind (arith, nat_tests)

-- nothing stands below the first line
pub before_all : (ls : List ListedLine) (from a : ℕ) → Rising from ls → a < from → byte_at ls a ≡ 0
before_all [] from a r h = refl
before_all (l ∷ ls) from a r h = rw (not_above l a (omega arith)) (before_all ls (l.address + length l.bytes) a r.1 (omega arith))

pub before_first : (ls : List ListedLine) (from a : ℕ) → Rising from ls → ((l : ListedLine) → slice_get ls 0 ≡ Some l → a < l.address) → byte_at ls a ≡ 0
before_first [] from a r h = refl
before_first (l ∷ ls) from a r h = before_all (l ∷ ls) l.address a (omega arith, r.1) (h l refl)

-- a line stands at or behind where the listing begins
behind : (ls : List ListedLine) (from k : ℕ) (l : ListedLine) → Rising from ls → slice_get ls k ≡ Some l → from ≤ l.address
behind [] from k l r e = cc
behind (m ∷ ls) from zero l r e = let same : m ≡ l = cc in rw (← same) r.0
behind (m ∷ ls) from (suc k) l r e = let far = behind ls (m.address + length m.bytes) k l r.1 e in let near = r.0 in omega arith

pub own : (l : ListedLine) (ls : List ListedLine) (a : ℕ) → l.address ≤ a → byte_at ls a ≡ 0 → byte_at (l ∷ ls) a ≡ slice_index l.bytes (a - l.address)
own l ls a low z = go (covers l a) refl
  where
    go : (b : Bool) → covers l a ≡ b → cond b (slice_index l.bytes (a - l.address)) (byte_at ls a) ≡ slice_index l.bytes (a - l.address)
    go true e = refl
    go false e = z ∙ sym (get_or_past l.bytes (a - l.address) 0 (grind (arith, nat_tests)))

-- the byte at an address is that of the last line at or below it
pub found : (ls : List ListedLine) (from k a : ℕ) (l : ListedLine) → Rising from ls → slice_get ls k ≡ Some l → l.address ≤ a → ((m : ListedLine) → slice_get ls (k + 1) ≡ Some m → a < m.address) → byte_at ls a ≡ slice_index l.bytes (a - l.address)
found [] from k a l r e low high = cc
found (m ∷ ls) from zero a l r e low high = let same : m ≡ l = cc in rw same (own l ls a low (before_first ls (m.address + length m.bytes) a r.1 high))
found (m ∷ ls) from (suc k) a l r e low high = let far = behind ls (m.address + length m.bytes) k l r.1 e in rw (not_below m a (omega arith)) (found ls (m.address + length m.bytes) k a l r.1 e low (λ n g. let t : slice_get ls (k + 1) ≡ Some n = g in let u : slice_get ls (suc k) ≡ Some n = rw (← add-one k) t in high n (rw (add-one (suc k)) u)))
