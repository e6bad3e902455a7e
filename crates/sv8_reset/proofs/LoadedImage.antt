-- Lines that are placed in RAM over zeros make the image.
use Rattle.std.proofs.Common.{◌≡◌, ◌∙◌, ◌≢◌, ◌⊎◌, inl, inr, ℕ, zero, suc, ◌+◌, ◌-◌, ◌<◌, ◌≤◌, Bool, true, false, cond, nat_lt, List, [], ◌∷◌, length, drop, map, Some, None, refl, sym, ap, arith, get_or, set, get_or-set_other, get_or-set_same, length-set, add-one}
use Rattle.std.specs.List.{slice_get, range_with_len}
use Rattle.std.specs.Prelude.{replicate}
use Rattle.std.proofs.lemmas.Bool.{cases_lt}
use Rattle.std.proofs.lemmas.Bool.Decides.{nat_tests}
use Rattle.std.proofs.lemmas.List.{drop_more}
use Rattle.std.proofs.lemmas.List.FromFn.{fill_by_all}
use Rattle.std.proofs.lemmas.Option.{slice_get_within, get_or_from_slice_get}
use Rattle.sv8_source.specs.Listing.{ListedLine, numbered}
use Rattle.sv8_source.specs.Listing.{listing}
use Rattle.sv8_source.specs.Text.{Text}
use Rattle.sv8_source.specs.Image.{covers, byte_at, image_byte, image_bytes, Rising}
use Rattle.sv8_source.proofs.Common.{lines_rise}
use Rattle.sv8_phys.specs.Contents.{Contents}
use Rattle.sv8_reset.specs.Loading.{byte_placed, bytes_placed, lines_placed}

-- ---- one line after another

next : (ls : List ListedLine) (i : ℕ) (l : ListedLine) → slice_get ls i ≡ Some l → drop i ls ≡ l ∷ drop (i + 1) ls
next ls i l e = drop_more ls i l (slice_get_within ls i l e) ∙ ap (λ m. m ∷ drop (i + 1) ls) (get_or_from_slice_get ls i l l e)

pub placed_line : (size i : ℕ) (ls : List ListedLine) (ram : List ℕ) (l : ListedLine) → slice_get ls i ≡ Some l
    → lines_placed size (drop (i + 1) ls) (bytes_placed size l.address l.bytes ram) ≡ lines_placed size (drop i ls) ram
placed_line size i ls ram l e = sym (ap (λ m. lines_placed size m ram) (next ls i l e))

numbered_next : (ls : List ListedLine) (i : ℕ) → numbered ls (i + 1) ≡ slice_get ls i
numbered_next ls i = ap (numbered ls) (add-one i)

pub placed_next : (size i : ℕ) (ls : List ListedLine) (ram : List ℕ) (l : ListedLine) → Some l ≡ numbered ls (i + 1)
    → lines_placed size (drop (i + 1) ls) (bytes_placed size l.address l.bytes ram) ≡ lines_placed size (drop i ls) ram
placed_next size i ls ram l e = placed_line size i ls ram l (sym (numbered_next ls i) ∙ sym e)

no_more : (ls : List ListedLine) (i : ℕ) → slice_get ls i ≡ None → drop i ls ≡ []
no_more [] zero e = refl
no_more [] (suc i) e = refl
no_more (l ∷ ls) zero e = absurd cc
no_more (l ∷ ls) (suc i) e = no_more ls i e

none_later : (ls : List ListedLine) (i : ℕ) → drop i ls ≡ [] → drop (i + 1) ls ≡ []
none_later [] i e = rw (add-one i) refl
none_later (l ∷ ls) zero e = absurd cc
none_later (l ∷ ls) (suc i) e = let more : suc i + 1 ≡ suc (i + 1) = omega arith in rw more (none_later ls i e)

pub placed_none : (size i : ℕ) (ls : List ListedLine) (ram : List ℕ) → None ≡ numbered ls (i + 1) → lines_placed size (drop (i + 1) ls) ram ≡ lines_placed size (drop i ls) ram
placed_none size i ls ram e =
    let ended = no_more ls i (sym (numbered_next ls i) ∙ sym e) in
    ap (λ m. lines_placed size m ram) (none_later ls i ended ∙ sym ended)

-- ---- what stands in RAM then

at_byte : (size at b : ℕ) (ram : List ℕ) (k : ℕ) → k ≢ at → get_or (byte_placed size at b ram) k 0 ≡ get_or ram k 0
at_byte size at b ram k far = go (nat_lt at size) where
  go : (c : Bool) → get_or (cond c (set ram at b) ram) k 0 ≡ get_or ram k 0
  go true = get_or-set_other ram at k b 0 far
  go false = refl

byte_there : (size at b : ℕ) (ram : List ℕ) → length ram ≡ size → at < size → get_or (byte_placed size at b ram) at 0 ≡ b
byte_there size at b ram long h = let inside : nat_lt at size ≡ true = grind (arith, nat_tests) in rw inside (get_or-set_same ram at b 0 (omega (arith, long, h)))

length-byte : (size at b : ℕ) (ram : List ℕ) → length (byte_placed size at b ram) ≡ length ram
length-byte size at b ram = go (nat_lt at size) where
  go : (c : Bool) → length (cond c (set ram at b) ram) ≡ length ram
  go true = length-set ram at b
  go false = refl

length-bytes : (size at : ℕ) (bs ram : List ℕ) → length (bytes_placed size at bs ram) ≡ length ram
length-bytes size at [] ram = refl
length-bytes size at (b ∷ bs) ram = length-bytes size (at + 1) bs (byte_placed size at b ram) ∙ length-byte size at b ram

length-lines : (size : ℕ) (ls : List ListedLine) (ram : List ℕ) → length (lines_placed size ls ram) ≡ length ram
length-lines size [] ram = refl
length-lines size (l ∷ ls) ram = length-lines size ls _ ∙ length-bytes size l.address l.bytes ram

-- in front of the bytes and behind them nothing changes
in_front : (size at : ℕ) (bs ram : List ℕ) (k : ℕ) → k < at → get_or (bytes_placed size at bs ram) k 0 ≡ get_or ram k 0
in_front size at [] ram k h = refl
in_front size at (b ∷ bs) ram k h = in_front size (at + 1) bs (byte_placed size at b ram) k (omega (arith, h)) ∙ at_byte size at b ram k (λ e. omega (arith, e, h))

behind : (size at : ℕ) (bs ram : List ℕ) (k : ℕ) → at + length bs ≤ k → get_or (bytes_placed size at bs ram) k 0 ≡ get_or ram k 0
behind size at [] ram k h = refl
behind size at (b ∷ bs) ram k h = behind size (at + 1) bs (byte_placed size at b ram) k (omega (arith, h)) ∙ at_byte size at b ram k (λ e. omega (arith, e, h))

-- and each byte stands at its place
there : (size at : ℕ) (bs ram : List ℕ) (i : ℕ) → length ram ≡ size → i < length bs → at + i < size → get_or (bytes_placed size at bs ram) (at + i) 0 ≡ get_or bs i 0
there size at [] ram i long h inside = absurd (omega (arith, h))
there size at (b ∷ bs) ram zero long h inside =
    let same : at + 0 ≡ at = omega arith in
    rw same (in_front size (at + 1) bs (byte_placed size at b ram) at (omega arith) ∙ byte_there size at b ram long (omega (arith, inside)))
there size at (b ∷ bs) ram (suc i) long h inside =
    let same : at + suc i ≡ at + 1 + i = omega arith in
    rw same (there size (at + 1) bs (byte_placed size at b ram) i (length-byte size at b ram ∙ long) (omega (arith, h)) (omega (arith, inside)))

-- ---- the image

none_below : (ls : List ListedLine) (from a : ℕ) → Rising from ls → a < from → byte_at ls a ≡ 0
none_below [] from a r h = refl
none_below (l ∷ ls) from a r h =
    let up = r.0 in
    let off : covers l a ≡ false = grind (arith, nat_tests) in
    rw off (none_below ls (l.address + length l.bytes) a r.1 (omega (arith, up, h)))

record Shows (size from : ℕ) (ls : List ListedLine) (ram : List ℕ) : Type 0 where
  pub low : (a : ℕ) → a < from → get_or (lines_placed size ls ram) a 0 ≡ get_or ram a 0
  pub high : ((b : ℕ) → from ≤ b → get_or ram b 0 ≡ 0) → (a : ℕ) → a < size → from ≤ a → get_or (lines_placed size ls ram) a 0 ≡ byte_at ls a

shows_more : (size from : ℕ) (l : ListedLine) (ls : List ListedLine) (ram : List ℕ) → Rising from (l ∷ ls) → length ram ≡ size
    → Shows size (l.address + length l.bytes) ls (bytes_placed size l.address l.bytes ram) → Shows size from (l ∷ ls) ram
shows_more size from l ls ram r long rest = record { low = low; high = high }
  where
    end : ℕ
    end = l.address + length l.bytes

    low : (a : ℕ) → a < from → get_or (lines_placed size (l ∷ ls) ram) a 0 ≡ get_or ram a 0
    low a h = let up = r.0 in rest.low a (omega (arith, up, h)) ∙ in_front size l.address l.bytes ram a (omega (arith, up, h))

    high : ((b : ℕ) → from ≤ b → get_or ram b 0 ≡ 0) → (a : ℕ) → a < size → from ≤ a → get_or (lines_placed size (l ∷ ls) ram) a 0 ≡ byte_at (l ∷ ls) a
    high z a h k = by_end z a h k (cases_lt a end)
      where
        in_line : (a : ℕ) → a < size → l.address ≤ a → a < end → get_or (bytes_placed size l.address l.bytes ram) a 0 ≡ byte_at (l ∷ ls) a
        in_line a h low below =
            let same : a ≡ l.address + (a - l.address) = omega (arith, low) in
            let on : covers l a ≡ true = grind (arith, nat_tests) in
            let placed = there size l.address l.bytes ram (a - l.address) long (omega (arith, low, below)) (omega (arith, low, h)) in
            rw on (ap (λ n. get_or (bytes_placed size l.address l.bytes ram) n 0) same ∙ placed)

        in_gap : ((b : ℕ) → from ≤ b → get_or ram b 0 ≡ 0) → (a : ℕ) → from ≤ a → a < l.address → get_or (bytes_placed size l.address l.bytes ram) a 0 ≡ byte_at (l ∷ ls) a
        in_gap z a k below =
            let off : covers l a ≡ false = grind (arith, nat_tests) in
            rw off (in_front size l.address l.bytes ram a below ∙ z a k ∙ sym (none_below ls end a r.1 (omega (arith, below))))

        by_start : ((b : ℕ) → from ≤ b → get_or ram b 0 ≡ 0) → (a : ℕ) → a < size → from ≤ a → a < end → (a < l.address) ⊎ (l.address ≤ a)
            → get_or (bytes_placed size l.address l.bytes ram) a 0 ≡ byte_at (l ∷ ls) a
        by_start z a h k below (inl g) = in_gap z a k g
        by_start z a h k below (inr g) = in_line a h g below

        by_end : ((b : ℕ) → from ≤ b → get_or ram b 0 ≡ 0) → (a : ℕ) → a < size → from ≤ a → (a < end) ⊎ (end ≤ a) → get_or (lines_placed size (l ∷ ls) ram) a 0 ≡ byte_at (l ∷ ls) a
        by_end z a h k (inl below) = rest.low a below ∙ by_start z a h k below (cases_lt a l.address)
        by_end z a h k (inr past) =
            let up = r.0 in
            let off : covers l a ≡ false = grind (arith, nat_tests) in
            rw off (rest.high (λ b g. behind size l.address l.bytes ram b g ∙ z b (omega (arith, up, g))) a h past)

shows : (size from : ℕ) (ls : List ListedLine) (ram : List ℕ) → Rising from ls → length ram ≡ size → Shows size from ls ram
shows size from [] ram r long = record { low = λ a h. refl; high = λ z a h k. z a k }
shows size from (l ∷ ls) ram r long =
    shows_more size from l ls ram r long
    (shows size (l.address + length l.bytes) ls (bytes_placed size l.address l.bytes ram) r.1 (length-bytes size l.address l.bytes ram ∙ long))

zeros : (n a : ℕ) → ◌≡◌ {A = ℕ} (get_or (replicate n 0) a 0) 0
zeros zero a = refl
zeros (suc n) zero = refl
zeros (suc n) (suc a) = zeros n a

length-zeros : (n : ℕ) → length (replicate {A = ℕ} n 0) ≡ n
length-zeros zero = refl
length-zeros (suc n) = let rest = length-zeros n in omega (arith, rest)

-- lines that rise, placed over zeros, are the image
pub loaded : (size : ℕ) (ls : List ListedLine) (ram : List ℕ) → Rising 0 ls → lines_placed size ls (replicate size 0) ≡ ram → ram ≡ map (byte_at ls) (range_with_len 0 size)
loaded size ls ram r e =
    let shown = shows size 0 ls (replicate size 0) r (length-zeros size) in
    sym e ∙ fill_by_all (byte_at ls) (lines_placed size ls (replicate size 0)) size 0 (length-lines size ls (replicate size 0) ∙ length-zeros size)
    (λ k h. shown.high (λ b g. zeros size b) k h (omega arith))

past : (ls : List ListedLine) (n : ℕ) → length ls ≤ n → drop n ls ≡ []
past [] zero h = refl
past [] (suc n) h = refl
past (l ∷ ls) zero h = absurd (omega (arith, h))
past (l ∷ ls) (suc n) h = past ls n (omega (arith, h))

-- once all lines of a source are placed, memory holds its image
pub all_placed : (size n : ℕ) (s : Text) (m0 m : Contents) → length (listing s) ≤ n → m0.ram ≡ replicate size 0 → lines_placed size (drop n (listing s)) m.ram ≡ lines_placed size (listing s) m0.ram
    → m ≡ record m0 { ram = m.ram } → m ≡ record m0 { ram = image_bytes s size }
unfolding image_byte
all_placed size n s m0 m h z e others =
    let placed : lines_placed size (listing s) (replicate size 0) ≡ m.ram = sym (ap (λ r. lines_placed size (listing s) r) z) ∙ sym e ∙ ap (λ ls. lines_placed size ls m.ram) (past (listing s) n h) in
    others ∙ ap {A = List ℕ} {B = Contents} (λ r. record m0 { ram = r }) (loaded size (listing s) m.ram (lines_rise s) placed)
