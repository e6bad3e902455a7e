-- Touches behind the first word that a step touches: they are data.
use Rattle.std.proofs.Common.{◌≡◌, ℕ, ◌==◌, Bool, true, false, List, [], ◌∷◌, ◌++◌, refl, sym, ◌∙◌}
use Rattle.std.specs.Prelude.{if◌then◌else◌}
use Rattle.std.specs.List.{list_any}
use Rattle.std.proofs.lemmas.Bool.{or_parts, true≢false, false≢true}
use Rattle.sv8_model.specs.declared.touch.Touch.{Touch}
use Rattle.sv8_model.specs.declared.touch.Touch.TheVariants.{Read, Write, Input, Levels, Expiry}
use Rattle.sv8_model.specs.declared.touch.TouchKind.{TouchKind}
use Rattle.sv8_model.specs.declared.touch.TouchKind.TheVariants.{Any, Data}
use Rattle.sv8_model.specs.Outside.{word_address}
use Rattle.sv8_model.specs.Footprint.{is_touch_of, behind_fetch, touches_data}
use Rattle.sv8_cpu.specs.Touching.{AreUntouched}
use Rattle.sv8_step_laws.proofs.Touched.{touched_is}

-- ---- the first word that is touched

-- what is touched behind it
abbrev pub rest : List Touch → List Touch
rest [] = []
rest (Read a ∷ ts) = ts
rest (Write a ∷ ts) = ts
rest (Input ∷ ts) = rest ts
rest (Levels word ∷ ts) = rest ts
rest (Expiry ∷ ts) = rest ts

-- there is none
abbrev pub wordless : List Touch → Bool
wordless [] = true
wordless (Read a ∷ ts) = false
wordless (Write a ∷ ts) = false
wordless (Input ∷ ts) = wordless ts
wordless (Levels word ∷ ts) = wordless ts
wordless (Expiry ∷ ts) = wordless ts

pub rest_past : (ts us : List Touch) → wordless ts ≡ true → rest (ts ++ us) ≡ rest us
rest_past [] us h = refl
rest_past (Read a ∷ ts) us h = absurd (false≢true h)
rest_past (Write a ∷ ts) us h = absurd (false≢true h)
rest_past (Input ∷ ts) us h = rest_past ts us h
rest_past (Levels word ∷ ts) us h = rest_past ts us h
rest_past (Expiry ∷ ts) us h = rest_past ts us h

pub rest_before : (ts us : List Touch) → wordless ts ≡ false → rest (ts ++ us) ≡ rest ts ++ us
rest_before [] us h = absurd (true≢false h)
rest_before (Read a ∷ ts) us h = refl
rest_before (Write a ∷ ts) us h = refl
rest_before (Input ∷ ts) us h = rest_before ts us h
rest_before (Levels word ∷ ts) us h = rest_before ts us h
rest_before (Expiry ∷ ts) us h = rest_before ts us h

pub wordless_behind : (ts us : List Touch) → wordless (ts ++ us) ≡ true → wordless us ≡ true
wordless_behind [] us h = h
wordless_behind (Read a ∷ ts) us h = absurd (false≢true h)
wordless_behind (Write a ∷ ts) us h = absurd (false≢true h)
wordless_behind (Input ∷ ts) us h = wordless_behind ts us h
wordless_behind (Levels word ∷ ts) us h = wordless_behind ts us h
wordless_behind (Expiry ∷ ts) us h = wordless_behind ts us h

-- ---- what is touched behind it is data

module _ (w : ℕ) where
  abbrev pub of : List Touch → Bool
  of ts = list_any (is_touch_of w) ts

  behind_all : (ts : List Touch) → of ts ≡ false → of (rest ts) ≡ false
  behind_all [] h = h
  behind_all (Read a ∷ ts) h = (or_parts (is_touch_of w (Read a)) (of ts) h).1
  behind_all (Write a ∷ ts) h = (or_parts (is_touch_of w (Write a)) (of ts) h).1
  behind_all (Input ∷ ts) h = behind_all ts h
  behind_all (Levels word ∷ ts) h = behind_all ts h
  behind_all (Expiry ∷ ts) h = behind_all ts h

  stored : (f d : ℕ) (b : Bool) → of (if b then (Read f ∷ Write d ∷ []) else (Write d ∷ [])) ≡ false → of (Write d ∷ []) ≡ false
  stored f d true h = behind_all (Read f ∷ Write d ∷ []) h
  stored f d false h = h

  behind : (ts : List Touch) → of (behind_fetch ts) ≡ false → of (rest ts) ≡ false
  behind [] h = refl
  behind (Read f ∷ []) h = refl
  behind (Read f ∷ Read d ∷ []) h = h
  behind (Read f ∷ Read d ∷ t ∷ ts) h = behind_all (Read f ∷ Read d ∷ t ∷ ts) h
  behind (Read f ∷ Write d ∷ []) h = stored f d (f == d) h
  behind (Read f ∷ Write d ∷ t ∷ ts) h = behind_all (Read f ∷ Write d ∷ t ∷ ts) h
  behind (Read f ∷ Input ∷ ts) h = behind_all (Read f ∷ Input ∷ ts) h
  behind (Read f ∷ Levels word ∷ ts) h = behind_all (Read f ∷ Levels word ∷ ts) h
  behind (Read f ∷ Expiry ∷ ts) h = behind_all (Read f ∷ Expiry ∷ ts) h
  behind (Write a ∷ ts) h = behind_all (Write a ∷ ts) h
  behind (Input ∷ ts) h = behind_all (Input ∷ ts) h
  behind (Levels word ∷ ts) h = behind_all (Levels word ∷ ts) h
  behind (Expiry ∷ ts) h = behind_all (Expiry ∷ ts) h

  pub no_data : (ts : List Touch) → touches_data ts w ≡ false → of (rest ts) ≡ false
  no_data [] h = refl
  no_data (Read a ∷ ts) h = behind (Read a ∷ ts) h
  no_data (Write a ∷ ts) h = behind (Write a ∷ ts) h
  no_data (Input ∷ ts) h = behind (Input ∷ ts) h
  no_data (Levels word ∷ ts) h = behind ts h
  no_data (Expiry ∷ ts) h = behind (Expiry ∷ ts) h

  pub is_data_behind : (ts : List Touch) → of (rest ts) ≡ true → touches_data ts w ≡ true
  is_data_behind ts h = by_case (touches_data ts w) refl
    where
      by_case : (b : Bool) → touches_data ts w ≡ b → b ≡ true
      by_case true e = refl
      by_case false e = absurd (true≢false (sym h ∙ no_data ts e))
