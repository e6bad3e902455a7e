-- Footprints that are the same, and what they say alike of changes.
use Rattle.std.proofs.Common.{◌≡◌, ℕ, ◌<◌, ◌≤◌, List, [], ◌∷◌, refl, sym, ◌∙◌, arith}
use Rattle.sv8_history.specs.Machine.{Footprint, SameFootprint, Machine, Notes, writes_of, touches_of}
use Rattle.sv8_history.specs.Trace.{some_from}
use Rattle.sv8_history.specs.Changes.{Change}
use Rattle.sv8_history.specs.Reads.{reads_change, reads_edit}
use Rattle.sv8_history.proofs.Spans.{some_from-like}

pub footprint_same : {C : Type 0} (x : Footprint C) → SameFootprint x x
footprint_same x = record { reads = λ a. refl; writes = λ a. refl; uses = λ a. refl; takes = refl }

pub footprint_then : {C : Type 0} (x y z : Footprint C) → SameFootprint x y → SameFootprint y z → SameFootprint x z
footprint_then x y z p q = record { reads = λ a. p.reads a ∙ q.reads a; writes = λ a. p.writes a ∙ q.writes a; uses = λ a. p.uses a ∙ q.uses a; takes = p.takes ∙ q.takes }

pub footprint_back : {C : Type 0} (x y : Footprint C) → SameFootprint x y → SameFootprint y x
footprint_back x y p = record { reads = λ a. sym (p.reads a); writes = λ a. sym (p.writes a); uses = λ a. sym (p.uses a); takes = sym p.takes }

-- the notes of the steps before `r` are the same
abbrev pub AreAlike : (m : Machine) → Notes m → Notes m → ℕ → Type 0
AreAlike m x y r = (n : ℕ) → n < r → SameFootprint (x n) (y n)

pub touches_like : (m : Machine) (x y : Notes m) (r : ℕ) → AreAlike m x y r → (a : m.Cell) (n : ℕ) → n < r → touches_of m x a n ≡ touches_of m y a n
touches_like m x y r alike a n l =
    let feet = alike n l in
    let p = feet.reads a in
    let q = feet.writes a in
    rw (p, q)

pub writes_like : (m : Machine) (x y : Notes m) (r : ℕ) → AreAlike m x y r → (a : m.Cell) (t c : ℕ) → c ≤ r
    → some_from t c (writes_of m x a) ≡ some_from t c (writes_of m y a)
writes_like m x y r alike a t c l =
    some_from-like t c (writes_of m x a) (writes_of m y a) (λ n d. (alike n (omega arith)).writes a)

pub change_like : (m : Machine) (x y : Notes m) (r : ℕ) → AreAlike m x y r → (c : Change m) (n : ℕ) → n < r → reads_change m x c n ≡ reads_change m y c n
change_like m x y r alike c n l =
    let feet = alike n l in
    let p = feet.reads c.cell in
    let w = writes_like m x y r alike c.cell c.from n (omega arith) in
    rw (p, w)

pub edit_like : (m : Machine) (x y : Notes m) (r : ℕ) → AreAlike m x y r → (cs : List (Change m)) (n : ℕ) → n < r → reads_edit m x cs n ≡ reads_edit m y cs n
edit_like m x y r alike [] n l = refl
edit_like m x y r alike (c ∷ cs) n l =
    let p = change_like m x y r alike c n l in let q = edit_like m x y r alike cs n l in rw (p, q)
