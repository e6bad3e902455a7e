-- Where the lines stand.
use Rattle.std.proofs.Common.{◌≡◌, ◌∙◌, ℕ, zero, suc, ◌+◌, ◌≤◌, List, [], ◌∷◌, Some, Ok, sym, ap, subst, add-one, arith}
use Rattle.std.specs.List.{slice_get}
use Rattle.sv8_syntax.specs.Reading.{reading}
use Rattle.sv8_asm.specs.Names.{Names, no_names}
use Rattle.sv8_asm.specs.Size.{size}
use Rattle.sv8_source.specs.Layout.{Place}
use Rattle.sv8_source.specs.Listing.{numbered}
use Rattle.sv8_assembler_laws.specs.LayoutLaws.{location_in, location, Moves, LocationsFollow}
use Rattle.sv8_source.proofs.LaidLines.{Chain, lines_chain}

pub first_is : (limit n : ℕ) (symbols : Names) (at : ℕ) (ts : List (List ℕ)) (ps : List Place) (done : Names) (end : ℕ) → Chain limit n symbols at ts ps done end → location_in ps end 0 ≡ at
first_is limit n symbols at [] [] done end c = sym c.1
first_is limit n symbols at [] (p ∷ ps) done end c = absurd c
first_is limit n symbols at (t ∷ ts) [] done end c = absurd c
first_is limit n symbols at (t ∷ ts) (p ∷ ps) done end c = c.2.stands

moves : (limit n : ℕ) (symbols : Names) (at : ℕ) (ts : List (List ℕ)) (ps : List Place) (done : Names) (end : ℕ) → Chain limit n symbols at ts ps done end
    → (i : ℕ) (text : List ℕ) → slice_get ts i ≡ Some text → Moves text (location_in ps end i) (location_in ps end (suc i))
moves limit n symbols at [] [] done end c i text e = absurd (cc)
moves limit n symbols at [] (p ∷ ps) done end c i text e = absurd c
moves limit n symbols at (t ∷ ts) [] done end c i text e = absurd c
moves limit n symbols at (t ∷ ts) (p ∷ ps) done end c zero text e =
    let same : t ≡ text = cc in
    let link = c.2 in
    record {
      stmt = p.stmt;
      read = subst (λ x. reading x ≡ Ok p.stmt) same link.read;
      count = link.admits.count;
      sized = subst (λ a. size p.stmt a ≡ Ok link.admits.count) (sym link.stands) link.admits.sized;
      moved = first_is limit (n + 1) c.0 c.1 ts ps done end c.3 ∙ link.admits.behind ∙ ap (λ a. a + link.admits.count) (sym link.stands);
    }
moves limit n symbols at (t ∷ ts) (p ∷ ps) done end c (suc i) text e = moves limit (n + 1) c.0 c.1 ts ps done end c.3 i text e

within : (limit n : ℕ) (symbols : Names) (at : ℕ) (ts : List (List ℕ)) (ps : List Place) (done : Names) (end : ℕ) → Chain limit n symbols at ts ps done end → at ≤ limit
    → (i : ℕ) → location_in ps end i ≤ limit
within limit n symbols at [] [] done end c room i = subst (λ a. a ≤ limit) c.1 room
within limit n symbols at [] (p ∷ ps) done end c room i = absurd c
within limit n symbols at (t ∷ ts) [] done end c room i = absurd c
within limit n symbols at (t ∷ ts) (p ∷ ps) done end c room zero = subst (λ a. a ≤ limit) (sym c.2.stands) room
within limit n symbols at (t ∷ ts) (p ∷ ps) done end c room (suc i) =
    within limit (n + 1) c.0 c.1 ts ps done end c.3 (subst (λ a. a ≤ limit) (sym c.2.admits.behind) c.2.admits.room) i

pub locations_follow : LocationsFollow
locations_follow s l h = record { first = first_is s.limit 1 no_names 0 s.lines l.places l.symbols l.at chain; next = next; within = inside }
  where
    chain : Chain s.limit 1 no_names 0 s.lines l.places l.symbols l.at
    chain = lines_chain s l h

    next : (i : ℕ) (text : List ℕ) → numbered s.lines i ≡ Some text → Moves text (location l i) (location l (i + 1))
    next zero text e = absurd (cc)
    next (suc i) text e = subst (λ k. Moves text (location_in l.places l.at i) (location l k)) (sym (add-one (suc i))) (moves s.limit 1 no_names 0 s.lines l.places l.symbols l.at chain i text e)

    inside : (i : ℕ) → location l i ≤ s.limit
    inside zero = omega arith
    inside (suc i) = within s.limit 1 no_names 0 s.lines l.places l.symbols l.at chain (omega arith) i
