-- A machine in two parts, of which each obeys its law, obeys the frame law.
use Rattle.std.proofs.Common.{◌≡◌, false, cond, Option, Some, None, unwrap_or, refl, sym, ◌∙◌, ap}
use Rattle.sv8_history.specs.Machine.{SameFootprint, Machine}
use Rattle.sv8_history.specs.Framed.{AreCells, AreEvents}
use Rattle.sv8_history.specs.Acting.{Acting, IsActing, ActingFrames}
use Rattle.sv8_history.proofs.Footprints.{footprint_same}

-- what has come where the event sets the cell, whatever stood there
come_set : (p : Acting) → AreCells p.machine → AreEvents p.machine → IsActing p
    → (a : p.machine.Cell) (w v : p.machine.Value) (e : p.machine.Event) (s : p.machine.State) → p.machine.Valid e → p.machine.Has a s → p.machine.Fits a v
    → p.machine.poke a e ≡ Some w → p.come e (p.machine.put a v s) ≡ p.put a w (p.come e s)
come_set p cells events law a w v e s valid has fits poked =
    law.comes a v e e s valid valid has fits (events.alike_self a e) ∙ ap (λ o. p.put a (unwrap_or o v) (p.come e s)) poked

come_alike : (p : Acting) → AreCells p.machine → AreEvents p.machine → IsActing p
    → (a : p.machine.Cell) (w v : p.machine.Value) (e : p.machine.Event) (s : p.machine.State) → p.machine.Valid e → p.machine.Has a s → p.machine.Fits a v
    → p.machine.poke a e ≡ Some w → p.come e (p.machine.put a v s) ≡ p.come e s
come_alike p cells events law a w v e s valid has fits poked =
    come_set p cells events law a w v e s valid has fits poked ∙ sym (come_set p cells events law a w (p.machine.get a s) e s valid has (cells.get_fits a s has) poked) ∙ ap (p.come e) (cells.put-get a s)

quiet : (p : Acting) → AreEvents p.machine → IsActing p → (a : p.machine.Cell) (w : p.machine.Value) (e f : p.machine.Event) (s q : p.machine.State)
    → p.machine.Valid e → p.machine.Has a s → p.machine.Fits a w → p.come f q ≡ p.put a w (p.come e s) → (p.machine.footprint e s).reads a ≡ false
    → p.machine.step f q ≡ cond ((p.machine.footprint e s).writes a) (p.machine.step e s) (p.machine.put a w (p.machine.step e s))
quiet p events law a w e f s q valid has fits came unread =
    let footprint = law.footprint_is e s in
    let read : (p.footprint (p.come e s)).reads a ≡ false = rw (← footprint) unread in
    let acted = law.quiet a w (p.come e s) (law.has_come a e s valid has) fits read in
    let here = law.step_is e s in
    rw (footprint, here) (law.step_is f q ∙ ap p.act came ∙ acted)

quiet_footprint : (p : Acting) → IsActing p → (a : p.machine.Cell) (w : p.machine.Value) (e f : p.machine.Event) (s q : p.machine.State)
    → p.machine.Valid e → p.machine.Has a s → p.machine.Fits a w → p.come f q ≡ p.put a w (p.come e s) → (p.machine.footprint e s).reads a ≡ false
    → SameFootprint (p.machine.footprint f q) (p.machine.footprint e s)
quiet_footprint p law a w e f s q valid has fits came unread =
    let footprint = law.footprint_is e s in
    let other = law.footprint_is f q in
    let read : (p.footprint (p.come e s)).reads a ≡ false = rw (← footprint) unread in
    rw (footprint, other, came) (law.quiet_footprint a w (p.come e s) (law.has_come a e s valid has) fits read)

-- a value that was poked fits, and so does the one that stood there
poked_fits : (m : Machine) → AreEvents m → (a : m.Cell) (v : m.Value) (e : m.Event) → m.Valid e → m.Fits a v → m.Fits a (unwrap_or (m.poke a e) v)
poked_fits m events a v e valid fits = go (m.poke a e) (λ w f. events.poke_fits a w e valid f)
  where
    go : (o : Option m.Value) → ((w : m.Value) → o ≡ Some w → m.Fits a w) → m.Fits a (unwrap_or o v)
    go None h = fits
    go (Some w) h = h w refl

footprint_of : (p : Acting) → IsActing p → (e f : p.machine.Event) (s q : p.machine.State) → p.come f q ≡ p.come e s
    → SameFootprint (p.machine.footprint f q) (p.machine.footprint e s)
footprint_of p law e f s q same =
    let x = law.footprint_is f q in let y = law.footprint_is e s in rw (x, y, same) (footprint_same (p.footprint (p.come e s)))

input : (p : Acting) → IsActing p → (e f : p.machine.Event) (s : p.machine.State) → p.machine.Valid e → p.machine.Valid f → p.machine.Sound s → p.machine.AlikeInput e f
    → (p.machine.footprint e s).takes ≡ false → p.machine.step f s ≡ p.machine.step e s
input p law e f s valid too sound alike untaken =
    let footprint = law.footprint_is e s in
    let taken : (p.footprint (p.come e s)).takes ≡ false = rw (← footprint) untaken in
    let came = law.delivers e f s valid too alike in
    law.step_is f s ∙ ap p.act came.1 ∙ law.untaken came.0 (p.come e s) (law.sound_come e s valid sound) taken ∙ sym (law.step_is e s)

input_footprint : (p : Acting) → IsActing p → (e f : p.machine.Event) (s : p.machine.State) → p.machine.Valid e → p.machine.Valid f → p.machine.Sound s → p.machine.AlikeInput e f
    → (p.machine.footprint e s).takes ≡ false → SameFootprint (p.machine.footprint f s) (p.machine.footprint e s)
input_footprint p law e f s valid too sound alike untaken = go (law.delivers e f s valid too alike)
  where
    go : (w : p.Waiting) × (p.come f s ≡ p.wait w (p.come e s)) → SameFootprint (p.machine.footprint f s) (p.machine.footprint e s)
    go came =
        let footprint = law.footprint_is e s in
        let other = law.footprint_is f s in
        let taken : (p.footprint (p.come e s)).takes ≡ false = rw (← footprint) untaken in
        let there = came.1 in
        rw (footprint, other, there) (law.untaken_footprint came.0 (p.come e s) (law.sound_come e s valid sound) taken)

pub acting_frames : (p : Acting) → ActingFrames p
acting_frames p cells events law = record {
  cells = cells;
  events = events;
  quiet = λ a v e f s valid too has fits alike unread. quiet p events law a (unwrap_or (p.machine.poke a f) v) e f s (p.machine.put a v s) valid has (poked_fits p.machine events a v f too fits) (law.comes a v e f s valid too has fits alike) unread;
  quiet_footprint = λ a v e f s valid too has fits alike unread. quiet_footprint p law a (unwrap_or (p.machine.poke a f) v) e f s (p.machine.put a v s) valid has (poked_fits p.machine events a v f too fits) (law.comes a v e f s valid too has fits alike) unread;
  alike = λ a w v e s valid has fits poked. law.step_is e (p.machine.put a v s) ∙ ap p.act (come_alike p cells events law a w v e s valid has fits poked) ∙ sym (law.step_is e s);
  alike_footprint = λ a w v e s valid has fits poked. footprint_of p law e e s (p.machine.put a v s) (come_alike p cells events law a w v e s valid has fits poked);
  input = input p law;
  input_footprint = input_footprint p law;
}
