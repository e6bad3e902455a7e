use Rattle.std.proofs.Common.{◌≡◌, ◌≤◌, ◌<◌, ◌+◌, ◌-◌, ◌*◌, ◌/◌, ◌%◌, ◌∙◌, ℕ, MatchBool, arith, ap, sym, subst, refl, length}
use Rattle.std.proofs.Math.Nat.{div-add-mod, div-eq_of_lt-le}
use Rattle.sv8_notes.specs.Touching.{touches_any}
use Rattle.sv8_notes.proofs.Common.{flag_unless}
use Rattle.sv8_trace.specs.Recording.{notes_of}
use Rattle.sv8_evidence.specs.Touching.{NoneTouches}
use Rattle.sv8_evidence.proofs.Untouched.{touched_step}
use Rattle.sv8_evidence.proofs.touching.flag_touching.Goals as goal

pub returns : goal.returns
returns g c =
    let k = g.row.K in
    let a = c.args in
    let r = a.trace.now in
    let from = a.from in
    let flags = a.flags.now in
    let low = 4 * (a.address / 4) in
    let last = a.address + (a.count - 1) in
    let some : 1 ≤ a.count = omega (arith, c.if-count-eq0.false) in
    let notes = c.notes-notes.result.now in
    let spared : (i : ℕ) → i < length flags
    → MatchBool (touches_any a.kind low last (from % k + i) (from % k + i + 1) notes) (NoneTouches a.kind g.row.NW g.row.PAGES k r a.address a.count (from + i) (from + i + 1) → ⊥)
    (NoneTouches a.kind g.row.NW g.row.PAGES k r a.address a.count (from + i) (from + i + 1)) = λ i inside.
    let split = div-add-mod from k in
    let there : (from + i) / k ≡ from / k = div-eq_of_lt-le k (omega (arith, split)) (omega (arith, split, c.requires.interval, inside)) in
    let turned = ap (λ q. k * q) there in
    let rest : (from + i) % k ≡ from % k + i = omega (arith, div-add-mod (from + i) k, split, turned) in
    let is = c.notes-notes.ensures ∙ ap (notes_of r) (sym there) in
    subst (λ j. MatchBool (touches_any a.kind low last j (j + 1) notes) (NoneTouches a.kind g.row.NW g.row.PAGES k r a.address a.count (from + i) (from + i + 1) → ⊥)
    (NoneTouches a.kind g.row.NW g.row.PAGES k r a.address a.count (from + i) (from + i + 1))) rest
    (touched_step a.kind g.row.NW g.row.PAGES k c.sizes.ensures.some_steps r a.address a.count low last refl some (omega (arith, some)) (from + i) notes is) in
    flag_unless flags c.flag_touching.new.flags (λ i. touches_any a.kind low last (from % k + i) (from % k + i + 1) notes)
    (λ i. NoneTouches a.kind g.row.NW g.row.PAGES k r a.address a.count (from + i) (from + i + 1)) c.flag_touching.ensures spared
