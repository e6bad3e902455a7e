use Rattle.std.proofs.Common.{◌≡◌, ℕ, ◌+◌, ◌<◌, ◌≤◌, ◌&&◌, false, leb, ltb, List, Bool, Option, Some, None, length, get_or, set, map, take, suc, ap, sym, ◌∙◌, arith, refl}
use Rattle.std.specs.Vec.{with_item}
use Rattle.sv8_cpu.specs.State.{State}
use Rattle.sv8_trace.specs.Recording.{Recording, blank}
use Rattle.sv8_trace.specs.Prepared.{placed}
use Rattle.sv8_trace.specs.Placing.{IsSound}
use Rattle.sv8_trace.proofs.Preparing.{sound_at, slot_is, level_in, gathered, level_set, taken_long, gathered_long}
use Rattle.sv8_trace.proofs.trace.Trace.set_level.Goals.{Joined-index_mut, in-Some, in-None+in_ok-column-in-None}
use Rattle.sv8_trace.proofs.trace.Trace.set_level.Goals as goal
use Rattle.sv8_trace.proofs.trace.Trace.set_level.Given.{Over}

sound : (g : Over) (c : Joined-index_mut g) (i : ℕ) → i ≤ c.args.staged.now.count → IsSound g.row.PAGES (get_or c.args.self.now.points i blank).memory
sound g c i h = sound_at g.row.PAGES i c.args.self.now c.args.staged.now c.self.inside.points c.self.inside.intervals.items c.self.invariant.7 c.self.invariant.5 c.self.view_is c.requires.fits h

-- the column has the level of each checkpoint
has_level : (g : Over) (c : Joined-index_mut g) (i : ℕ) → i ≤ c.args.staged.now.count
    → (length c.match-take.column ≡ suc c.args.staged.now.count) × (get_or c.match-take.column i false ≡ get_or (placed c.args.staged.now i (get_or c.args.self.now.points i blank)).memory.pending c.args.level false)
has_level g c i h =
    let inv = c.self.invariant in
    let fits = c.requires.fits in
    let points = ap (λ (r : Recording). r.points) c.self.view_is in
    let count = ap (λ (r : Recording). length r.intervals) c.self.view_is in
    let long = ap length points in
    let place : c.args.level < length c.args.staged.now.levels.items = omega (arith, fits.columns.levels_count, c.requires.level) in
    let here = λ (o : Option (List Bool)). level_in g.row.PAGES i c.args.self.now c.args.staged.now fits h (get_or c.args.self.now.points i blank) (sound g c i h) c.args.level o in
    elim c.match-take.branch [
      | in-Some w ↦
          let slot = slot_is c.args.staged.now.levels.items c.args.level c.index_mut.result.now (Some c.match-take.column) place c.index_mut.ensures.value (sym c.take.ensures.value ∙ w.in-Some.is ∙ ap Some (sym w.column-is)) in
          (taken_long _ c.args.level c.args.staged.now.levels.items c.match-take.column fits.full_levels slot, sym (here _ slot))
      | in-None+in_ok-column-in-None w ↦
          let slot = slot_is c.args.staged.now.levels.items c.args.level c.index_mut.result.now None place c.index_mut.ensures.value (sym c.take.ensures.value ∙ w.in-None.is) in
          let f = λ (s : State). get_or s.memory.pending c.args.level false in
          let are = w.column-is ∙ w.in_ok-column-in-None.ensures ∙ ap (λ l. map (λ s. get_or s.memory.pending l false) (take (c.args.staged.now.count + 1) c.self.inside.points)) w.level_numbered.ensures ∙ ap (λ ps. map f (take (c.args.staged.now.count + 1) ps)) points in
          let enough : c.args.staged.now.count + 1 ≤ length c.args.self.now.points = omega (arith, fits.count, count, long, inv.5) in (
            gathered_long f c.args.staged.now.count c.args.self.now.points c.match-take.column are enough,
            gathered f false (c.args.staged.now.count + 1) i c.args.self.now.points c.match-take.column are (omega arith) enough ∙ sym (here _ slot),
          )
    ]

pub returns-clause-points : goal.returns-clause-points
returns-clause-points g c = λ i h.
    let l = c.args.level in
    let has = has_level g c i h in
    level_set g.row.PAGES i c.args.self.now c.args.staged.now
    (record { count = c.args.staged.now.count; pages = c.args.staged.now.pages; levels = with_item (with_item c.args.staged.now.levels l c.take.new.self) l (Some c.set.new.self); kept = c.args.staged.now.kept })
    c.requires.fits h (get_or c.args.self.now.points i blank) (sound g c i h) l
    c.match-take.column c.set.new.self c.args.pending (leb c.args.low i && ltb i c.args.end) c.requires.level (c.set.ensures.length ∙ has.0) has.1 (c.set.ensures.set i)
    (ap (λ o. set (set c.args.staged.now.levels.items l o) l (Some c.set.new.self)) c.take.ensures.after) refl
