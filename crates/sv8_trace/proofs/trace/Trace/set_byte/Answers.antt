use Rattle.std.proofs.Common.{◌≡◌, ℕ, ◌+◌, ◌/◌, ◌<◌, ◌≤◌, ◌&&◌, leb, ltb, List, Option, Some, None, length, get_or, set, map, take, suc, [], ap, sym, ◌∙◌, arith, refl}
use Rattle.std.specs.Vec.{with_item}
use Rattle.sv8_phys.specs.Memory.{page_of}
use Rattle.sv8_cpu.specs.State.{State}
use Rattle.sv8_trace.specs.Recording.{Recording, blank}
use Rattle.sv8_trace.specs.Prepared.{placed}
use Rattle.sv8_trace.specs.Placing.{IsSound}
use Rattle.sv8_trace.proofs.Preparing.{sound_at, slot_is, page_in, page_whole, gathered, byte_set, fits_pages, set_whole, taken_long, gathered_long}
use Rattle.sv8_trace.proofs.trace.Trace.set_byte.Goals.{Joined-index_mut, in-Some, in-None+in_ok-runs-in-None}
use Rattle.sv8_trace.proofs.trace.Trace.set_byte.Goals as goal
use Rattle.sv8_trace.proofs.trace.Trace.set_byte.Given.{Over}

sound : (g : Over) (c : Joined-index_mut g) (i : ℕ) → i ≤ c.args.staged.now.count → IsSound g.row.PAGES (get_or c.args.self.now.points i blank).memory
sound g c i h = sound_at g.row.PAGES i c.args.self.now c.args.staged.now c.self.inside.points c.self.inside.intervals.items c.self.invariant.7 c.self.invariant.5 c.self.view_is c.requires.fits h

-- the column has the page of each checkpoint
has_page : (g : Over) (c : Joined-index_mut g) (i : ℕ) → i ≤ c.args.staged.now.count
    → (length c.match-take.runs ≡ suc c.args.staged.now.count) × (get_or c.match-take.runs i [] ≡ page_of (placed c.args.staged.now i (get_or c.args.self.now.points i blank)).memory.ram (c.args.address / 4096))
has_page g c i h =
    let inv = c.self.invariant in
    let fits = c.requires.fits in
    let p = c.args.address / 4096 in
    let points = ap (λ (r : Recording). r.points) c.self.view_is in
    let count = ap (λ (r : Recording). length r.intervals) c.self.view_is in
    let long = ap length points in
    let below : c.args.address / 4096 < g.row.PAGES = omega (arith, c.requires.address) in
    let place : c.args.address / 4096 < length c.args.staged.now.pages.items = omega (arith, fits.columns.pages_count, below) in
    let here = λ (o : Option (List (List ℕ))). page_in g.row.PAGES i c.args.self.now c.args.staged.now fits h (get_or c.args.self.now.points i blank) (sound g c i h) p o below in
    elim c.match-take.branch [
      | in-Some w ↦
          let slot = slot_is c.args.staged.now.pages.items p c.index_mut.result.now (Some c.match-take.runs) place c.index_mut.ensures.value (sym c.take.ensures.value ∙ w.in-Some.is ∙ ap Some (sym w.runs-is)) in
          (taken_long _ p c.args.staged.now.pages.items c.match-take.runs fits.full_pages slot, sym (here _ slot))
      | in-None+in_ok-runs-in-None w ↦
          let slot = slot_is c.args.staged.now.pages.items p c.index_mut.result.now None place c.index_mut.ensures.value (sym c.take.ensures.value ∙ w.in-None.is) in
          let f = λ (s : State). page_of s.memory.ram (c.args.address / 4096) in
          let are = w.runs-is ∙ w.in_ok-runs-in-None.ensures ∙ ap (λ ps. map f (take (c.args.staged.now.count + 1) ps)) points in
          let enough : c.args.staged.now.count + 1 ≤ length c.args.self.now.points = omega (arith, fits.count, count, long, inv.5) in (
            gathered_long f c.args.staged.now.count c.args.self.now.points c.match-take.runs are enough,
            gathered f [] (c.args.staged.now.count + 1) i c.args.self.now.points c.match-take.runs are (omega arith) enough ∙ sym (here _ slot),
          )
    ]

pub returns-clause-fits : goal.returns-clause-fits
returns-clause-fits g c =
    let fits = c.requires.fits in
    let p = c.args.address / 4096 in
    let has = has_page g c 0 (omega arith) in
    let long = c.in_ok-set.ensures.length ∙ has.0 in
    fits_pages g.row.PAGES c.args.self.now c.args.staged.now
    (record { count = c.args.staged.now.count; pages = with_item (with_item c.args.staged.now.pages p c.take.new.self) p (Some c.set.new.self); levels = c.args.staged.now.levels; kept = c.args.staged.now.kept })
    p c.set.new.self fits (omega (arith, c.requires.address))
    (set_whole c.args.address c.args.staged.now.count c.args.value c.args.low c.args.end c.match-take.runs c.set.new.self long
    (λ i h. let x = has_page g c i h in ap length x.1 ∙ page_whole g.row.PAGES i c.args.self.now c.args.staged.now c.args.staged.now fits h (get_or c.args.self.now.points i blank) (sound g c i h) (c.args.address / 4096) (omega (arith, c.requires.address)))
    c.in_ok-set.ensures.set)
    long refl (ap (λ o. set (set c.args.staged.now.pages.items p o) p (Some c.set.new.self)) c.take.ensures.after) refl refl

pub returns-clause-points : goal.returns-clause-points
returns-clause-points g c = λ i h.
    let p = c.args.address / 4096 in
    let has = has_page g c i h in
    byte_set g.row.PAGES i c.args.self.now c.args.staged.now
    (record { count = c.args.staged.now.count; pages = with_item (with_item c.args.staged.now.pages p c.take.new.self) p (Some c.set.new.self); levels = c.args.staged.now.levels; kept = c.args.staged.now.kept })
    c.requires.fits h (get_or c.args.self.now.points i blank) (sound g c i h) c.args.address
    c.match-take.runs c.set.new.self c.args.value (leb c.args.low i && ltb i c.args.end) c.requires.address (c.in_ok-set.ensures.length ∙ has.0) has.1 (c.in_ok-set.ensures.set i)
    (ap (λ o. set (set c.args.staged.now.pages.items p o) p (Some c.set.new.self)) c.take.ensures.after) refl
