use Rattle.std.proofs.Common.{◌≡◌, suc, length, ap, sym, subst, arith}
use Rattle.sv8_trace.specs.declared.prepared.Staged.{Staged}
use Rattle.sv8_trace.specs.Recording.{Recording}
use Rattle.sv8_trace.specs.Columns.{AreFull}
use Rattle.sv8_trace.specs.Prepared.{IsPreparedFor, IsPlaced}
use Rattle.sv8_trace.proofs.Committing.{placed_is, count_left}
use Rattle.sv8_trace.proofs.trace.Trace.commit.Goals as goal

pub place-requires : goal.place-requires
place-requires g c =
    let inv = c.self.invariant in
    let r = c.args.self.now in
    let intervals = ap (λ (r : Recording). r.intervals) c.self.view_is in
    let staged : Staged = record { count = c.prepared.inside.count; pages = c.prepared.inside.pages; levels = c.prepared.inside.levels; kept = c.prepared.inside.kept } in
    let fits = subst (IsPreparedFor g.row.PAGES r) (sym c.prepared.view_is) c.requires in
    let n = count_left g.row.PAGES r staged fits c.self.inside.points c.truncate.new.self c.self.inside.intervals.items intervals inv.5 c.truncate.ensures.first in
    let count : suc staged.count ≡ length c.truncate.new.self = omega (arith, n) in
    (omega arith, (fits.columns, (subst (λ m. AreFull m staged.pages.items) count fits.full_pages, subst (λ m. AreFull m staged.levels.items) count fits.full_levels)))

pub returns : goal.returns
returns g c =
    let inv = c.self.invariant in
    let points = ap (λ (r : Recording). r.points) c.self.view_is in
    let intervals = ap (λ (r : Recording). r.intervals) c.self.view_is in
    let staged : Staged = record { count = c.prepared.inside.count; pages = c.prepared.inside.pages; levels = c.prepared.inside.levels; kept = c.prepared.inside.kept } in
    let fits = subst (IsPreparedFor g.row.PAGES c.args.self.now) (sym c.prepared.view_is) c.requires in
    let last = c.place.new.self in
    let lists = c.place_lists.new.intervals.items in
    subst (λ s. IsPlaced g.row.NW g.row.PAGES g.row.K c.args.self.now s (record { points = last; intervals = lists })) c.prepared.view_is
    (placed_is g.row.NW g.row.PAGES g.row.K inv.3 c.args.self.now staged fits
    c.self.inside.points c.truncate.new.self last c.self.inside.intervals.items c.truncate-2.new.self.items lists
    points intervals inv.5 c.truncate.ensures.first c.truncate-2.ensures.items
    c.place.ensures.length c.place.ensures.placed c.place_lists.ensures.length c.place_lists.ensures.lists)
