use Rattle.std.proofs.Common.{rules, vec_len, ◌≡◌, ◌<◌, false, ap₂, sym, unwrap_or, length, get_or, ap, refl, ◌∙◌, arith}
use Rattle.sv8_trace.specs.Recording.{blank}
use Rattle.sv8_trace.specs.Columns.{item}
use Rattle.sv8_trace.specs.Overlaid.{taken}
use Rattle.sv8_trace.proofs.Preparing.{slot_is}
use Rattle.sv8_trace.proofs.Overlays.{there, in_taken, taken_at, level_is_seen}
use Rattle.sv8_trace.proofs.points.Points.is_pending.Goals as goal

pub index-requires : goal.index-requires
index-requires g c =
    let long : vec_len c.self.inside.machines ≡ length c.self.inside.machines.items = search rules in
    let here = there c.self.inside.pages.items c.self.inside.levels.items c.self.inside.machines.items c.args.self.now c.args.index c.self.view_is c.requires in
    omega (arith, long, here)

pub returns : goal.returns
returns g c =
    let ms = c.self.inside.machines.items in
    let ps = c.self.inside.pages.items in
    let ls = c.self.inside.levels.items in
    let i = c.args.index in
    let fits = c.self.invariant.3 in
    let here = there ps ls ms c.args.self.now i c.self.view_is c.requires in
    let l = c.number.result in
    let place : c.number.result < length ls = omega (arith, fits.columns.levels_count, c.number.ensures.most) in
    let column = slot_is ls l c.index-column.result.now c.index-column.result.now place c.index-column.ensures refl in
    c.level_under.ensures ∙ ap (λ s. unwrap_or (item i c.index-column.result.now) (get_or s.memory.pending c.args.level false)) c.deref-taken.ensures
    ∙ ap (λ n. unwrap_or (item i c.index-column.result.now) (get_or c.index.result.now.value.memory.pending n false)) (sym c.number.ensures.value)
    ∙ level_is_seen g.row.PAGES ps ls (taken ms) fits i (in_taken ms i here) c.index.result.now.value (taken_at ms i c.index.result.now here c.index.ensures) l c.index-column.result.now column
    ∙ ap₂ (λ points n. get_or (get_or points i blank).memory.pending n false) c.self.view_is c.number.ensures.value
