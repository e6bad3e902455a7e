use Rattle.std.proofs.Common.{rules, vec_len, ◌≡◌, ◌<◌, ◌/◌, ◌%◌, unwrap_or, option_map, length, get_or, ap, refl, ◌∙◌, arith}
use Rattle.sv8_trace.specs.Recording.{blank}
use Rattle.sv8_trace.specs.Columns.{item}
use Rattle.sv8_trace.specs.Overlaid.{taken}
use Rattle.sv8_trace.proofs.Preparing.{slot_is}
use Rattle.sv8_trace.proofs.Overlays.{there, in_taken, taken_at, byte_is_seen}
use Rattle.sv8_trace.proofs.points.Points.byte.Goals as goal

pub index-requires : goal.index-requires
index-requires g c =
    let long : vec_len c.self.inside.machines ≡ length c.self.inside.machines.items = search rules in
    let here = there c.self.inside.pages.items c.self.inside.levels.items c.self.inside.machines.items c.args.self.now c.args.index c.self.view_is c.requires.index in
    omega (arith, long, here)

pub returns : goal.returns
returns g c =
    let ms = c.self.inside.machines.items in
    let ps = c.self.inside.pages.items in
    let ls = c.self.inside.levels.items in
    let i = c.args.index in
    let fits = c.self.invariant.3 in
    let here = there ps ls ms c.args.self.now i c.self.view_is c.requires.index in
    let place : c.args.address / 4096 < length ps = omega (arith, fits.columns.pages_count, c.requires.address) in
    let column = slot_is ps (c.args.address / 4096) c.index-column.result.now c.index-column.result.now place c.index-column.ensures refl in
    c.byte_under.ensures ∙ ap (λ s. unwrap_or (option_map (λ page. get_or page (c.args.address % 4096) 0) (item i c.index-column.result.now)) (get_or s.memory.ram c.args.address 0)) c.deref-taken.ensures
    ∙ byte_is_seen g.row.PAGES ps ls (taken ms) fits i (in_taken ms i here) c.index.result.now.value (taken_at ms i c.index.result.now here c.index.ensures) c.args.address c.index-column.result.now column
    ∙ ap (λ points. get_or (get_or points i blank).memory.ram c.args.address 0) c.self.view_is
