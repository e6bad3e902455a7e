use Rattle.std.proofs.Common.{rules, vec_len, ◌≡◌, ◌<◌, ◌/◌, unwrap_or, length, get_or, ap, refl, ◌∙◌, arith}
use Rattle.sv8_phys.specs.Memory.{page_of}
use Rattle.sv8_trace.specs.Recording.{blank}
use Rattle.sv8_trace.specs.Columns.{item}
use Rattle.sv8_trace.specs.Overlaid.{taken}
use Rattle.sv8_trace.proofs.Preparing.{slot_is}
use Rattle.sv8_trace.proofs.Overlays.{there, in_taken, taken_at, page_is_seen}
use Rattle.sv8_trace.proofs.points.Points.page.Goals as goal

pub index-requires : goal.index-requires
index-requires g c =
    let long : vec_len c.self.inside.machines ≡ length c.self.inside.machines.items = search rules in
    let here = there c.self.inside.pages.items c.self.inside.levels.items c.self.inside.machines.items c.args.self.now c.args.index c.self.view_is c.requires.index in
    omega (arith, long, here)

pub returns : goal.returns
returns g c =
    let ms = c.self.inside.machines.items in
    let ps = c.self.inside.pages.items in
    let ls = c.self.inside.levels.items in
    let i = c.args.index in
    let fits = c.self.invariant.3 in
    let here = there ps ls ms c.args.self.now i c.self.view_is c.requires.index in
    let p = c.args.address / 4096 in
    let below : c.args.address / 4096 < g.row.PAGES = omega (arith, c.requires.address) in
    let place : c.args.address / 4096 < length ps = omega (arith, fits.columns.pages_count, below) in
    let column = slot_is ps p c.index-column.result.now c.index-column.result.now place c.index-column.ensures refl in
    c.in_ok-page.ensures ∙ ap (λ s. unwrap_or (item i c.index-column.result.now) (page_of s.memory.ram p)) c.deref-taken.ensures
    ∙ page_is_seen g.row.PAGES ps ls (taken ms) fits i (in_taken ms i here) c.index.result.now.value (taken_at ms i c.index.result.now here c.index.ensures) p below c.index-column.result.now column
    ∙ ap (λ points. page_of (get_or points i blank).memory.ram p) c.self.view_is
