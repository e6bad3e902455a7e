use Rattle.std.proofs.Common.{rules, refl, vec_len, ◌≡◌, ◌-◌, length, take, drop, get_or, ap, ◌∙◌, arith}
use Rattle.sv8_trace.specs.Recording.{blank}
use Rattle.sv8_trace.specs.Columns.{pages_from}
use Rattle.sv8_trace.specs.Overlaid.{taken}
use Rattle.sv8_trace.proofs.Overlays.{there, idle_is, in_taken, taken_at, snapshot_is, all_but_first}
use Rattle.sv8_trace.proofs.points.Points.snapshot.Goals as goal

pub index-requires : goal.index-requires
index-requires g c =
    let long : vec_len c.self.inside.machines ≡ length c.self.inside.machines.items = search rules in
    let here = there c.self.inside.pages.items c.self.inside.levels.items c.self.inside.machines.items c.args.self.now c.args.index c.self.view_is c.requires in
    omega (arith, long, here)

pub returns-then-self-index : goal.returns-then-self-index
returns-then-self-index g c =
    let ms = c.self.inside.machines.items in
    let ps = c.self.inside.pages.items in
    let ls = c.self.inside.levels.items in
    let i = c.args.index in
    let here = there ps ls ms c.args.self.now i c.self.view_is c.requires in
    c.in_ok-machine.ensures ∙ c.deref-taken.ensures ∙ taken_at ms i c.index.result.now here c.index.ensures
    ∙ idle_is g.row.PAGES ps ls (taken ms) c.self.inside.idle i _ c.self.invariant.3 c.self.invariant.4 c.self.invariant.5 c.if-self-index.true (in_taken ms i here) refl
    ∙ ap (λ points. get_or points i blank) c.self.view_is

pub returns : goal.returns
returns g c =
    let ms = c.self.inside.machines.items in
    let ps = c.self.inside.pages.items in
    let ls = c.self.inside.levels.items in
    let i = c.args.index in
    let here = there ps ls ms c.args.self.now i c.self.view_is c.requires in
    snapshot_is g.row.PAGES ps ls (taken ms) c.self.invariant.3 i (in_taken ms i here) c.index.result.now.value (taken_at ms i c.index.result.now here c.index.ensures)
    (take (length c.deref-2.result.now - 1) (drop 1 c.deref-2.result.now)) c.in_ok-machine.machine c.put_pages.new.machine c.put_levels.new.machine
    (all_but_first c.deref-2.result.now ls c.deref-2.ensures.value) (c.in_ok-machine.ensures ∙ c.deref-taken.ensures)
    (c.in_ok-put_pages.ensures ∙ ap (λ cs. pages_from 0 cs i c.in_ok-machine.machine) c.deref.ensures.value) c.put_levels.ensures
    ∙ ap (λ points. get_or points i blank) c.self.view_is
