use Rattle.std.proofs.Common.{◌/◌, ◌<◌, false, Some, None, length, get_or, ap, ap₂, sym, ◌∙◌, arith}
use Rattle.sv8_model.specs.Cells.{byte, held}
use Rattle.sv8_notes.specs.Cells.{cell_of}
use Rattle.sv8_cpu.specs.Recorded.{get}
use Rattle.sv8_trace.specs.Recording.{Recording, blank}
use Rattle.sv8_trace.specs.Prepared.{placed}
use Rattle.sv8_trace.proofs.Preparing.{sound_at, slot_is, byte_in, level_in}
use Rattle.sv8_trace.proofs.trace.Trace.content.Goals as goal

pub returns-in-Some : goal.returns-in-Some
returns-in-Some g c =
    let fits = c.requires.fits in
    let sound = sound_at g.row.PAGES c.args.index c.args.self.now c.args.staged.now c.self.inside.points c.self.inside.intervals.items c.self.invariant.7 c.self.invariant.5 c.self.view_is fits c.requires.index in
    let cell = c.requires.cell in
    let inside = rw c.in-Byte.is at cell in
    let place : c.in-Byte.address / 4096 < length c.args.staged.now.pages.items = omega (arith, fits.columns.pages_count, inside) in
    let slot = slot_is c.args.staged.now.pages.items (c.in-Byte.address / 4096) c.index.result.now (Some c.in-Some.runs) place c.index.ensures c.in-Some.is in
    ap byte (c.byte.ensures ∙ sym (byte_in g.row.PAGES c.args.index c.args.self.now c.args.staged.now fits c.requires.index (get_or c.args.self.now.points c.args.index blank) sound c.in-Byte.address (Some c.in-Some.runs) slot))
    ∙ ap (λ x. get (cell_of x) (placed c.args.staged.now c.args.index (get_or c.args.self.now.points c.args.index blank))) (sym c.in-Byte.is)

pub returns-in-None : goal.returns-in-None
returns-in-None g c =
    let fits = c.requires.fits in
    let points = ap (λ (r : Recording). r.points) c.self.view_is in
    let sound = sound_at g.row.PAGES c.args.index c.args.self.now c.args.staged.now c.self.inside.points c.self.inside.intervals.items c.self.invariant.7 c.self.invariant.5 c.self.view_is fits c.requires.index in
    let cell = c.requires.cell in
    let inside = rw c.in-Byte.is at cell in
    let place : c.in-Byte.address / 4096 < length c.args.staged.now.pages.items = omega (arith, fits.columns.pages_count, inside) in
    let slot = slot_is c.args.staged.now.pages.items (c.in-Byte.address / 4096) c.index.result.now None place c.index.ensures c.in-None.is in
    ap byte (c.byte-in-None.ensures ∙ ap (λ ps. get_or (get_or ps c.args.index blank).memory.ram c.in-Byte.address 0) points ∙ sym (byte_in g.row.PAGES c.args.index c.args.self.now c.args.staged.now fits c.requires.index (get_or c.args.self.now.points c.args.index blank) sound c.in-Byte.address None slot))
    ∙ ap (λ x. get (cell_of x) (placed c.args.staged.now c.args.index (get_or c.args.self.now.points c.args.index blank))) (sym c.in-Byte.is)

pub returns-in-Some-index : goal.returns-in-Some-index
returns-in-Some-index g c =
    let fits = c.requires.fits in
    let sound = sound_at g.row.PAGES c.args.index c.args.self.now c.args.staged.now c.self.inside.points c.self.inside.intervals.items c.self.invariant.7 c.self.invariant.5 c.self.view_is fits c.requires.index in
    let cell = c.requires.cell in
    let bounds = rw c.in-Level.is at cell in
    let place : c.in-Level.level < length c.args.staged.now.levels.items = omega (arith, fits.columns.levels_count, bounds.1) in
    let slot = slot_is c.args.staged.now.levels.items c.in-Level.level c.index-in-Level.result.now (Some c.in-Some-index.column) place c.index-in-Level.ensures c.in-Some-index.is in
    ap held (c.is_pending.ensures ∙ sym (level_in g.row.PAGES c.args.index c.args.self.now c.args.staged.now fits c.requires.index (get_or c.args.self.now.points c.args.index blank) sound c.in-Level.level (Some c.in-Some-index.column) slot))
    ∙ ap (λ x. get (cell_of x) (placed c.args.staged.now c.args.index (get_or c.args.self.now.points c.args.index blank))) (sym c.in-Level.is)

pub returns-in-None-index : goal.returns-in-None-index
returns-in-None-index g c =
    let fits = c.requires.fits in
    let points = ap (λ (r : Recording). r.points) c.self.view_is in
    let sound = sound_at g.row.PAGES c.args.index c.args.self.now c.args.staged.now c.self.inside.points c.self.inside.intervals.items c.self.invariant.7 c.self.invariant.5 c.self.view_is fits c.requires.index in
    let cell = c.requires.cell in
    let bounds = rw c.in-Level.is at cell in
    let place : c.in-Level.level < length c.args.staged.now.levels.items = omega (arith, fits.columns.levels_count, bounds.1) in
    let slot = slot_is c.args.staged.now.levels.items c.in-Level.level c.index-in-Level.result.now None place c.index-in-Level.ensures c.in-None-index.is in
    ap held (c.is_pending-in-None-index.ensures ∙ ap₂ (λ ps l. get_or (get_or ps c.args.index blank).memory.pending l false) points c.level_numbered.ensures ∙ sym (level_in g.row.PAGES c.args.index c.args.self.now c.args.staged.now fits c.requires.index (get_or c.args.self.now.points c.args.index blank) sound c.in-Level.level None slot))
    ∙ ap (λ x. get (cell_of x) (placed c.args.staged.now c.args.index (get_or c.args.self.now.points c.args.index blank))) (sym c.in-Level.is)
