use Rattle.std.proofs.Common.{rules, vec_len, ◌≡◌, List, length, get_or, ◌∙◌, subst, arith}
use Rattle.sv8_cpu.specs.State.{State}
use Rattle.sv8_trace.specs.declared.checkpoint.Checkpoint.{Checkpoint}
use Rattle.sv8_trace.specs.Checkpoints.{IsCheckpoint}
use Rattle.sv8_trace.specs.Recording.{blank}
use Rattle.sv8_trace.specs.Overlaid.{taken}
use Rattle.sv8_trace.proofs.Overlays.{there, in_taken, taken_at, checkpoint_overlaid}
use Rattle.sv8_trace.proofs.points.Points.checkpoint.Goals as goal

pub index-requires : goal.index-requires
index-requires g c =
    let long : vec_len c.self.inside.machines ≡ length c.self.inside.machines.items = search rules in
    let here = there c.self.inside.pages.items c.self.inside.levels.items c.self.inside.machines.items c.args.self.now c.args.index c.self.view_is c.requires in
    omega (arith, long, here)

pub returns : goal.returns
returns g c =
    let ms = c.self.inside.machines.items in
    let ps = c.self.inside.pages.items in
    let ls = c.self.inside.levels.items in
    let i = c.args.index in
    let here = there ps ls ms c.args.self.now i c.self.view_is c.requires in
    let at = c.deref-taken.ensures ∙ taken_at ms i c.index.result.now here c.index.ensures in
    let it : Checkpoint = record { running = c.is_running.result; taken = c.taken.result; output_end = c.output_end.result } in
    subst (λ (points : List State). IsCheckpoint (get_or points i blank) it) c.self.view_is
    (checkpoint_overlaid ps ls (taken ms) i (in_taken ms i here) it
    (subst (λ (s : State). IsCheckpoint s it) at (record { running = c.is_running.ensures; taken = c.taken.ensures; output = c.output_end.ensures })))
