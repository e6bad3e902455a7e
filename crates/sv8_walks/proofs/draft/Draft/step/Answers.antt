use Rattle.std.proofs.Common.{◌≡◌, ◌∙◌, ◌+◌, ◌*◌, ◌<◌, ◌≤◌, length, refl, sym, ap, arith, subst}
use Rattle.sv8_trace.specs.Recorder.{so_far, steps_on, IsRecorded}
use Rattle.sv8_trace.specs.Recording.{last_point, recorded}
use Rattle.sv8_workbench.specs.Kept.{Kept}
use Rattle.sv8_workbench.specs.Shown.{machine_state}
use Rattle.sv8_bench.specs.Workbench.{Workbench, checkpoints}
use Rattle.sv8_walks.specs.Drafts.{Drafted, IsDraft}
use Rattle.sv8_walks.specs.Made.{HasRoom}
use Rattle.sv8_walks.proofs.Drafting.{free, drafted_more}
use Rattle.sv8_walks.proofs.Made.{one_more}
use Rattle.sv8_walks.proofs.Together.{fed_by, next_state}
use Rattle.sv8_walks.proofs.draft.Draft.step.Goals as goal

pub record_watched-requires : goal.record_watched-requires
record_watched-requires g c =
    let w = c.args.bench.now in
    let inside = c.self.inside in
    let sizes = c.sizes.ensures in
    let state = ap (λ (x : Drafted). x.state) c.self.view_is ∙ c.requires.state in
    let fed = fed_by w.kept c.args.step c.timeline.result.now inside.machine c.timeline.ensures state in
    let few : inside.count < 1000000 = omega (arith, ap (λ (x : Drafted). x.count) c.self.view_is, c.requires.draft.few, sizes.few_steps) in
    let none = free g.row.K w c.args.self.now inside.machine (so_far inside.interval) inside.count c.self.view_is c.requires.draft in
    (omega arith, (sizes.few_windows, (sizes.few_pages, (rw c.timeline.ensures sizes.limit, (fed, (few, none))))))

pub returns-then-self-clause-state : goal.returns-then-self-clause-state
returns-then-self-clause-state g c =
    let n = c.args.step in
    let kept = c.args.bench.now.kept in
    let sizes = c.sizes.ensures in
    let state = ap (λ (x : Drafted). x.state) c.self.view_is ∙ c.requires.state in
    next_state kept g.row.NW g.row.PAGES n c.timeline.result.now c.self.inside.machine c.record_watched.new.machine sizes.windows sizes.pages c.timeline.ensures state c.in_ok-record_watched.ensures.state
    ∙ sym (ap (λ (w : Workbench). machine_state w.kept (n + 1)) c.count_step.ensures)

pub returns-then-self-clause-draft : goal.returns-then-self-clause-draft
returns-then-self-clause-draft g c =
    let k = g.row.K in
    let w = c.args.bench.now in
    let inside = c.self.inside in
    let sizes = c.sizes.ensures in
    let made = c.record_watched in
    let told = c.in_ok-record_watched.ensures in
    let both = drafted_more k w c.args.self.now inside.machine (so_far inside.interval) inside.count c.self.view_is c.requires.draft g.row.NW g.row.PAGES c.args.step c.timeline.result.now sizes.windows sizes.pages
    c.timeline.ensures c.requires.step made.new.machine (so_far made.new.interval) told.state told.recorded in
    let next : Drafted = record { state = made.new.machine; interval = so_far made.new.interval; count = inside.count + 1 } in
    subst (λ (x : Workbench). IsDraft x.kept.windows x.kept.pages k x.kept.timeline x.recording next) (sym c.count_step.ensures)
    (rw (sizes.windows, sizes.pages) (record { few = c.if-self.true; state = both.0; steps = both.1 }))

pub finish-requires : goal.finish-requires
finish-requires g c =
    let k = g.row.K in
    let w = c.args.bench.now in
    let inside = c.self.inside in
    let sizes = c.sizes.ensures in
    let made = c.record_watched in
    let told = c.in_ok-record_watched.ensures in
    let both = drafted_more k w c.args.self.now inside.machine (so_far inside.interval) inside.count c.self.view_is c.requires.draft g.row.NW g.row.PAGES c.args.step c.timeline.result.now sizes.windows sizes.pages
    c.timeline.ensures c.requires.step made.new.machine (so_far made.new.interval) told.state told.recorded in
    let whole : inside.count + 1 ≡ k = omega (arith, ap (λ (x : Drafted). x.count) c.self.view_is, c.if-self.false, c.requires.draft.few) in
    let back = sym c.count_step.ensures in
    let state = subst (λ x. made.new.machine ≡ steps_on g.row.NW g.row.PAGES w.kept.timeline (recorded k w.recording) (last_point w.recording) x) whole both.0 in
    let steps = subst (λ x. IsRecorded g.row.NW g.row.PAGES w.kept.timeline (recorded k w.recording) (last_point w.recording) x (so_far made.new.interval)) whole both.1 in (
      omega arith,
      (
        omega arith,
        (
          subst (λ (x : Workbench). HasRoom k x.recording) back c.requires.room,
          (
            subst (λ (x : Workbench). made.new.machine ≡ steps_on g.row.NW g.row.PAGES x.kept.timeline (recorded k x.recording) (last_point x.recording) k) back state,
            subst (λ (x : Workbench). IsRecorded g.row.NW g.row.PAGES x.kept.timeline (recorded k x.recording) (last_point x.recording) k (so_far made.new.interval)) back steps,
          ),
        ),
      ),
    )

pub returns-clause-state : goal.returns-clause-state
returns-clause-state g c =
    let n = c.args.step in
    let kept = c.args.bench.now.kept in
    let sizes = c.sizes.ensures in
    let state = ap (λ (x : Drafted). x.state) c.self.view_is ∙ c.requires.state in
    let stays = c.in_ok-finish.ensures.kept ∙ ap (λ (w : Workbench). w.kept) c.count_step.ensures in
    ap (λ (x : Drafted). x.state) c.in_ok-finish.ensures.fresh
    ∙ next_state kept g.row.NW g.row.PAGES n c.timeline.result.now c.self.inside.machine c.record_watched.new.machine sizes.windows sizes.pages c.timeline.ensures state c.in_ok-record_watched.ensures.state
    ∙ sym (ap (λ (x : Kept). machine_state x (n + 1)) stays)

pub returns-clause-step : goal.returns-clause-step
returns-clause-step g c =
    let k = g.row.K in
    let none = ap (λ (x : Drafted). x.count) c.in_ok-finish.ensures.fresh in
    let whole : c.args.self.now.count + 1 ≡ k = omega (arith, ap (λ (x : Drafted). x.count) c.self.view_is, c.if-self.false, c.requires.draft.few) in
    let longer = ap (λ x. k * x) c.in_ok-finish.ensures.longer in
    let same = ap (λ (w : Workbench). k * checkpoints w) c.count_step.ensures in
    omega (arith, none, whole, longer, same, c.requires.step)

pub returns-clause-made : goal.returns-clause-made
returns-clause-made g c =
    let k = g.row.K in
    let w = c.args.bench.now in
    let none = ap (λ (x : Drafted). x.count) c.in_ok-finish.ensures.fresh in
    let whole : c.args.self.now.count + 1 ≡ k = omega (arith, ap (λ (x : Drafted). x.count) c.self.view_is, c.if-self.false, c.requires.draft.few) in
    let longer = ap (λ x. k * x) c.in_ok-finish.ensures.longer in
    let same = ap (λ (x : Workbench). k * checkpoints x) c.count_step.ensures in
    record {
      kept = c.in_ok-finish.ensures.kept ∙ ap (λ (x : Workbench). x.kept) c.count_step.ensures;
      recorded = one_more k (checkpoints w) (checkpoints c.finish.new.bench) c.args.self.now.count 0 c.args.step c.sizes.ensures.some_steps c.requires.draft.few (sym c.requires.step) c.sizes.ensures.some_steps
          (omega (arith, none, whole, longer, same, c.requires.step));
      worked = c.in_ok-finish.ensures.worked ∙ ap (λ (x : Workbench). x.worked) c.count_step.ensures;
    }
