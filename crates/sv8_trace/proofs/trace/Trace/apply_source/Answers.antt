use Rattle.std.proofs.Common.{leb, ap, sym, ◌∙◌}
use Rattle.sv8_history.proofs.Common.{from_step}
use Rattle.sv8_trace.proofs.trace.Trace.apply_source.Goals as goal

pub returns-clause-near : goal.returns-clause-near
returns-clause-near g c = c.in_ok-spread_content.ensures.near c.args.reach.from (λ i. from_step g.row.K c.args.reach.from i c.self.invariant.3 ∙ ap (λ d. leb d i) (sym c.div_ceil-low.ensures))
