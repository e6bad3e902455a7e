use Rattle.std.proofs.Common.{sym, ◌∙◌}
use Rattle.sv8_memory.proofs.Accesses.{probe_made}
use Rattle.sv8_memory.proofs.spaces.load_probe.Goals as goal

pub returns : goal.returns
returns g c = record { ok = λ bytes. probe_made _ _ _ c.args.size _ _ _ _ _ _ (sym c.is_word.ensures ∙ c.if-not-is_word.false) (c.in_ok-entry.ensures.ok bytes) }
