use Rattle.std.proofs.Common.{◌/◌, drop}
use Rattle.sv8_history.specs.Patches.{cut, patch_all}
use Rattle.sv8_cpu.specs.Recorded.{machine}
use Rattle.sv8_cpu.specs.Patches.{changes_of}
use Rattle.sv8_trace.specs.Recording.{trace_of}
use Rattle.sv8_history.specs.Trace.{Near}
use Rattle.sv8_trace.specs.Prepared.{prepared_trace, IsPreparedFor}
use Rattle.sv8_trace.proofs.trace.Trace.prepare.Given as goal

abbrev pub invariant-loop-patch : goal.invariant-loop-patch
invariant-loop-patch g l = record {
  fits : IsPreparedFor g.row.PAGES l.self l.staged;
  near : Near (machine g.row.NW g.row.PAGES) g.row.K
      (patch_all (machine g.row.NW g.row.PAGES) g.row.K (prepared_trace g.row.NW g.row.PAGES g.row.K l.self l.staged) (changes_of g.row.NW g.row.PAGES (drop l.patch-index l.patches)))
      (patch_all (machine g.row.NW g.row.PAGES) g.row.K (cut (machine g.row.NW g.row.PAGES) g.row.K (trace_of g.row.NW g.row.PAGES g.row.K l.self) (l.cut / g.row.K)) (changes_of g.row.NW g.row.PAGES l.patches));
}
