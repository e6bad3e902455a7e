use Rattle.std.proofs.Common.{◌≡◌, length}
use Rattle.sv8_asm.specs.Code.{data_bytes}
use Rattle.sv8_asm.specs.Gathering.{carried}
use Rattle.sv8_asm.proofs.code.data_bytes.Given as goal

abbrev pub invariant-loop-rest : goal.invariant-loop-rest
invariant-loop-rest l = data_bytes l.names l.line l.width l.values ≡ carried l.fault l.bytes.items (data_bytes l.names l.line l.width l.rest)

abbrev pub decreases-loop-rest : goal.decreases-loop-rest
decreases-loop-rest l = length l.rest
