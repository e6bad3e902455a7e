use Rattle.std.proofs.Common.{◌≡◌, ◌++◌, take}
use Rattle.sv8_source.specs.Kept.{code_bytes}
use Rattle.sv8_source.proofs.assembled.share_code.Given as goal

abbrev pub invariant-loop-bytes : goal.invariant-loop-bytes
invariant-loop-bytes l = code_bytes l.all.items ≡ code_bytes l.fn.all.items ++ code_bytes (take l.bytes-index l.code)
