use Rattle.std.proofs.Common.{rules}
use Rattle.sv8_forms.proofs.Loops.{resolved-escape, resolved-backslash, resolved-plain}
use Rattle.sv8_forms.proofs.text.resolved.Goals as goal

pub loop-byte-preserved-then-escaped : goal.loop-byte-preserved-then-escaped
loop-byte-preserved-then-escaped c =
    resolved-escape c.args.text.now c.loop-byte.bytes.items c.push.new.self.items c.loop-byte.byte-index c.in_ok-ok_or.field-0 c.loop-byte.escaped _ c.loop-byte-test.true c.if-escaped.true (search rules) c.in_ok-push.ensures.items c.loop-byte.invariant

pub loop-byte-preserved-then-byte-eq92 : goal.loop-byte-preserved-then-byte-eq92
loop-byte-preserved-then-byte-eq92 c = resolved-backslash c.args.text.now c.loop-byte.bytes.items c.loop-byte.byte-index c.loop-byte.escaped _ c.loop-byte-test.true c.if-escaped.false c.if-byte-eq92.true c.loop-byte.invariant

pub loop-byte-preserved : goal.loop-byte-preserved
loop-byte-preserved c =
    resolved-plain c.args.text.now c.loop-byte.bytes.items c.push-in-loop-byte.new.self.items c.loop-byte.byte-index c.loop-byte.escaped _ c.loop-byte-test.true c.if-escaped.false c.if-byte-eq92.false c.in_ok-push-2.ensures.items c.loop-byte.invariant
