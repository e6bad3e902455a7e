use Rattle.std.proofs.Common.{◌++◌, [], map, arith, subst, sym}
use Rattle.std.proofs.lemmas.List.{get_or-map, length-map}
use Rattle.sv8_session.specs.Put.{AppendsPart}
use Rattle.sv8_source.specs.Names.{Named}
use Rattle.sv8_source.specs.View.{named_of}
use Rattle.sv8_source.specs.declared.names.NameKind.TheVariants.{Label}
use Rattle.sv8_commands.specs.Put.{Gained}
use Rattle.sv8_commands.proofs.PutLemmas.{gains-failed, gained-none}
use Rattle.sv8_commands.proofs.NumberedLemmas.{numbered-cut, numbered-next}
use Rattle.sv8_monitor.specs.Texts.{name_line}
use Rattle.sv8_monitor.proofs.lines.put_names.Goals as goal

-- what stands for a name where there is none
no_name : Named
no_name = record { value = 0; kind = Label; name = [] }

pub loop-name-init : goal.loop-name-init
loop-name-init g c = gained-none _ _

pub returns-in_err-put_name : goal.returns-in_err-put_name
returns-in_err-put_name g c =
    let names = c.args.names.now in
    let i = c.loop-name.name-index in
    let before = g.W.Write.contents c.loop-name.writer in
    let now = g.W.Write.contents c.put_name.new.writer in
    gains-failed c.from_residual.result _ _ _ _ _ c.from_residual.ensures.0 (numbered-cut (λ k n. name_line n) 0 (map named_of names) i i no_name _ _ _ _ _ (omega (arith, length-map names named_of)) (omega arith) c.loop-name.invariant
    (subst (λ (n : Named). AppendsPart before now (c.loop-name.text ++ name_line n)) (sym (get_or-map named_of names i _ no_name (omega arith))) c.in_err-put_name.ensures))

pub loop-name-preserved : goal.loop-name-preserved
loop-name-preserved g c =
    let names = c.args.names.now in
    let i = c.loop-name.name-index in
    let before = g.W.Write.contents c.loop-name.writer in
    let now = g.W.Write.contents c.put_name.new.writer in
    numbered-next (λ k n. name_line n) 0 (map named_of names) i i no_name _ _ _ _ _ _ (omega (arith, length-map names named_of)) (omega arith) c.loop-name.invariant
    (subst (λ (n : Named). Gained before now c.loop-name.text c.put_name.new.text (name_line n)) (sym (get_or-map named_of names i _ no_name (omega arith))) c.in_ok-put_name.ensures)
