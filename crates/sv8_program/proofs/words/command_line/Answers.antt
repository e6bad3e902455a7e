use Rattle.std.proofs.Common.{rules, ap, ap₂, sym, subst, codes, true, map, [], ◌∷◌, ◌≡◌, ◌∙◌}
use Rattle.clap.specs.Words.{App, rule_of, with_rule}
use Rattle.clap.specs.Simple.{app_of_fields}
use Rattle.sv8_program.specs.Words.{IsFiveCounts, windows_rule, script_rule}
use Rattle.sv8_program.proofs.words.command_line.Goals as goal

abbrev nameless : App → App
nameless a = record a { top = record a.top { no_binary_name = true } }

pub returns : goal.returns
returns c =
    let given = c.value_parser.ensures.given in
    let counts = given.0 in
    let names_are : map (λ name. name.now) c.as_slice.result.now ≡ codes "2" ∷ codes "4" ∷ codes "8" ∷ codes "16" ∷ codes "32" ∷ [] = search rules in
    let five : IsFiveCounts counts = subst IsFiveCounts (sym given.2) names_are in
    let windows_is : rule_of c.default_value-windows.result ≡ windows_rule counts = search rules in
    let script_is : rule_of c.help-script.result ≡ script_rule = search rules in
    let bare_is = ap app_of_fields c.no_binary_name.ensures ∙ ap (λ f. nameless (app_of_fields f)) c.after_help.ensures ∙ ap (λ f. nameless (app_of_fields f)) c.about.ensures ∙ ap nameless c.new-3.ensures.app in
    let app_is =
    c.in_ok-command.ensures.shape (search rules) ∙ ap₂ with_rule (c.in_ok-arg.ensures.shape (search rules) ∙ ap₂ with_rule bare_is windows_is) script_is in
    (counts, five, app_is)
