use Rattle.std.proofs.Common.{ap, refl, sym, codes, Bool, true, false, List, map, ◌≡◌, ◌∙◌, ◌⊎◌, inl, inr}
use Rattle.clap.specs.Words.{Text, Kinds, IsAmong, app_of, first_of, found_of, fault_of, is_simple, is_simple_and_free, kind_of, matches_of, rows_of, takes}
use Rattle.clap.specs.declared.error.Error.{Error}
use Rattle.clap.specs.declared.error.kind.ErrorKind.TheVariants.{OutOfMemory}
use Rattle.clap.specs.declared.builder.value_parser.ValueParser.{ValueParser}
use Rattle.clap.proofs.WalkLemmas.{first_value-rows}
use Rattle.clap.proofs.OnLiterals.{clap_on_literals}
use Rattle.sv8_program.specs.Words.{IsFiveCounts, IsNotTaken, MayFailBy, command_line, windows_of}
use Rattle.sv8_program.proofs.words.settings.Goals as goal

is_plain : (name : Text) (counts : ValueParser) → is_simple (command_line name counts) ≡ true
is_plain name counts = refl

pub returns-clause-chosen : goal.returns-clause-chosen
returns-clause-chosen c =
    let is = c.in_ok-command.ensures in
    let name = c.args.description.name.now in
    let words = map (λ w. w.now) c.args.words.now in
    let found = found_of c.in-Ok.matches in
    let rows : rows_of found ≡ matches_of (command_line name is.0) words =
    (c.in-Ok.ensures.matches (ap is_simple is.2 ∙ is_plain name is.0)).0 ∙ ap (λ a. matches_of a words) is.2 in
    record {
      counts = is.0;
      five = is.1;
      windows_is = c.window_count.ensures.value ∙ ap windows_of (c.get_str.ensures ∙ first_value-rows found (codes "windows") ∙ ap (first_of (codes "windows")) rows);
      script_is = c.get_str-2.ensures ∙ first_value-rows found (codes "SCRIPT") ∙ ap (first_of (codes "SCRIPT")) rows;
    }

not_taken : (name : Text) (taken : Bool) (words : List Text) (counts : ValueParser) (e : Error) → IsFiveCounts counts → takes (command_line name counts) words ≡ taken
    → (taken ≡ true → kind_of e ≡ OutOfMemory) → (kind_of e ≡ OutOfMemory) ⊎ IsNotTaken name words
not_taken name true words counts e five h why = inl (why refl)
not_taken name false words counts e five h why = inr (counts, five, h)

pub returns-in-Err-clause-refused : goal.returns-in-Err-clause-refused
returns-in-Err-clause-refused c =
    let is = c.in_ok-command.ensures in
    let name = c.args.description.name.now in
    let words = map (λ w. w.now) c.args.words.now in
    not_taken name (takes (command_line name is.0) words) words is.0 c.in-Err.error is.1 refl (λ h. c.in-Err.ensures.passes (ap (λ a. takes a words) is.2 ∙ h))

is_free : (name : Text) (counts : ValueParser) → is_simple_and_free (command_line name counts) ≡ true
unfolding clap_on_literals
is_free name counts = refl

pub returns-clause-judged : goal.returns-clause-judged
returns-clause-judged c =
    let is = c.in_ok-command.ensures in
    let name = c.args.description.name.now in
    let words = map (λ w. w.now) c.args.words.now in
    (is.0, is.1, sym (c.in-Ok.ensures.kinds (ap is_simple_and_free is.2 ∙ is_free name is.0)) ∙ ap (λ a. fault_of a words) is.2)

among : (name : Text) (words : List Text) (kinds : Kinds) (e : Error) → MayFailBy name words kinds → (kind_of e ≡ OutOfMemory) ⊎ IsAmong (kind_of e) kinds
    → (kind_of e ≡ OutOfMemory) ⊎ ((ks : Kinds) × MayFailBy name words ks × IsAmong (kind_of e) ks)
among name words kinds e may (inl h) = inl h
among name words kinds e may (inr h) = inr (kinds, may, h)

pub returns-in-Err-clause-judged : goal.returns-in-Err-clause-judged
returns-in-Err-clause-judged c =
    let is = c.in_ok-command.ensures in
    let name = c.args.description.name.now in
    let words = map (λ w. w.now) c.args.words.now in
    among name words (fault_of (app_of c.in_ok-command.command) words) c.in-Err.error (is.0, is.1, ap (λ a. fault_of a words) is.2) (c.in-Err.ensures.kinds (ap is_simple_and_free is.2 ∙ is_free name is.0))
