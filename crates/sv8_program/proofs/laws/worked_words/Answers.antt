use Rattle.std.proofs.Common.{◌≡◌, ◌∙◌, ℕ, List, [], ◌∷◌, Option, Some, None, codes, refl}
use Rattle.clap.specs.Words.{Text, first_of, matches_of}
use Rattle.clap.specs.declared.builder.value_parser.ValueParser.{ValueParser}
use Rattle.clap.proofs.OnLiterals.{clap_on_literals}
use Rattle.sv8_program.specs.Words.{command_line, windows_of}
use Rattle.sv8_program.proofs.laws.worked_words.Goals as goal

abbrev windows_at : Text → ValueParser → List Text → ℕ
windows_at name counts words = windows_of (first_of (codes "windows") (matches_of (command_line name counts) words))

abbrev script_at : Text → ValueParser → List Text → Option Text
script_at name counts words = first_of (codes "SCRIPT") (matches_of (command_line name counts) words)

none_is : (name : Text) (counts : ValueParser) → (windows_at name counts ([]) ≡ 8) × (script_at name counts ([]) ≡ None)
unfolding clap_on_literals
none_is name counts = (refl, refl)

script_is : (name : Text) (counts : ValueParser) → (windows_at name counts (codes "boot.txt" ∷ []) ≡ 8) × (script_at name counts (codes "boot.txt" ∷ []) ≡ Some (codes "boot.txt"))
unfolding clap_on_literals
script_is name counts = (refl, refl)

two_is : (name : Text) (counts : ValueParser) → (windows_at name counts (codes "--windows" ∷ codes "2" ∷ []) ≡ 2) × (script_at name counts (codes "--windows" ∷ codes "2" ∷ []) ≡ None)
unfolding clap_on_literals
two_is name counts = (refl, refl)

four_is : (name : Text) (counts : ValueParser) → (windows_at name counts (codes "--windows=4" ∷ []) ≡ 4) × (script_at name counts (codes "--windows=4" ∷ []) ≡ None)
unfolding clap_on_literals
four_is name counts = (refl, refl)

sixteen_is : (name : Text) (counts : ValueParser) → (windows_at name counts (codes "--windows" ∷ codes "16" ∷ codes "x" ∷ []) ≡ 16) × (script_at name counts (codes "--windows" ∷ codes "16" ∷ codes "x" ∷ []) ≡ Some (codes "x"))
unfolding clap_on_literals
sixteen_is name counts = (refl, refl)

thirty_two_is : (name : Text) (counts : ValueParser) → (windows_at name counts (codes "x" ∷ codes "--windows" ∷ codes "32" ∷ []) ≡ 32) × (script_at name counts (codes "x" ∷ codes "--windows" ∷ codes "32" ∷ []) ≡ Some (codes "x"))
unfolding clap_on_literals
thirty_two_is name counts = (refl, refl)

pub returns-clause-none : goal.returns-clause-none
returns-clause-none c = λ name n s h. (h.windows_is ∙ (none_is name h.counts).0, h.script_is ∙ (none_is name h.counts).1)

pub returns-clause-script : goal.returns-clause-script
returns-clause-script c = λ name n s h. (h.windows_is ∙ (script_is name h.counts).0, h.script_is ∙ (script_is name h.counts).1)

pub returns-clause-two : goal.returns-clause-two
returns-clause-two c = λ name n s h. (h.windows_is ∙ (two_is name h.counts).0, h.script_is ∙ (two_is name h.counts).1)

pub returns-clause-four : goal.returns-clause-four
returns-clause-four c = λ name n s h. (h.windows_is ∙ (four_is name h.counts).0, h.script_is ∙ (four_is name h.counts).1)

pub returns-clause-sixteen : goal.returns-clause-sixteen
returns-clause-sixteen c = λ name n s h. (h.windows_is ∙ (sixteen_is name h.counts).0, h.script_is ∙ (sixteen_is name h.counts).1)

pub returns-clause-thirty_two : goal.returns-clause-thirty_two
returns-clause-thirty_two c = λ name n s h. (h.windows_is ∙ (thirty_two_is name h.counts).0, h.script_is ∙ (thirty_two_is name h.counts).1)
