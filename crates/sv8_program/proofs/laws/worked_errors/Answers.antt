use Rattle.std.proofs.Common.{◌≡◌, ◌∙◌, [], ◌∷◌, codes, refl}
use Rattle.clap.specs.Words.{Text, fault_of}
use Rattle.clap.specs.declared.builder.value_parser.ValueParser.{ValueParser}
use Rattle.clap.specs.declared.error.kind.ErrorKind.TheVariants.{DisplayHelp, UnknownArgument}
use Rattle.clap.proofs.OnLiterals.{clap_on_literals}
use Rattle.sv8_program.specs.Words.{command_line}
use Rattle.sv8_program.proofs.laws.worked_errors.Goals as goal

help_is : (name : Text) (counts : ValueParser) → fault_of (command_line name counts) (codes "--help" ∷ []) ≡ DisplayHelp ∷ []
unfolding clap_on_literals
help_is name counts = refl

short_is : (name : Text) (counts : ValueParser) → fault_of (command_line name counts) (codes "-h" ∷ []) ≡ DisplayHelp ∷ []
unfolding clap_on_literals
short_is name counts = refl

unknown_is : (name : Text) (counts : ValueParser) → fault_of (command_line name counts) (codes "--window" ∷ []) ≡ UnknownArgument ∷ []
unfolding clap_on_literals
unknown_is name counts = refl

two_is : (name : Text) (counts : ValueParser) → fault_of (command_line name counts) (codes "x" ∷ codes "y" ∷ []) ≡ UnknownArgument ∷ []
unfolding clap_on_literals
two_is name counts = refl

pub returns-clause-help : goal.returns-clause-help
returns-clause-help c = λ name kinds h. h.2 ∙ help_is name h.0

pub returns-clause-short : goal.returns-clause-short
returns-clause-short c = λ name kinds h. h.2 ∙ short_is name h.0

pub returns-clause-unknown : goal.returns-clause-unknown
returns-clause-unknown c = λ name kinds h. h.2 ∙ unknown_is name h.0

pub returns-clause-two : goal.returns-clause-two
returns-clause-two c = λ name kinds h. h.2 ∙ two_is name h.0
