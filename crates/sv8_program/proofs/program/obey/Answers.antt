use Rattle.std.proofs.Common.{◌≡◌, ◌∙◌, ◌⊎◌, inl, inr, List, [], ◌∷◌, map, refl, ap, sym, subst}
use Rattle.clap.specs.Words.{Kinds, IsAmong, Text, kind_of}
use Rattle.clap.specs.declared.error.kind.ErrorKind.{ErrorKind}
use Rattle.clap.specs.declared.error.kind.ErrorKind.TheVariants.{OutOfMemory}
use Rattle.sv8_program.specs.declared.end.End.{End}
use Rattle.sv8_program.specs.declared.end.End.TheVariants.{Memory}
use Rattle.sv8_program.specs.Words.{MayFailBy}
use Rattle.sv8_program.specs.Ends.{EndsBy, IsRefusalEnd, refusal_end}
use Rattle.sv8_program.proofs.program.obey.Goals as goal

among : (kinds : Kinds) (k : ErrorKind) → IsAmong k kinds → IsRefusalEnd kinds (refusal_end k)
among [] k h = h
among (x ∷ xs) k (inl e) = inl (ap refusal_end e)
among (x ∷ xs) k (inr h) = inr (among xs k h)

ends : (kinds : Kinds) (k : ErrorKind) → IsAmong k kinds → EndsBy kinds (refusal_end k)
ends [] k h = absurd h
ends (x ∷ xs) k h = among (x ∷ xs) k h

-- the end of an error that the words have
refused : (name : Text) (words : List Text) (end : End) (k : ErrorKind) → end ≡ refusal_end k → (k ≡ OutOfMemory) ⊎ ((kinds : Kinds) × MayFailBy name words kinds × IsAmong k kinds)
    → (end ≡ Memory) ⊎ ((kinds : Kinds) × MayFailBy name words kinds × EndsBy kinds end)
refused name words end k is (inl e) = inl (is ∙ ap refusal_end e)
refused name words end k is (inr h) = inr (h.0, h.1, subst (EndsBy h.0) (sym is) (ends h.0 k h.2))

pub returns-in-Err : goal.returns-in-Err
returns-in-Err g c =
    refused g.P.Program.NAME (map (λ w. w.now) c.args.words.now) c.refuse.result (kind_of c.in-Err.error) c.refuse.ensures (rw c.description.ensures at c.in-Err.ensures.judged)

pub returns-in-None : goal.returns-in-None
returns-in-None g c = inr ([], rw c.description.ensures at c.in-Ok.ensures.judged, c.answer.ensures.run)

pub returns-in-Ok-open : goal.returns-in-Ok-open
returns-in-Ok-open g c = inr ([], rw c.description.ensures at c.in-Ok.ensures.judged, c.answer-in-Ok-open.ensures.run)

pub returns-in-Err-open : goal.returns-in-Err-open
returns-in-Err-open g c = inr ([], rw c.description.ensures at c.in-Ok.ensures.judged, refl)
