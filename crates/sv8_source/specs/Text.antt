-- A source: its lines and the size of its image. What an edit makes of it, and why one is refused.
use Rattle.std.specs.Prelude.{ℕ, ◌+◌, ◌-◌, List, [], ◌++◌, take, drop, length, map, Vec, vec_items, Bool, Option, Some, None, Result, Ok, Err, nat_lt, nat_le, ◌&&◌, if◌then◌else◌}
use Rattle.sv8_source.specs.declared.fault.SourceFault.{SourceFault}
use Rattle.sv8_source.specs.declared.fault.SourceFault.TheVariants.{NoSuchLine, TooManyLines}
use Rattle.sv8_source.specs.Layout.{Layout, Place, start, laid, valued}

-- how many bytes the image has at most, and the lines, each a list of bytes
pub record Text : Type 0 where
  pub limit : ℕ
  pub lines : List (List ℕ)

-- the layout and the bytes of each line
pub record Assembly : Type 0 where
  pub layout : Layout
  pub code : List (List ℕ)

-- the code beside the layout that it was made from
abbrev pub with_layout : Layout → Result (List (List ℕ)) SourceFault → Result Assembly SourceFault
with_layout l (Ok code) = Ok (record { layout = l; code = code })
with_layout l (Err e) = Err e

-- the value pass over a layout, its lines numbered from 1
abbrev pub both_passes : Result Layout SourceFault → Result Assembly SourceFault
both_passes (Ok l) = with_layout l (valued l.symbols 1 l.places [])
both_passes (Err e) = Err e

-- the layout pass over all lines and then the value pass, or the first fault
unfoldable pub assembled : Text → Result Assembly SourceFault
assembled s = both_passes (laid s.limit 1 s.lines start)

-- the fault, if there is one
abbrev pub err_of : {A : Type 0} → Result A SourceFault → Option SourceFault
err_of (Ok v) = None
err_of (Err e) = Some e

-- the refusal of the two passes, or none
abbrev pub fault : Text → Option SourceFault
fault s = err_of (assembled s)

-- the texts of a list of byte vectors
abbrev pub texts : {A : Type 0} → List (Vec ℕ A) → List (List ℕ)
texts lines = map vec_items lines

-- the texts of lines with places
abbrev pub place_texts : List Place → List (List ℕ)
place_texts places = map (λ p. p.text) places

-- lines first to last, counted from 1, are replaced by these
abbrev pub replaced_lines : ℕ → ℕ → List (List ℕ) → List (List ℕ) → List (List ℕ)
replaced_lines first last lines source = take (first - 1) source ++ lines ++ drop last source

-- the source after an edit
abbrev pub replaced : ℕ → ℕ → List (List ℕ) → Text → Text
replaced first last lines s = record { limit = s.limit; lines = replaced_lines first last lines s.lines }

-- first is a line or the place after the last one, last a line from first - 1 on
abbrev pub is_range : ℕ → ℕ → ℕ → Bool
is_range first last count = (nat_le 1 first && nat_le first (count + 1)) && (nat_le first (last + 1) && nat_le last count)

-- the refusal of a text: too many lines, else that of the passes
abbrev pub text_fault : Text → Option SourceFault
text_fault s = if nat_lt 65536 (length s.lines) then Some TooManyLines else fault s

-- the refusal of an edit, or none
abbrev pub edit_fault : ℕ → ℕ → List (List ℕ) → Text → Option SourceFault
edit_fault first last lines s = if is_range first last (length s.lines) then text_fault (replaced first last lines s) else Some NoSuchLine
