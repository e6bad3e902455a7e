-- The parts of a line between commas, as the code finds them.
use Rattle.std.specs.Prelude.{ℕ, ◌+◌, List, [], ◌∷◌, Option, Some, None, if◌then◌else◌}
use denote.Ref.{Bor}
use Rattle.sv8_tokens.specs.declared.token.Token.{Token as Held}
use Rattle.sv8_tokens.specs.Token.{Token, views}
use Rattle.sv8_syntax.specs.Reading.{parts, is_comma}

-- the parts of what stands behind a comma, if one was found
abbrev pub parts_behind : Option (Bor (List Held)) → List (List Token)
parts_behind None = []
parts_behind (Some ts) = parts (views ts.now)

-- how many tokens stand before the first comma
unfoldable pub part_len : List Token → ℕ
part_len [] = 0
part_len (t ∷ ts) = if is_comma t then 0 else part_len ts + 1
