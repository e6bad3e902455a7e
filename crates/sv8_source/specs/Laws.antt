-- What is true of every source that assembles.
use Rattle.std.specs.Prelude.{◌≡◌, map, None}
use Rattle.sv8_source.specs.Image.{Rising}
use Rattle.sv8_source.specs.Listing.{listing}
use Rattle.sv8_source.specs.Text.{Text, fault}

-- the listing has the lines, in order
abbrev pub TextsAreLines : Type 0
TextsAreLines = (s : Text) → fault s ≡ None → map (λ l. l.text) (listing s) ≡ s.lines

-- each line begins behind the bytes of those before it, so no two lines place the same byte
abbrev pub LinesRise : Type 0
LinesRise = (s : Text) → Rising 0 (listing s)
