-- How much an access loads or stores.
use Rattle.std.specs.Prelude.{ℕ}
use Rattle.sv8_model.specs.declared.size.Size.{Size}
use Rattle.sv8_model.specs.declared.size.Size.TheVariants.{Byte, Half, Word, Double}

-- how many bytes an access takes
abbrev pub bytes_in : Size → ℕ
bytes_in Byte = 1
bytes_in Half = 2
bytes_in Word = 4
bytes_in Double = 8
