-- Where the devices are: each at the physical address of a word.
use Rattle.std.specs.Prelude.{ℕ}

-- a load takes the oldest waiting byte
abbrev pub input_address : ℕ
input_address = 0x8000_0000

-- a load tells how many bytes wait
abbrev pub waiting_address : ℕ
waiting_address = 0x8000_0004

-- a store puts a byte out
abbrev pub output_address : ℕ
output_address = 0x8000_0008

-- the timer's count
abbrev pub count_address : ℕ
count_address = 0x8000_0010

-- the timer's reload
abbrev pub reload_address : ℕ
reload_address = 0x8000_0014

-- the pending levels
abbrev pub pending_address : ℕ
pending_address = 0x8000_001c
