-- The lines of answers, as bytes.
use Rattle.std.specs.Prelude.{ℕ, ◌/◌, ◌%◌, Bool, List, [], ◌∷◌, ◌++◌, map, flat_map, Option, Some, None, nat_lt, if◌then◌else◌, codes, decimal}
use Rattle.sv8_model.specs.declared.observation.AccessKind.{AccessKind}
use Rattle.sv8_model.specs.declared.observation.AccessKind.TheVariants as kind
use Rattle.sv8_watch.specs.declared.happening.Fetch.{Fetch}
use Rattle.sv8_watch.specs.declared.happening.Access.{Access}
use Rattle.sv8_watch.specs.declared.happening.Happening.{Happening}
use Rattle.sv8_watch.specs.declared.happening.Outcome.{Outcome}
use Rattle.sv8_watch.specs.declared.happening.Outcome.TheVariants as outcome
use Rattle.std.specs.List.{range_with_len}
use Rattle.sv8_mmu.specs.declared.place.Place.{Place}
use Rattle.sv8_mmu.specs.declared.place.PagePlace.{PagePlace}
use Rattle.sv8_mmu.specs.TableLevels.{level_number}
use Rattle.sv8_source.specs.Names.{Named}
use Rattle.sv8_source.specs.declared.names.NameKind.{NameKind}
use Rattle.sv8_source.specs.declared.names.NameKind.TheVariants as name_kind
use Rattle.sv8_search.specs.declared.difference.Difference.{Difference}
use Rattle.sv8_regs.specs.Ring.{Registers, read}
use Rattle.sv8_commands.specs.Text.{hex_digit, hex_byte, hex_word, numbered_text}
use Rattle.sv8_search.specs.declared.found.Found.{Found}

-- ---- a step

-- a physical address: 8 digits, or 9 where it is 2^32 or above
unfoldable pub physical : ℕ → List ℕ
physical pa = (if nat_lt pa 4294967296 then [] else hex_digit (pa / 4294967296 % 16) ∷ []) ++ hex_word (pa % 4294967296)

-- from where a word was fetched, and the word
abbrev pub fetch_text : Option Fetch → List ℕ
fetch_text None = codes " - -"
fetch_text (Some f) = codes " " ++ physical f.from ++ codes " " ++ hex_word f.word

abbrev pub outcome_text : Outcome → List ℕ
outcome_text outcome.Stop = codes " stop"
outcome_text (outcome.Error tt) = codes " error " ++ hex_byte tt
outcome_text (outcome.Trap tt) = codes " trap " ++ hex_byte tt
outcome_text outcome.Annul = codes " annul"
outcome_text outcome.Run = codes " run"

abbrev pub kind_text : AccessKind → List ℕ
kind_text kind.Load = codes " load "
kind_text kind.Store = codes " store "
kind_text kind.Exchange = codes " swap "

-- the access, by its virtual and its physical address
abbrev pub access_text : Option Access → List ℕ
access_text None = []
access_text (Some a) = kind_text a.kind ++ hex_word a.va ++ codes " " ++ physical a.pa

-- a byte behind a name, if there is one
abbrev pub byte_text : List ℕ → Option ℕ → List ℕ
byte_text name None = []
byte_text name (Some byte) = name ++ hex_byte byte

-- a name, where this holds
abbrev pub flag_text : List ℕ → Bool → List ℕ
flag_text name holds = if holds then name else []

unfoldable pub step_place : Found → List ℕ
step_place f = decimal f.step ++ codes " " ++ hex_word f.happening.pc ++ fetch_text f.happening.fetch

unfoldable pub items_text : Happening → List ℕ
items_text h =
    access_text h.access ++ byte_text (codes " in ") h.taken ++ byte_text (codes " out ") h.put ++ flag_text (codes " timer") h.expired
    ++ flag_text (codes " event") h.event

-- THE LINE OF A STEP
unfoldable pub step_text : Found → List ℕ
step_text f = step_place f ++ outcome_text f.happening.outcome ++ items_text f.happening ++ codes "\n"

-- of several steps, one after the other
abbrev pub steps_text : List Found → List ℕ
steps_text fs = numbered_text (λ i f. step_text f) 0 fs

-- ---- windows

-- registers 8 to 23 of the current window, which no other one shares in these places
unfoldable pub own_registers : ℕ → Registers → List ℕ
own_registers windows r = map (read windows r) (range_with_len 8 16)

-- the line of a window
unfoldable pub window_line : ℕ → List ℕ → List ℕ
window_line number registers = codes "w " ++ decimal number ++ flat_map (λ w. codes " " ++ hex_word w) registers ++ codes "\n"

-- of all windows
abbrev pub windows_text : ℕ → Registers → List ℕ
windows_text windows r = numbered_text (λ w x. window_line w (own_registers windows (record r { cwp = w }))) 0 (range_with_len 0 windows)

-- ---- places

-- the level of an entry, and its access field
abbrev pub page_text : Option PagePlace → List ℕ
page_text None = codes " - -"
page_text (Some page) = codes " " ++ decimal (level_number page.level) ++ codes " " ++ decimal page.access

-- where an address leads: the physical address, and the entry that says so, if one does
abbrev pub place_text : Option Place → List ℕ
place_text None = []
place_text (Some p) = physical p.pa ++ page_text p.page ++ codes "\n"

-- ---- names

abbrev pub name_kind_text : NameKind → List ℕ
name_kind_text name_kind.Label = codes " label "
name_kind_text name_kind.Equ = codes " equ "

unfoldable pub name_line : Named → List ℕ
name_line n = hex_word n.value ++ name_kind_text n.kind ++ n.name ++ codes "\n"

abbrev pub names_text : List Named → List ℕ
names_text ns = numbered_text (λ i n. name_line n) 0 ns

-- ---- what differs

-- the line of a step
unfoldable pub parted_line : ℕ → List ℕ
parted_line n = codes "step " ++ decimal n ++ codes "\n"

abbrev pub parted_text : Option ℕ → List ℕ
parted_text None = []
parted_text (Some n) = parted_line n

unfoldable pub difference_line : Difference → List ℕ
difference_line d = hex_word d.address ++ codes " " ++ hex_word d.old ++ codes " " ++ hex_word d.new ++ codes "\n"

abbrev pub differences_text : List Difference → List ℕ
differences_text ds = numbered_text (λ i d. difference_line d) 0 ds
