-- Probes (Appendix H): what a load from the probing space gives, by the type in bits 11:8 of its address: 0 page, 1 segment, 2 region, 3 context, 4 entire.
-- A probe changes nothing and records nothing, and it walks with E = 0, too.
use Rattle.std.specs.Prelude.{ℕ, zero, suc, ◌+◌, ◌-◌, ◌*◌, ◌==◌, ◌||◌, nat_lt, List, [], ◌∷◌, if◌then◌else◌}
use Rattle.sv8_model.specs.Words.{field}
use Rattle.sv8_model.specs.Action.{Action, done, ◌>>=◌}
use Rattle.sv8_mmu.specs.declared.registers.Mmu.{Mmu}
use Rattle.sv8_mmu.specs.declared.walk.TableIndex.{TableIndex}
use Rattle.sv8_mmu.specs.declared.walk.Walked.{Walked}
use Rattle.sv8_mmu.specs.declared.walk.Walked.TheVariants.{Page, Fault}
use Rattle.sv8_mmu.specs.declared.probing.ProbeKind.{ProbeKind}
use Rattle.sv8_mmu.specs.declared.probing.ProbeKind.TheVariants as kind
use Rattle.sv8_mmu.specs.Walk.{is_pointer, is_page_entry, table_of, entry_at, indices_of, root_of, walk}

-- the entry at the level that is sought: the entry of a page, or above level 3 a pointer; else 0
abbrev pub found : List TableIndex → ℕ → ℕ
found [] e = if is_page_entry e then e else 0
found (to ∷ below) e = if is_pointer e || is_page_entry e then e else 0

-- what an entry leads to where the level that is sought is so many levels deeper, with the indices into the tables below
unfoldable pub sought : ℕ → ℕ → List TableIndex → ℕ → Action ℕ
sought limit zero below e = done (found below e)
sought limit (suc depth) [] e = done 0
sought limit (suc depth) (to ∷ below) e =
    if is_pointer e then entry_at limit (table_of e + 4 * to.index) 0 (sought limit depth below) else done 0

-- the entry of the page that a walk ends in, else 0
abbrev pub page_or_zero : Walked → ℕ
page_or_zero (Page e level at) = e
page_or_zero (Fault kind level) = 0

abbrev pub probe_type : ℕ → ℕ
probe_type va = field va 11 8

-- the entry at a level
abbrev pub level_probed : ℕ → Mmu → ℕ → ℕ → Action ℕ
level_probed limit r level va = entry_at limit (root_of r.table_pointer r.context) 0 (sought limit level (indices_of va))

-- the whole walk
abbrev pub entirely_probed : ℕ → Mmu → ℕ → Action ℕ
entirely_probed limit r va = walk limit r.table_pointer r.context va >>= λ w. done (page_or_zero w)

-- a probe of a kind
abbrev pub probed_as : ℕ → Mmu → ℕ → ProbeKind → Action ℕ
probed_as limit r va kind.Page = level_probed limit r 3 va
probed_as limit r va kind.Segment = level_probed limit r 2 va
probed_as limit r va kind.Region = level_probed limit r 1 va
probed_as limit r va kind.Context = level_probed limit r 0 va
probed_as limit r va kind.Entire = entirely_probed limit r va

-- types 0 to 3 seek level 3, 2, 1, 0; an entire probe makes the whole walk; the other types give 0
unfoldable pub probe : ℕ → Mmu → ℕ → Action ℕ
probe limit r va =
    if nat_lt (probe_type va) 4 then level_probed limit r (3 - probe_type va) va else
    (if probe_type va == 4 then entirely_probed limit r va else done 0)
