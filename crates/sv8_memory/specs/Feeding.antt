-- What comes in from outside by a step.
use Rattle.std.specs.Prelude.{ℕ, ◌+◌, ◌≤◌, List, length}
use Rattle.sv8_time.specs.Schedule.{arrived}
use Rattle.sv8_phys.specs.Contents.{Contents}
use Rattle.sv8_memory.specs.declared.feed.Feed.{Feed}

-- the bytes that have come in
abbrev pub bytes_fed : Feed → List ℕ
bytes_fed f = arrived (f.step + 1) f.timeline.now

-- a memory has taken no more bytes than have come in
abbrev pub IsFed : Feed → Contents → Type 0
IsFed f m = m.taken ≤ length (bytes_fed f)
