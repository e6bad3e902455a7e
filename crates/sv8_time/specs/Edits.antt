-- An edit of a timeline: why it is refused, and what it makes of the events.
use Rattle.std.specs.Prelude.{Option}
use Rattle.sv8_time.specs.declared.fault.TimeFault.{TimeFault}
use Rattle.sv8_time.specs.declared.edit.TimelineEdit.{TimelineEdit}
use Rattle.sv8_time.specs.declared.edit.TimelineEdit.TheVariants.{SetPoke, ClearPoke, SetPokeByte, ClearPokeByte, SetInput, ClearInput, SetRequest, ClearRequest}
use Rattle.sv8_time.specs.Schedule.{Schedule, with_poke, without_poke, with_poke_byte, without_poke_byte, with_input, without_input, with_request, without_request, set_poke_fault, clear_poke_fault, set_poke_byte_fault, clear_poke_byte_fault, set_input_fault, clear_input_fault, set_request_fault, clear_request_fault}

-- its fault, if it has one
abbrev pub timeline_fault : TimelineEdit → Schedule → Option TimeFault
timeline_fault (SetPoke step address value) s = set_poke_fault step address s
timeline_fault (ClearPoke step address) s = clear_poke_fault step address s
timeline_fault (SetPokeByte step address value) s = set_poke_byte_fault step address s
timeline_fault (ClearPokeByte step address) s = clear_poke_byte_fault step address s
timeline_fault (SetInput step bytes) s = set_input_fault step bytes s
timeline_fault (ClearInput step) s = clear_input_fault step s
timeline_fault (SetRequest step level) s = set_request_fault step level s
timeline_fault (ClearRequest step level) s = clear_request_fault step level s

-- the events as it leaves them
abbrev pub with_edit : TimelineEdit → Schedule → Schedule
with_edit (SetPoke step address value) s = with_poke step address value s
with_edit (ClearPoke step address) s = without_poke step address s
with_edit (SetPokeByte step address value) s = with_poke_byte step address value s
with_edit (ClearPokeByte step address) s = without_poke_byte step address s
with_edit (SetInput step bytes) s = with_input step bytes s
with_edit (ClearInput step) s = without_input step s
with_edit (SetRequest step level) s = with_request step level s
with_edit (ClearRequest step level) s = without_request step level s
