-- What it means that a call that takes memory is refused.
use Rattle.std.specs.Prelude.{◌≡◌, Option, Some, None}
use Rattle.sv8_model.specs.declared.refused.Refused.{Refused}
use Rattle.sv8_model.specs.declared.refused.Refused.TheVariants.{OutOfMemory, By}

-- refused with the fault that the call has; for want of memory only where it has none
abbrev pub IsRefused : {F : Type 0} → Option F → Refused F → Type 0
IsRefused fault OutOfMemory = fault ≡ None
IsRefused fault (By f) = fault ≡ Some f

-- refused with a fault of which this holds, or for want of memory, whatever the call would have answered
abbrev pub ByFault : {F : Type 0} → (F → Type 0) → Refused F → Type 0
ByFault Holds OutOfMemory = Unit {0}
ByFault Holds (By f) = Holds f
