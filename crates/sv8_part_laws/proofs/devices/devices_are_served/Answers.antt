use Rattle.sv8_part_laws.proofs.ServedPlaces.{devices_are_served}
use Rattle.sv8_part_laws.proofs.devices.devices_are_served.Goals as goal

pub returns : goal.returns
returns c = devices_are_served
