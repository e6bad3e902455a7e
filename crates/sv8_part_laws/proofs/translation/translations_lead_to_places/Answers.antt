use Rattle.sv8_part_laws.proofs.Placing.{translations_lead_to_places}
use Rattle.sv8_part_laws.proofs.translation.translations_lead_to_places.Goals as goal

pub returns : goal.returns
returns c = translations_lead_to_places
