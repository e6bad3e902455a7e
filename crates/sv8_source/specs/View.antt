-- A line of the listing and a name as they are handed out, and what they stand for.
use Rattle.sv8_source.specs.declared.names.DefinedName.{DefinedName}
use Rattle.sv8_source.specs.declared.source.Listed.{Listed}
use Rattle.sv8_source.specs.Listing.{ListedLine}
use Rattle.sv8_source.specs.Names.{Named}

abbrev pub shown_of : Listed → ListedLine
shown_of l = record { address = l.address; bytes = l.bytes.now; text = l.text.now }

abbrev pub named_of : DefinedName → Named
named_of d = record { value = d.value; kind = d.kind; name = d.text.now }
