use Rattle.std.proofs.Common.{Ok, Err}
use Rattle.sv8_assembler_laws.proofs.Readings.{read-means, read-again, reads-defines}
use Rattle.sv8_assembler_laws.proofs.lines.reading_is_the_grammar.Goals as goal

pub returns-clause-read : goal.returns-clause-read
returns-clause-read c = λ text s e. read-means text (Ok s) e

pub returns-clause-written : goal.returns-clause-written
returns-clause-written c = λ text s r. read-again text s r

pub returns-clause-fault : goal.returns-clause-fault
returns-clause-fault c = λ text e h. read-means text (Err e) h

pub returns-clause-defines : goal.returns-clause-defines
returns-clause-defines c = λ text s e. reads-defines text s (read-means text (Ok s) e)
