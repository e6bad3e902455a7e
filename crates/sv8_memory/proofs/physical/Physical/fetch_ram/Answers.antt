use Rattle.std.proofs.Common.{refl}
use Rattle.sv8_memory.proofs.Accesses.{fetched_word}
use Rattle.sv8_memory.proofs.physical.Physical.fetch_ram.Goals as goal

pub returns : goal.returns
returns g c = λ asi va bytes.
    let seen = rw c.low_word.ensures at c.in_ok-observe.ensures.ok in
    fetched_word _ _ _ _ _ _ _ _ _ _ _ _ _ c.requires.within (c.in_ok-word.ensures.ok bytes) seen refl
