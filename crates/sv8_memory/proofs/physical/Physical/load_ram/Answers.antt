use Rattle.std.proofs.Common.{◌≤◌, refl, rules, subst}
use Rattle.sv8_memory.proofs.Accesses.{loaded_from_ram, loaded_word}
use Rattle.sv8_memory.proofs.physical.Physical.load_ram.Goals as goal

pub returns : goal.returns
returns g c = record {
  ok = λ asi bytes.
      loaded_from_ram _ _ _ _ _ _ _ c.args.size asi c.args.va c.args.pa _ c.requires.within (subst (λ n. n ≤ 0x1000_0000) c.ram_size-size.ensures.value c.ram_size-size.ensures.most)
      (loaded_word _ _ _ _ _ _ _ _ _ _ _ _ _ c.requires.within (c.in_ok-value.ensures.ok bytes) (search rules) refl);
}
