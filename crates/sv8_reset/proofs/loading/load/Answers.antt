use Rattle.sv8_reset.proofs.LoadedImage.{all_placed}
use Rattle.sv8_reset.proofs.loading.load.Goals as goal

pub returns : goal.returns
returns g c =
    all_placed _ _ _ _ _ (rw (← c.line_count-index-end.ensures.listed) c.loop-index-test.false) c.requires c.loop-index.invariant.0 c.loop-index.invariant.1
