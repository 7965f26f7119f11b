use Rattle.mos_values.specs.Sound.{IsSoundPatch}
use Rattle.mos_soundness.proofs.Walks.{GoesOn}
use Rattle.mos_soundness.proofs.orders.are_sound_patches.Given as goal

abbrev pub invariant-loop-patch : goal.invariant-loop-patch
invariant-loop-patch l = GoesOn IsSoundPatch l.patch-index l.patches
