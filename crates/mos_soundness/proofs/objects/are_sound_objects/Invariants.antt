use Rattle.mos_values.specs.Sound.{IsSoundObject}
use Rattle.mos_soundness.proofs.Walks.{GoesOn}
use Rattle.mos_soundness.proofs.objects.are_sound_objects.Given as goal

abbrev pub invariant-loop-object : goal.invariant-loop-object
invariant-loop-object l = GoesOn IsSoundObject l.object-index l.objects
