use Rattle.std.proofs.Common.{◌≡◌, ◌++◌, take}
use Rattle.mos_values.specs.Views.{profiles_events}
use Rattle.mos_writer.specs.Encoded.{encoded}
use Rattle.mos_object_msgs.proofs.machines.write_profiles.Given as goal

abbrev pub invariant-loop-profile : goal.invariant-loop-profile
invariant-loop-profile l = l.out.items ≡ l.initial.out.items ++ encoded (profiles_events (take l.profile-index l.profiles))
