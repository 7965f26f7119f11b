use Rattle.mos_object_msgs.proofs.Lists.{profiles_start, profiles_step}
use Rattle.mos_object_msgs.proofs.machines.write_profiles.Goals as goal

pub loop-profile-init : goal.loop-profile-init
loop-profile-init c = profiles_start c.args.out.now.items

pub loop-profile-preserved : goal.loop-profile-preserved
loop-profile-preserved c = profiles_step c.args.profiles.now c.loop-profile.profile-index c.profile-item.result c.args.out.now.items c.loop-profile.out.items c.write_profile.new.out.items c.loop-profile-test.true c.profile-item.is c.loop-profile.invariant c.in_ok-write_profile.ensures
