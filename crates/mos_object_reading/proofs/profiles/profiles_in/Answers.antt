use Rattle.mos_object_reading.proofs.ProfileLemmas.{all_profiles, profiles_read}
use Rattle.mos_object_reading.proofs.profiles.profiles_in.Goals as goal

pub read_profiles-requires : goal.read_profiles-requires
read_profiles-requires c = all_profiles _ c.requires

pub returns : goal.returns
returns c = profiles_read _ _ c.in_ok-profiles.ensures
