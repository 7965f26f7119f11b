use Rattle.std.proofs.Common.{refl, ap}
use Rattle.mos_fields.specs.declared.field.Field.TheVariants as fields
use Rattle.mos_fields.specs.Fields.{name_of}
use Rattle.mos_values.specs.Views.{device_type_text, supported_events, profiles_events}
use Rattle.mos_writer.proofs.EncodedLemmas.{element_with_written, simple_device_type, started_named, ended}
use Rattle.mos_object_msgs.proofs.machines.write_named.Goals as goal

pub returns : goal.returns
unfolding supported_events
returns c =
    let s = c.args.supported.now in
    element_with_written (name_of fields.SupportedProfilesTag) (device_type_text s.device_type) fields.DeviceType _ _ c.args.out.now.items _ _ _ refl (simple_device_type s.device_type) (ap profiles_events c.as_slice.ensures)
    (started_named _ _ _ _ _ _ _ _ c.name.ensures c.name-2.ensures c.device_type_word.ensures c.in_ok-push_start_with.ensures)
    c.in_ok-write_profiles.ensures
    (ended _ _ _ _ c.name-3.ensures c.in_ok-push_end.ensures)
