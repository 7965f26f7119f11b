use Rattle.std.proofs.Common.{[], ◌∷◌, sym, ◌∙◌}
use Rattle.mos_fields.specs.Values.{time_text}
use Rattle.mos_fields.specs.declared.field.Field.TheVariants as fields
use Rattle.mos_values.specs.Parts.{maybe, maybe_as, raws}
use Rattle.mos_values.specs.Views.{supported_events}
use Rattle.mos_object_reading.proofs.MachineLemmas.{machine_joined}
use Rattle.mos_cursor.proofs.Joined.{joined_append}
use Rattle.mos_object_reading.proofs.machines.machine_with.Goals as goal

pub returns : goal.returns
returns c = machine_joined _ ∙ sym (joined_append (maybe fields.Manufacturer c.args.front.manufacturer ∷ maybe fields.ModelTag c.args.front.model ∷ maybe fields.HwRev c.args.front.hw_rev ∷ maybe fields.SwRev c.args.front.sw_rev ∷ maybe fields.Dom c.args.front.dom ∷ maybe fields.SerialNumber c.args.front.serial_number ∷ maybe fields.MachineID c.args.front.id ∷ []) (maybe_as time_text fields.TimeTag c.args.back.time ∷ maybe fields.OpTime c.args.back.op_time ∷ maybe fields.MosRev c.args.back.mos_rev ∷ supported_events c.args.back.supported_profiles ∷ raws fields.DefaultActiveX c.args.back.default_active_x ∷ raws fields.Metadata c.args.back.metadata ∷ raws fields.Kept c.args.back.others ∷ []))
