-- What a machine says of itself, one part after another.
use Rattle.std.proofs.Common.{◌≡◌, List, [], ◌∷◌, ◌++◌, append_assoc, refl, ap, ◌∙◌}
use Rattle.mos_fields.specs.Values.{time_text}
use Rattle.mos_fields.specs.declared.field.Field.TheVariants as fields
use Rattle.mos_tables.specs.Events.{Event}
use Rattle.mos_values.specs.Parts.{joined, maybe, maybe_as, raws}
use Rattle.mos_values.specs.Views.{mach_info_events, mach_head_events, mach_rest_events, supported_events}
use Rattle.mos_values.specs.declared.mach_info.MachInfo.{MachInfo}

joined_more : (xs : List (List Event)) (y : List Event) (zs : List (List Event)) → joined xs ++ (y ++ joined zs) ≡ joined (xs ++ y ∷ zs)
joined_more [] y zs = refl
joined_more (x ∷ xs) y zs = append_assoc x (joined xs) (y ++ joined zs) ∙ ap (λ (z : List Event). x ++ z) (joined_more xs y zs)

pub machine_joined : (m : MachInfo) → mach_info_events m ≡ joined (maybe fields.Manufacturer m.manufacturer ∷ maybe fields.ModelTag m.model ∷ maybe fields.HwRev m.hw_rev ∷ maybe fields.SwRev m.sw_rev ∷ maybe fields.Dom m.dom
    ∷ maybe fields.SerialNumber m.serial_number ∷ maybe fields.MachineID m.id ∷ maybe_as time_text fields.TimeTag m.time ∷ maybe fields.OpTime m.op_time ∷ maybe fields.MosRev m.mos_rev
    ∷ supported_events m.supported_profiles ∷ raws fields.DefaultActiveX m.default_active_x ∷ raws fields.Metadata m.metadata ∷ raws fields.Kept m.others ∷ [])
unfolding mach_info_events mach_head_events mach_rest_events
machine_joined m = append_assoc (mach_head_events m) (supported_events m.supported_profiles) (mach_rest_events m) ∙ joined_more (maybe fields.Manufacturer m.manufacturer ∷ maybe fields.ModelTag m.model ∷ maybe fields.HwRev m.hw_rev ∷ maybe fields.SwRev m.sw_rev ∷ maybe fields.Dom m.dom
    ∷ maybe fields.SerialNumber m.serial_number ∷ maybe fields.MachineID m.id ∷ maybe_as time_text fields.TimeTag m.time ∷ maybe fields.OpTime m.op_time ∷ maybe fields.MosRev m.mos_rev ∷ [])
    (supported_events m.supported_profiles) (raws fields.DefaultActiveX m.default_active_x ∷ raws fields.Metadata m.metadata ∷ raws fields.Kept m.others ∷ [])
