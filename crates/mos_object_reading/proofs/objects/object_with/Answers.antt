use Rattle.std.proofs.Common.{[], ◌∷◌, sym}
use Rattle.mos_fields.specs.Values.{air_text, obj_type_text, rev_text, samples_text}
use Rattle.mos_fields.specs.declared.field.Field.TheVariants as fields
use Rattle.mos_values.specs.Parts.{must, maybe, maybe_as, maybe_raw, raws}
use Rattle.mos_values.specs.Views.{mos_obj_events}
use Rattle.mos_cursor.proofs.Joined.{joined_append}
use Rattle.mos_object_reading.proofs.objects.object_with.Goals as goal

pub returns : goal.returns
unfolding mos_obj_events
returns c = sym (joined_append (must fields.ObjID c.args.front.id ∷ maybe fields.ObjSlug c.args.front.slug ∷ maybe_raw fields.MosAbstract c.args.front.mos_abstract ∷ maybe fields.ObjGroup c.args.front.group ∷ maybe_as obj_type_text fields.ObjType c.args.front.obj_type ∷ maybe_as samples_text fields.ObjTB c.args.front.time_base ∷ maybe_as rev_text fields.ObjRev c.args.front.rev ∷ maybe_as samples_text fields.ObjDur c.args.front.dur ∷ maybe fields.Status c.args.front.status ∷ []) (maybe_as air_text fields.ObjAir c.args.back.air ∷ maybe_raw fields.ObjPaths c.args.back.obj_paths ∷ maybe fields.CreatedBy c.args.back.created_by ∷ maybe fields.Created c.args.back.created ∷ maybe fields.ChangedBy c.args.back.changed_by ∷ maybe fields.Changed c.args.back.changed ∷ maybe_raw fields.Description c.args.back.description ∷ raws fields.Metadata c.args.back.metadata ∷ raws fields.Kept c.args.back.others ∷ []))
