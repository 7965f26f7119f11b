use Rattle.std.proofs.Common.{◌≡◌, List, [], ◌∷◌, take, subst, sym}
use Rattle.std.specs.Prelude.{IfOk}
use Rattle.mos_fields.specs.Values.{obj_type_text, rev_text, samples_text}
use Rattle.mos_fields.specs.declared.field.Field.TheVariants as fields
use Rattle.mos_tables.specs.Tables.{columns}
use Rattle.mos_tables.specs.declared.table.Table.TheVariants as tables
use Rattle.mos_values.specs.Parts.{joined, maybe, maybe_as, maybe_raw, must}
use Rattle.mos_cursor.specs.Accepted.{AllFit}
use Rattle.mos_cursor.specs.Parts.{parts_events, places}
use Rattle.mos_cursor.specs.Slots.{parts_of}
use Rattle.mos_cursor.specs.declared.slot.Slot.{Slot}
use Rattle.mos_object_reading.proofs.objects.object_front.Goals as goal

pub object_front_with-requires : goal.object_front_with-requires
object_front_with-requires c =
    subst (λ (xs : List Slot). AllFit tables.MosObj (take 9 (places (columns tables.MosObj))) (parts_of xs)) c.front_slots-named.ensures c.requires

pub returns : goal.returns
returns c =
    subst (λ (xs : List Slot). IfOk c.object_front_with.result (λ v. joined (must fields.ObjID v.id ∷ maybe fields.ObjSlug v.slug ∷ maybe_raw fields.MosAbstract v.mos_abstract ∷ maybe fields.ObjGroup v.group
    ∷ maybe_as obj_type_text fields.ObjType v.obj_type ∷ maybe_as samples_text fields.ObjTB v.time_base ∷ maybe_as rev_text fields.ObjRev v.rev ∷ maybe_as samples_text fields.ObjDur v.dur ∷ maybe fields.Status v.status ∷ [])
    ≡ parts_events (take 9 (places (columns tables.MosObj))) (parts_of xs))) (sym c.front_slots-named.ensures) c.object_front_with.ensures
