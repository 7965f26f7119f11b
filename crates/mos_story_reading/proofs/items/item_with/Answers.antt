use Rattle.std.proofs.Common.{[], ◌∷◌, sym}
use Rattle.mos_fields.specs.Values.{samples_text}
use Rattle.mos_fields.specs.declared.field.Field.TheVariants as fields
use Rattle.mos_values.specs.Parts.{must, maybe, maybe_as, maybe_raw, raws}
use Rattle.mos_values.specs.Views.{item_events}
use Rattle.mos_cursor.proofs.Joined.{joined_append}
use Rattle.mos_story_reading.proofs.items.item_with.Goals as goal

pub returns : goal.returns
unfolding item_events
returns c = sym (joined_append (must fields.ItemID c.args.front.id ∷ maybe fields.ItemSlug c.args.front.slug ∷ must fields.ObjID c.args.front.obj ∷ must fields.MosID c.args.front.mos ∷ maybe_raw fields.MosAbstract c.args.front.mos_abstract ∷ maybe_raw fields.ObjPaths c.args.front.obj_paths ∷ maybe fields.ItemChannel c.args.front.channel ∷ []) (maybe_as samples_text fields.ItemEdStart c.args.back.ed_start ∷ maybe_as samples_text fields.ItemEdDur c.args.back.ed_dur ∷ maybe_as samples_text fields.ItemUserTimingDur c.args.back.user_timing_dur ∷ maybe fields.ItemTrigger c.args.back.trigger ∷ maybe fields.MacroIn c.args.back.macro_in ∷ maybe fields.MacroOut c.args.back.macro_out ∷ raws fields.Metadata c.args.back.metadata ∷ raws fields.Kept c.args.back.others ∷ []))
