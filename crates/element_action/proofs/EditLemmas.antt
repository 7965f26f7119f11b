-- What each kind of edit says of an order that is there, and of none.
use Rattle.std.proofs.Common.{◌≡◌, Some, None, refl}
use Rattle.mos_edits.specs.Texts.{Text}
use Rattle.mos_edits.specs.KeyedLists.ActFault.{Missing}
use Rattle.mos_edits.specs.KeyedLists.Applied.{Done, Fault}
use Rattle.mos_edits.specs.Actions.{act}
use Rattle.mos_edits.specs.Orders.{Order, OrderBody, StorySend, HeaderPatch, order_of, taken_out, with_script, shape, form_of, patched, with_stories, apply}
use Rattle.mos_values.specs.declared.action.Action as values
use Rattle.mos_edits.specs.declared.edit.Edit.TheVariants as edit
use Rattle.mos_fields.specs.declared.air.Air.{Air}
use Rattle.mos_edits.specs.Texts.{has_id}
use Rattle.mos_values.specs.Distinct.{story_ids}
use Rattle.order_table.specs.Rows.{without_rows}

pub replace_none : (r : Text) (body : OrderBody) → apply r None (edit.Replace body) ≡ Fault (Missing r)
unfolding apply
replace_none r body = refl

pub replace_there : (r : Text) (o : Order) (body : OrderBody) → apply r (Some o) (edit.Replace body) ≡ Done (Some (order_of body))
unfolding apply
replace_there r o body = refl

pub delete_none : (r q : Text) → apply r None (edit.Delete q) ≡ Fault (Missing r)
unfolding apply
delete_none r q = refl

pub delete_there : (r q : Text) (o : Order) → apply r (Some o) (edit.Delete q) ≡ Done None
unfolding apply
delete_there r q o = refl

pub patch_none : (r : Text) (p : HeaderPatch) → apply r None (edit.Metadata p) ≡ Fault (Missing r)
unfolding apply
patch_none r p = refl

pub patch_there : (r : Text) (o : Order) (p : HeaderPatch) → apply r (Some o) (edit.Metadata p) ≡ Done (Some (record o { header = patched p o.header }))
unfolding apply
patch_there r o p = refl

pub act_none : (r q : Text) (a : values.Action) → apply r None (edit.Act q a) ≡ Fault (Missing r)
unfolding apply
act_none r q a = refl

pub act_there : (r q : Text) (o : Order) (a : values.Action) → apply r (Some o) (edit.Act q a) ≡ with_stories o.header (without_rows (taken_out (form_of a)) o.scripts) (act shape (form_of a) o.stories)
unfolding apply
act_there r q o a = refl

pub air_none : (r q : Text) (a : Air) → apply r None (edit.Air q a) ≡ Fault (Missing r)
unfolding apply
air_none r q a = refl

pub air_there : (r q : Text) (o : Order) (a : Air) → apply r (Some o) (edit.Air q a) ≡ Done (Some o)
unfolding apply
air_there r q o a = refl

pub script_none : (r : Text) (s : StorySend) → apply r None (edit.Script s) ≡ Fault (Missing r)
unfolding apply
script_none r s = refl

pub script_there : (r : Text) (o : Order) (s : StorySend) → apply r (Some o) (edit.Script s) ≡ with_script o s (has_id s.story (story_ids o.stories))
unfolding apply
script_there r o s = refl
