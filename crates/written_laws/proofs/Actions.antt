-- The message of an edit that applies is about as long as the order before it or after it, and not longer.
use Rattle.std.proofs.Common.{◌≡◌, ℕ, ◌+◌, ◌≤◌, List, [], ◌∷◌, ◌++◌, length, codes, Option, Some, None, arith, refl, sym, subst}
use Rattle.mos_fields.specs.Characters.{Text}
use Rattle.mos_fields.specs.declared.air.Air.{Air as AirState}
use Rattle.mos_fields.specs.declared.air.Air.TheVariants.{Ready, NotReady}
use Rattle.mos_fields.specs.declared.field.Field.TheVariants as fields
use Rattle.mos_fields.specs.declared.operation.Operation.{Operation}
use Rattle.mos_fields.specs.declared.operation.Operation.TheVariants as operations
use Rattle.mos_fields.specs.Fields.{name_of}
use Rattle.mos_fields.specs.Values.{air_text, operation_text}
use Rattle.mos_tables.specs.Canonical.{event_text}
use Rattle.mos_tables.specs.Events.{Event, opens, closes}
use Rattle.mos_values.specs.declared.action.Action as values
use Rattle.mos_values.specs.declared.action.Action.TheVariants as actions
use Rattle.mos_edits.specs.declared.edit.Edit.TheVariants as edits
use Rattle.mos_values.specs.MessageViews.{operation_of_action, target_story, target_item, ids_events, source, action_events, message_events}
use Rattle.mos_values.specs.Parts.{must, attribute}
use Rattle.mos_values.specs.Units.{units_in}
use Rattle.mos_values.specs.Views.{header_events, patch_events, items_events, stories_events, body_events}
use Rattle.mos_values.proofs.Encoding.{units_in-append, units_in_element, units_of_name}
use Rattle.mos_machines.specs.Values.{edit_message}
use Rattle.mos_edits.specs.KeyedLists.{Applied, ListAction, find, put_for, act_list}
use Rattle.mos_edits.specs.KeyedLists.Applied.{Done, Fault}
use Rattle.mos_edits.specs.KeyedLists.ListAction.{Insert, Replace, Move, Delete}
use Rattle.mos_edits.specs.Actions.{act, act_in, put_items}
use Rattle.mos_edits.specs.Orders.{Item, Story, Order, OrderBody, order_of, bare, shape, form_of, scripts_after, with_stories, patched, apply}
use Rattle.mos_edits.specs.declared.edit.Edit.{Edit}
use Rattle.mos_edits.specs.Sizes.{send_units}
use Rattle.mos_machines.proofs.SizeLemmas.{script-units}
use Rattle.written_laws.specs.Lengths.{IsShort, HasShortTarget, HasShortIds}
use Rattle.written_laws.proofs.Sums.{total, total-find, total-put_for, Within, within-more, within-act_list}
use Rattle.written_laws.proofs.Sizes.{short-must, units-with, id_units, item_weight, story_weight, ids-total, items-total, stories-total, item-id, story-id, story-items, patch-units}

-- ---- what actions bring and take

on-stories : (action : ListAction Story) (stories ys : List Story) → act_list (λ s. s.id) action stories ≡ Done ys → Within story_weight (id_units fields.StoryID) (total story_weight stories) (total story_weight ys) action
on-stories action stories ys h = within-act_list story_weight (id_units fields.StoryID) (λ s. s.id) story-id action stories ys h

on-items : (story : Text) (action : ListAction Item) (stories ys : List Story) → act_in shape story action stories (find (λ s. s.id) story stories) ≡ Done ys
    → Within item_weight (id_units fields.ItemID) (total story_weight stories) (total story_weight ys) action
on-items story action stories ys h = go (find (λ s. s.id) story stories) refl h
  where
    put : (s : Story) (r : Applied (List Item)) → find (λ s. s.id) story stories ≡ Some s → act_list (λ i. i.id) action s.items ≡ r → put_items shape story s stories r ≡ Done ys
        → Within item_weight (id_units fields.ItemID) (total story_weight stories) (total story_weight ys) action
    put s (Fault f) e i h = absurd (cc)
    put s (Done items) e i h =
        let ys_is : put_for (λ s. s.id) story (record s { items = items } ∷ []) stories ≡ ys = cc in
        let w = within-act_list item_weight (id_units fields.ItemID) (λ i. i.id) item-id action s.items items i in
        let b : total item_weight s.items ≤ total story_weight stories = let p = story-items s in let q = total-find story_weight (λ s. s.id) story stories s e in omega (arith, p, q) in
        let a : total item_weight items ≤ total story_weight (put_for (λ s. s.id) story (record s { items = items } ∷ []) stories) =
        let p = story-items (record s { items = items }) in
        let q = total-put_for story_weight (λ s. s.id) story (record s { items = items } ∷ []) stories s e in
        omega (arith, p, q) in
        within-more item_weight (id_units fields.ItemID) (total item_weight s.items) (total item_weight items) (total story_weight stories) (total story_weight ys) action b
        (subst (λ (zs : List Story). total item_weight items ≤ total story_weight zs) ys_is a) w

    go : (o : Option Story) → find (λ s. s.id) story stories ≡ o → act_in shape story action stories o ≡ Done ys → Within item_weight (id_units fields.ItemID) (total story_weight stories) (total story_weight ys) action
    go None e h = absurd (cc)
    go (Some s) e h = put s (act_list (λ i. i.id) action s.items) e refl h

-- ---- the parts of an action's message

story-target : (story : Text) → IsShort story → units_in (target_story story) ≤ 1600
unfolding target_story
story-target story h =
    let t = units_in_element (name_of fields.ElementTarget) (must fields.StoryID story) (units_of_name fields.ElementTarget) in
    let a = short-must fields.StoryID 7 story refl h in
    omega (arith, t, a)

item-target : (story item : Text) → IsShort story → IsShort item → units_in (target_item story item) ≤ 3200
unfolding target_item
item-target story item h k =
    let t = units_in_element (name_of fields.ElementTarget) (must fields.StoryID story ++ must fields.ItemID item) (units_of_name fields.ElementTarget) in
    let e = units_in-append (must fields.StoryID story) (must fields.ItemID item) in
    let a = short-must fields.StoryID 7 story refl h in
    let b = short-must fields.ItemID 6 item refl k in
    omega (arith, t, e, a, b)

source-units : (es : List Event) → units_in (source es) ≤ units_in es + 40
unfolding source
source-units es = let t = units_in_element (name_of fields.ElementSource) es (units_of_name fields.ElementSource) in omega (arith, t)

targeted : (n : ℕ) (target es : List Event) → units_in target ≤ 3200 → units_in es ≤ n → units_in (target ++ source es) ≤ n + 3300
targeted n target es a b = let e = units_in-append target (source es) in let s = source-units es in omega (arith, e, s, a, b)

two-ids : (a b : Text) → IsShort a → IsShort b → (units_in (must fields.StoryID a ++ must fields.StoryID b) ≤ 3200) × (units_in (must fields.ItemID a ++ must fields.ItemID b) ≤ 3200)
two-ids a b h k = (
  let e = units_in-append (must fields.StoryID a) (must fields.StoryID b) in
      let p = short-must fields.StoryID 7 a refl h in
      let q = short-must fields.StoryID 7 b refl k in
      omega (arith, e, p, q),
  let e = units_in-append (must fields.ItemID a) (must fields.ItemID b) in
      let p = short-must fields.ItemID 6 a refl h in
      let q = short-must fields.ItemID 6 b refl k in
      omega (arith, e, p, q),
)

stories-within : (n : ℕ) (sources : List Story) → total story_weight sources ≤ n → units_in (stories_events sources) ≤ n
stories-within n sources h = let e = stories-total sources in omega (arith, e, h)

items-within : (n : ℕ) (sources : List Item) → total item_weight sources ≤ n → units_in (items_events sources) ≤ n
items-within n sources h = let e = items-total sources in omega (arith, e, h)

story-ids-within : (n : ℕ) (sources : List Text) → total (id_units fields.StoryID) sources ≤ n → units_in (ids_events fields.StoryID sources) ≤ n
story-ids-within n sources h = let e = ids-total fields.StoryID sources in omega (arith, e, h)

item-ids-within : (n : ℕ) (sources : List Text) → total (id_units fields.ItemID) sources ≤ n → units_in (ids_events fields.ItemID sources) ≤ n
item-ids-within n sources h = let e = ids-total fields.ItemID sources in omega (arith, e, h)

-- the lists before and after have at most `n` code units
action-within : (n : ℕ) (action : values.Action) (stories ys : List Story) → act shape (form_of action) stories ≡ Done ys → total story_weight stories ≤ n → total story_weight ys ≤ n → HasShortTarget action
    → units_in (action_events action) ≤ n + 6600
unfolding action_events
action-within n (actions.InsertStories target sources) stories ys h b a s =
    let w = on-stories (Insert target sources) stories ys h in
    let t = story-target target s in
    let r = targeted n (target_story target) (stories_events sources) (omega (arith, t)) (stories-within n sources (omega (arith, w, a))) in
    omega (arith, r)
action-within n (actions.ReplaceStory target sources) stories ys h b a s =
    let w = on-stories (Replace target sources) stories ys h in
    let t = story-target target s in
    let r = targeted n (target_story target) (stories_events sources) (omega (arith, t)) (stories-within n sources (omega (arith, w, a))) in
    omega (arith, r)
action-within n (actions.InsertItems story target sources) stories ys h b a s =
    let w = on-items story (Insert target sources) stories ys h in
    let t = item-target story target s.0 s.1 in
    let r = targeted n (target_item story target) (items_events sources) t (items-within n sources (omega (arith, w, a))) in
    omega (arith, r)
action-within n (actions.ReplaceItem story target sources) stories ys h b a s =
    let w = on-items story (Replace target sources) stories ys h in
    let t = item-target story target s.0 s.1 in
    let r = targeted n (target_item story target) (items_events sources) t (items-within n sources (omega (arith, w, a))) in
    omega (arith, r)
action-within n (actions.MoveStories target sources) stories ys h b a s =
    let w = on-stories (Move target sources) stories ys h in
    let t = story-target target s in
    let r = targeted n (target_story target) (ids_events fields.StoryID sources) (omega (arith, t)) (story-ids-within n sources (omega (arith, w, b))) in
    omega (arith, r)
action-within n (actions.MoveItems story target sources) stories ys h b a s =
    let w = on-items story (Move target sources) stories ys h in
    let t = item-target story target s.0 s.1 in
    let r = targeted n (target_item story target) (ids_events fields.ItemID sources) t (item-ids-within n sources (omega (arith, w, b))) in
    omega (arith, r)
action-within n (actions.DeleteStories sources) stories ys h b a s =
    let w = on-stories (Delete sources) stories ys h in
    let e = story-ids-within n sources (omega (arith, w, b)) in
    let r = source-units (ids_events fields.StoryID sources) in
    omega (arith, e, r)
action-within n (actions.DeleteItems story sources) stories ys h b a s =
    let w = on-items story (Delete sources) stories ys h in
    let t = story-target story s in
    let r = targeted n (target_story story) (ids_events fields.ItemID sources) (omega (arith, t)) (item-ids-within n sources (omega (arith, w, b))) in
    omega (arith, r)
action-within n (actions.SwapStories first second) stories ys h b a s =
    let p = two-ids first second s.0 s.1 in
    let r = source-units (must fields.StoryID first ++ must fields.StoryID second) in
    omega (arith, p.0, r)
action-within n (actions.SwapItems story first second) stories ys h b a s =
    let p = two-ids first second s.1 s.2 in
    let t = story-target story s.0 in
    let r = targeted 3200 (target_story story) (must fields.ItemID first ++ must fields.ItemID second) (omega (arith, t)) p.1 in
    omega (arith, r)

-- ---- the message

action-start : (op : Operation) → length (event_text (opens (codes "roElementAction") (attribute fields.OperationKind (operation_text op) ∷ []))) ≤ 100
action-start operations.Insert = omega arith
action-start operations.Replace = omega arith
action-start operations.Move = omega arith
action-start operations.Delete = omega arith
action-start operations.Swap = omega arith

short-air : (air : AirState) → IsShort (air_text air)
short-air Ready = omega arith
short-air NotReady = omega arith

-- an order that is there has at most `n` code units between its tags
abbrev pub FitsIn : ℕ → Option Order → Type 0
FitsIn n None = Unit {0}
FitsIn n (Some o) = units_in (body_events (bare o)) ≤ n

-- a script has at most `n` code units
abbrev pub FitsSend : ℕ → Edit → Type 0
FitsSend n (edits.Script script) = send_units script ≤ n
FitsSend n e = Unit {0}

body-units : (o : OrderBody) → units_in (body_events o) ≡ units_in (header_events o.header) + total story_weight o.stories
unfolding body_events
body-units o =
    let e = units_in-append (header_events o.header) (stories_events o.stories) in
    let t = stories-total o.stories in
    omega (arith, e, t)

acted : (n : ℕ) (ro : Text) (action : values.Action) (stories ys : List Story) → act shape (form_of action) stories ≡ Done ys → total story_weight stories ≤ n → total story_weight ys ≤ n → IsShort ro → HasShortTarget action
    → units_in (message_events (edit_message (edits.Act ro action))) ≤ n + 10000
unfolding message_events
acted n ro action stories ys h b a r s =
    let t = units-with (codes "roElementAction") (attribute fields.OperationKind (operation_text (operation_of_action action)) ∷ []) (must fields.RoID ro ++ action_events action) in
    let f = action-start (operation_of_action action) in
    let e = units_in-append (must fields.RoID ro) (action_events action) in
    let i = short-must fields.RoID 4 ro refl r in
    let w = action-within n action stories ys h b a s in
    let c : length (event_text (closes (codes "roElementAction"))) ≤ 100 = omega arith in
    omega (arith, t, f, e, i, w, c)

whole-units : (n : ℕ) (body : OrderBody) → units_in (body_events body) ≤ n → (units_in (message_events (edit_message (edits.Create body))) ≤ n + 10000) × (units_in (message_events (edit_message (edits.Replace body))) ≤ n + 10000)
unfolding message_events
whole-units n body h = (
  let t = units_in_element (codes "roCreate") (body_events body) refl in omega (arith, t, h),
  let t = units_in_element (codes "roReplace") (body_events body) refl in omega (arith, t, h),
)

pub air-units : (ro : Text) (air : AirState) → IsShort ro → units_in (message_events (edit_message (edits.Air ro air))) ≤ 10000
unfolding message_events
air-units ro air s =
    let t = units_in_element (codes "roReadyToAir") (must fields.RoID ro ++ must fields.RoAir (air_text air)) refl in
    let e = units_in-append (must fields.RoID ro) (must fields.RoAir (air_text air)) in
    let i = short-must fields.RoID 4 ro refl s in
    let k = short-must fields.RoAir 5 (air_text air) refl (short-air air) in
    omega (arith, t, e, i, k)

pub edit-within : (n : ℕ) (r : Text) (o p : Option Order) (e : Edit) → apply r o e ≡ Done p → FitsIn n o → FitsIn n p → HasShortIds e → FitsSend n e → units_in (message_events (edit_message e)) ≤ n + 10000
unfolding apply message_events
edit-within n r None p (edits.Create body) h b a s f = let p_is : Some (order_of body) ≡ p = cc in (whole-units n body (subst (FitsIn n) (sym p_is) a)).0
edit-within n r None p (edits.Replace body) h b a s f = absurd (cc)
edit-within n r None p (edits.Delete ro) h b a s f = absurd (cc)
edit-within n r None p (edits.Metadata patch) h b a s f = absurd (cc)
edit-within n r None p (edits.Act ro action) h b a s f = absurd (cc)
edit-within n r None p (edits.Air ro air) h b a s f = absurd (cc)
edit-within n r None p (edits.Script script) h b a s f = absurd (cc)
edit-within n r (Some o) p (edits.Create body) h b a s f = absurd (cc)
edit-within n r (Some o) p (edits.Replace body) h b a s f = let p_is : Some (order_of body) ≡ p = cc in (whole-units n body (subst (FitsIn n) (sym p_is) a)).1
edit-within n r (Some o) p (edits.Delete ro) h b a s f =
    let t = units_in_element (codes "roDelete") (must fields.RoID ro) refl in
    let i = short-must fields.RoID 4 ro refl s in
    omega (arith, t, i)
edit-within n r (Some o) p (edits.Metadata patch) h b a s f =
    let p_is : Some (record { header = patched patch o.header; stories = o.stories; scripts = o.scripts }) ≡ p = cc in
    let q : units_in (body_events (record { header = patched patch o.header; stories = o.stories })) ≤ n = subst (FitsIn n) (sym p_is) a in
    let u = body-units (record { header = patched patch o.header; stories = o.stories }) in
    let t = units_in_element (codes "roMetadataReplace") (patch_events patch) refl in
    let w = patch-units patch o.header in
    let i = short-must fields.RoID 4 patch.ro refl s in
    omega (arith, q, u, t, w, i)
edit-within n r (Some o) p (edits.Act ro action) h b a s f = go (act shape (form_of action) o.stories) refl h
  where
    go : (x : Applied (List Story)) → act shape (form_of action) o.stories ≡ x → with_stories o.header (scripts_after (λ script. script) (edits.Act ro action) o.scripts) x ≡ Done p → units_in (message_events (edit_message (edits.Act ro action))) ≤ n + 10000
    go (Fault f) e k = absurd (cc)
    go (Done ys) e k =
        let p_is : Some (record { header = o.header; stories = ys; scripts = scripts_after (λ script. script) (edits.Act ro action) o.scripts }) ≡ p = cc in
        let q : units_in (body_events (record { header = o.header; stories = ys })) ≤ n = subst (FitsIn n) (sym p_is) a in
        let u = body-units (record { header = o.header; stories = ys }) in
        let v = body-units (bare o) in
        acted n ro action o.stories ys e (omega (arith, v, b)) (omega (arith, u, q)) s.0 s.1
edit-within n r (Some o) p (edits.Air ro air) h b a s f = let u = air-units ro air s in omega (arith, u)
edit-within n r (Some o) p (edits.Script script) h b a s f = let u = script-units script in omega (arith, u, f)
