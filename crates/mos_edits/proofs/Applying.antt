-- What the machines need of edits.
use Rattle.std.proofs.Common.{◌≡◌, List, [], ◌∷◌, Bool, true, false, Option, Some, None, arith, refl, sym, if◌then◌else◌}
use Rattle.mos_edits.specs.Texts.{Text, same_id, has_id}
use Rattle.mos_edits.specs.Rows.{is_before, find_row, put_row}
use Rattle.mos_values.specs.Distinct.{story_ids}
use Rattle.mos_edits.proofs.Identifiers.{same-self}
use Rattle.mos_edits.specs.KeyedLists.ActFault.{Missing, AlreadyThere}
use Rattle.mos_edits.specs.KeyedLists.Applied.{Done, Fault}
use Rattle.mos_edits.specs.Orders.{Order, OrderBody, StorySend, order_of, with_script, apply}
use Rattle.mos_edits.specs.declared.edit.Edit.{Edit}
use Rattle.mos_edits.specs.declared.edit.Edit.TheVariants.{Create, Replace, Delete, Metadata, Act, Air, Script}
use Rattle.mos_edits.specs.Entries.{kind, body_of}
use Rattle.mos_edits.specs.Entries.Kind.{IsWhole, IsReady, IsNotReady}

pub apply-whole : (r : Text) (o p : Option Order) (e : Edit) → kind e ≡ IsWhole → apply r o e ≡ Done p → p ≡ body_of e
unfolding apply
apply-whole r o p e k h = grind arith

pub apply-ready : (r : Text) (o p : Option Order) (e : Edit) → kind e ≡ IsReady → apply r o e ≡ Done p → p ≡ o
unfolding apply
apply-ready r o p e k h = grind arith

pub apply-not_ready : (r : Text) (o p : Option Order) (e : Edit) → kind e ≡ IsNotReady → apply r o e ≡ Done p → p ≡ o
unfolding apply
apply-not_ready r o p e k h = grind arith

-- an edit of an order that isn't there, but roCreate
pub apply-none : (r : Text) (e : Edit) → ((body : OrderBody) → e ≡ Create body → ⊥) → apply r None e ≡ Fault (Missing r)
unfolding apply
apply-none r (Create body) h = absurd (h body refl)
apply-none r (Replace body) h = refl
apply-none r (Delete ro) h = refl
apply-none r (Metadata patch) h = refl
apply-none r (Act ro action) h = refl
apply-none r (Air ro air) h = refl
apply-none r (Script script) h = refl

pub apply-create : (r : Text) (body : OrderBody) → apply r None (Create body) ≡ Done (Some (order_of body))
unfolding apply
apply-create r body = refl

pub apply-created : (r : Text) (o : Order) (body : OrderBody) → apply r (Some o) (Create body) ≡ Fault (AlreadyThere r)
unfolding apply
apply-created r o body = refl

find-put : {X : Type 0} (r : Text) (v : X) (rows : List (Text × X)) → find_row r (put_row r v rows) ≡ Some v
find-put r v [] = rw (same-self r) refl
find-put {X = X} r v (x ∷ xs) = by (same_id r x.0) refl (is_before r x.0) (find-put r v xs)
  where
    by : (b : Bool) → same_id r x.0 ≡ b → (c : Bool) → find_row r (put_row r v xs) ≡ Some v → find_row r (if b then (r, v) ∷ xs else (if c then (r, v) ∷ (x ∷ xs) else x ∷ put_row r v xs)) ≡ Some v
    by true e c h = rw (same-self r) refl
    by false e true h = rw (same-self r) refl
    by false e false h = rw e h

pub apply-script : (r : Text) (o : Order) (p : Option Order) (s : StorySend) → apply r (Some o) (Script s) ≡ Done p → (q : Order) × (p ≡ Some q) × (q.header ≡ o.header) × (q.stories ≡ o.stories) × (find_row s.story q.scripts ≡ Some s)
unfolding apply
apply-script r o p s h = go (has_id s.story (story_ids o.stories)) h
  where
    go : (b : Bool) → with_script o s b ≡ Done p → (q : Order) × (p ≡ Some q) × (q.header ≡ o.header) × (q.stories ≡ o.stories) × (find_row s.story q.scripts ≡ Some s)
    go true h = let p_is : Some (record { header = o.header; stories = o.stories; scripts = put_row s.story s o.scripts }) ≡ p = cc in (record { header = o.header; stories = o.stories; scripts = put_row s.story s o.scripts }, sym p_is, refl, refl, find-put s.story s o.scripts)
    go false h = absurd (cc)

pub apply-script-missing : (r : Text) (o : Order) (s : StorySend) → has_id s.story (story_ids o.stories) ≡ false → apply r (Some o) (Script s) ≡ Fault (Missing s.story)
unfolding apply
apply-script-missing r o s h = rw h refl
