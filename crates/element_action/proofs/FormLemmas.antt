-- The answer of a form, by the first fault that was found.
use Rattle.std.proofs.Common.{◌≡◌, List, Result, Ok, Err, Bool, true, false, Option, Some, None, sym, ap, ◌∙◌, subst}
use Rattle.std.specs.Result.{OnOk, OnErr, IfErr}
use Rattle.mos_edits.specs.Texts.{Text}
use Rattle.mos_edits.specs.KeyedLists.{ActFault as EditFault, Applied, ListAction, first_of, lacking, done_unless, list_fault, list_result}
use Rattle.mos_edits.specs.Actions.{act}
use Rattle.mos_edits.specs.Actions.Action.{OnItems}
use Rattle.mos_edits.specs.Orders.{Item, Story, Order, Header, StorySend, shape, with_stories}
use Rattle.mos_values.specs.Distinct.{story_ids, item_ids}
use Rattle.element_action.specs.Levels.{edit_story}
use Rattle.mos_edits.specs.KeyedLists.Applied.{Done, Fault}
use Rattle.element_action.specs.declared.fault.ActFault.{ActFault}
use Rattle.element_action.specs.declared.fault.ActFault.TheVariants.{Missing, AlreadyThere, NoMemory}
use Rattle.element_action.specs.Answers.{IsTold, IsCause, IsApplied, HasFault, HasResult}
use Rattle.element_action.proofs.ItemLemmas.{items_in, act_items}

pub done_when : {X : Type 0} (o : Option EditFault) (x : X) → o ≡ None → done_unless o x ≡ Done x
done_when o x h = ap (λ p. done_unless p x) h

pub told_cause : {X : Type 0} (takes : Bool) (d : Applied X) (f : EditFault) (e : ActFault) → d ≡ Fault f → IsTold f e → IsCause takes d e
told_cause takes d f (Missing id) h t = h ∙ ap (λ (g : EditFault). Fault g) t
told_cause takes d f (AlreadyThere id) h t = h ∙ ap (λ (g : EditFault). Fault g) t
told_cause true d f NoMemory h t = tt
told_cause {X = X} false d f NoMemory h t = subst (λ (p : Applied X). HasFault p) (sym h) tt

pub cause_when : {X : Type 0} (takes : Bool) (o : Option EditFault) (x : X) (f : EditFault) (e : ActFault) → o ≡ Some f → IsTold f e → IsCause takes (done_unless o x) e
cause_when takes o x f e h t = told_cause takes (done_unless o x) f e (ap (λ p. done_unless p x) h) t

-- a form that has no fault has a result
pub has_result : {X : Type 0} (o : Option EditFault) (x : X) → o ≡ None → HasResult (done_unless o x)
has_result o x h = subst (λ (d : Applied _). HasResult d) (sym (done_when o x h)) tt

pub item_result : (story : Text) (action : ListAction Item) (ss : List Story) → first_of (lacking (story_ids ss) story) (list_fault shape.item_id action (item_ids (items_in story ss))) ≡ None
    → HasResult (act shape (OnItems story action) ss)
item_result story action ss h = subst (λ (d : Applied (List Story)). HasResult d) (sym (act_items story action ss ∙ done_when (first_of (lacking (story_ids ss) story) (list_fault shape.item_id action (item_ids (items_in story ss)))) (edit_story story (list_result shape.item_id action) ss) h)) tt

-- a form on the items of a story
pub item_fault : (takes : Bool) (story : Text) (action : ListAction Item) (ss : List Story) (f : EditFault) (e : ActFault)
    → first_of (lacking (story_ids ss) story) (list_fault shape.item_id action (item_ids (items_in story ss))) ≡ Some f → IsTold f e → IsCause takes (act shape (OnItems story action) ss) e
item_fault takes story action ss f e h t = told_cause takes (act shape (OnItems story action) ss) f e (act_items story action ss ∙ ap (λ p. done_unless p (edit_story story (list_result shape.item_id action) ss)) h) t

pub item_done : (story : Text) (action : ListAction Item) (ss ys : List Story) → first_of (lacking (story_ids ss) story) (list_fault shape.item_id action (item_ids (items_in story ss))) ≡ None
    → ys ≡ edit_story story (list_result shape.item_id action) ss → act shape (OnItems story action) ss ≡ Done ys
item_done story action ss ys h e = act_items story action ss ∙ ap (λ p. done_unless p (edit_story story (list_result shape.item_id action) ss)) h ∙ ap (λ l. Done l) (sym e)

-- an action of an order that is there
pub cause_of_order : (takes : Bool) (h : Header) (rows : List (Text × StorySend)) (d : Applied (List Story)) (f : ActFault) → IsCause takes d f → IsCause takes (with_stories h rows d) f
cause_of_order takes h rows d (Missing id) c = ap (λ p. with_stories h rows p) c
cause_of_order takes h rows d (AlreadyThere id) c = ap (λ p. with_stories h rows p) c
cause_of_order true h rows d NoMemory c = tt
cause_of_order false h rows (Done ss) NoMemory c = absurd c
cause_of_order false h rows (Fault f) NoMemory c = tt

pub applied_there : (takes : Bool) (d : Applied (Option Order)) (rows : List (Text × StorySend)) (e : Applied (List Story)) (o : Option Order) (before after : Order) (r : Result (Unit {0}) ActFault)
    → d ≡ with_stories before.header rows e → o ≡ Some before → OnOk r (with_stories before.header rows e ≡ Done (Some after)) → IfErr r (λ f. IsCause takes e f) → OnErr r (after ≡ before)
    → IsApplied takes d o (Some after) r
applied_there takes d rows e o before after (Ok x) is there ok cause err = is ∙ ok
applied_there takes d rows e o before after (Err f) is there ok cause err =
    (subst (λ (p : Applied (Option Order)). IsCause takes p f) (sym is) (cause_of_order takes before.header rows e f cause), ap (λ (p : Order). Some p) err ∙ sym there)
