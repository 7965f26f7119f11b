-- Edits that are read, and what they leave.
use Rattle.std.proofs.Common.{◌≡◌, Bool, true, false, List, [], ◌∷◌, Option, Some, None, IsSome, Result, Ok, Err, IfErr, OnOk, OnErr, refl, sym, ap, ◌∙◌, subst, if◌then◌else◌}
use Rattle.mos_edits.specs.Texts.{Text, has_id}
use Rattle.mos_edits.specs.KeyedLists.{Applied, ActFault as EditFault}
use Rattle.mos_edits.specs.KeyedLists.Applied.{Done, Fault}
use Rattle.mos_edits.specs.Actions.{act}
use Rattle.mos_edits.specs.Orders.{Order, HeaderPatch, Header, Story, StorySend, apply, patched, shape, form_of, taken_out, with_script, with_stories}
use Rattle.mos_edits.specs.declared.edit.Edit.{Edit}
use Rattle.mos_edits.specs.Entries.{kind, Entry}
use Rattle.mos_edits.specs.declared.edit.Edit.TheVariants.{Metadata, Act, Air, Script, Create, Replace, Delete}
use Rattle.mos_values.specs.Distinct.{story_ids}
use Rattle.order_table.specs.Rows.{without_rows}
use Rattle.mos_values.specs.declared.action.Action.{Action}
use Rattle.mos_fields.specs.declared.air.Air.TheVariants.{Ready, NotReady}
use Rattle.mos_machines.specs.Messages.{Status}
use Rattle.mos_machines.specs.Device.{Phase, Decks, read_by, read_applied}
use Rattle.mos_machines.specs.Device.Phase.{InStep, OutOfStep, Asked, Crossed}
use Rattle.mos_machines.specs.Tables.{KnownOrder}
use Rattle.mos_values.specs.declared.ro_ack.RoAck.{RoAck}
use Rattle.std.specs.declared.alloc.AllocError.{AllocError}
use Rattle.element_action.specs.declared.fault.ActFault.{ActFault}
use Rattle.element_action.specs.declared.fault.ActFault.TheVariants.{Missing, AlreadyThere, NoMemory}
use Rattle.element_action.specs.Answers.{IsCause}
use Rattle.gateway_core.specs.declared.edits.Change.{Change}
use Rattle.gateway_core.specs.declared.edits.Change.TheVariants as changes
use Rattle.gateway_core.specs.Reads.{edit_of, entry_at, IsTold, known_result, acked, IsRefused}

-- what each change is, of an order that is there
pub apply-header : (r : Text) (o : Order) (p : HeaderPatch) → apply r (Some o) (Metadata p) ≡ Done (Some (record o { header = patched p o.header }))
unfolding apply
apply-header r o p = refl

pub apply-act : (r ro : Text) (o : Order) (a : Action) → apply r (Some o) (Act ro a) ≡ with_stories o.header (without_rows (taken_out (form_of a)) o.scripts) (act shape (form_of a) o.stories)
unfolding apply
apply-act r ro o a = refl

pub apply-script : (r : Text) (o : Order) (s : StorySend) → apply r (Some o) (Script s) ≡ with_script o s (has_id s.story (story_ids o.stories))
unfolding apply
apply-script r o s = refl

pub apply-ready : (r ro : Text) (o : Order) → apply r (Some o) (Air ro Ready) ≡ Done (Some o)
unfolding apply
apply-ready r ro o = refl

pub apply-none : (r : Text) (c : Change) → apply r None (edit_of r c) ≡ Fault (EditFault.Missing r)
unfolding apply
apply-none r (changes.Header p) = refl
apply-none r (changes.Action a) = refl
apply-none r (changes.Script s) = refl
apply-none r changes.Release = refl

pub if-err : {X Y : Type 0} (r : Result X Y) (P Q : Y → Type 0) → ((f : Y) → P f → Q f) → IfErr r P → IfErr r Q
if-err (Ok x) P Q f h = h
if-err (Err y) P Q f h = f y h

-- the fault of an action is that of the edit
pub told : (b : Bool) (h : Header) (rows : List (Text × StorySend)) (d : Applied (List Story)) (a : Applied (Option Order)) (f : ActFault) → a ≡ with_stories h rows d → IsCause b d f → IsTold a f
told b h rows d a (Missing id) e c = e ∙ ap (with_stories h rows) c
told b h rows d a (AlreadyThere id) e c = e ∙ ap (with_stories h rows) c
told b h rows d a NoMemory e c = tt

-- a change in step
in-step-by : (c : Change) (p : Phase) (decks : Decks) (held : Option Order) (wanted : Bool) (ro : Text) (d : Applied (Option Order)) → p ≡ InStep
    → read_by p (kind (edit_of ro c)) decks held wanted (edit_of ro c) d ≡ read_applied (kind (edit_of ro c)) decks held wanted d
in-step-by (changes.Header x) InStep decks held wanted ro d e = refl
in-step-by (changes.Action x) InStep decks held wanted ro d e = refl
in-step-by (changes.Script x) InStep decks held wanted ro d e = refl
in-step-by changes.Release InStep decks held wanted ro d e = refl
in-step-by c OutOfStep decks held wanted ro d e = absurd (cc)
in-step-by c Asked decks held wanted ro d e = absurd (cc)
in-step-by c Crossed decks held wanted ro d e = absurd (cc)

pub in-step : (k : KnownOrder) (decks : Decks) (ro : Text) (c : Change) → k.phase ≡ InStep → known_result k decks (entry_at ro c) ≡ read_applied (kind (edit_of ro c)) decks k.held k.wanted (apply ro k.held (edit_of ro c))
in-step k decks ro c e = in-step-by c k.phase decks k.held k.wanted ro (apply ro k.held (edit_of ro c)) e

fault-status : (c : Change) (ro : Text) (decks : Decks) (held : Option Order) (wanted : Bool) (f : EditFault) → (read_applied (kind (edit_of ro c)) decks held wanted (Fault f)).status ≡ Status.Faulty f
fault-status (changes.Header x) ro decks held wanted f = refl
fault-status (changes.Action x) ro decks held wanted f = refl
fault-status (changes.Script x) ro decks held wanted f = refl
fault-status changes.Release ro decks held wanted f = refl

refused-as : (k : KnownOrder) (decks : Decks) (ro : Text) (c : Change) (f : EditFault) → k.phase ≡ InStep → apply ro k.held (edit_of ro c) ≡ Fault f → (known_result k decks (entry_at ro c)).status ≡ Status.Faulty f
refused-as k decks ro c f e t = ap (λ x. x.status) (in-step k decks ro c e) ∙ (ap (λ (d : Applied (Option Order)). (read_applied (kind (edit_of ro c)) decks k.held k.wanted d).status) t ∙ fault-status c ro decks k.held k.wanted f)

-- the answer to a change that has a fault
pub refused : (k : KnownOrder) (decks : Decks) (ro : Text) (c : Change) (f : ActFault) (a : RoAck) → k.phase ≡ InStep → IsTold (apply ro k.held (edit_of ro c)) f → IsRefused ro f (Ok a) → a ≡ acked ro (known_result k decks (entry_at ro c)).status
refused k decks ro c (Missing id) a e t r = r ∙ ap (acked ro) (sym (refused-as k decks ro c (EditFault.Missing id) e t))
refused k decks ro c (AlreadyThere id) a e t r = r ∙ ap (acked ro) (sym (refused-as k decks ro c (EditFault.AlreadyThere id) e t))
refused k decks ro c NoMemory a e t r = absurd r
