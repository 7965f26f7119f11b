-- An order has the roID of its entries.
use Rattle.std.proofs.Common.{◌≡◌, ℕ, zero, suc, ◌<◌, length, get_or, arith, List, [], ◌∷◌, take, Bool, true, false, Option, Some, None, refl, if◌then◌else◌, sym, ◌∙◌}
use Rattle.mos_edits.specs.Texts.{Text, same_id, has_id}
use Rattle.mos_edits.specs.KeyedLists.{Applied}
use Rattle.mos_edits.specs.KeyedLists.Applied.{Done, Fault}
use Rattle.mos_edits.specs.Actions.{act}
use Rattle.mos_edits.specs.Orders.{Order, Story, edit_ro, shape, form_of, scripts_after, with_stories, with_script, apply}
use Rattle.mos_edits.specs.declared.edit.Edit.{Edit}
use Rattle.mos_edits.specs.declared.edit.Edit.TheVariants.{Create, Replace, Delete, Metadata, Act, Air, Script}
use Rattle.mos_values.specs.Distinct.{story_ids}
use Rattle.mos_edits.specs.Distinct.{Each}
use Rattle.mos_edits.specs.Entries.{Entry, entries, entry_count, no_edit, edit_at, result_or, order_from, order_at, order_now, AreEntries, IsNamed}
use Rattle.mos_edits.proofs.Identifiers.{same-true}

named-apply : (r : Text) (o : Option Order) (e : Edit) → edit_ro e ≡ r → IsNamed r o → IsNamed r (result_or o (apply r o e))
unfolding apply
named-apply r None (Create body) h n = h
named-apply r None (Replace body) h n = tt
named-apply r None (Delete ro) h n = tt
named-apply r None (Metadata patch) h n = tt
named-apply r None (Act ro action) h n = tt
named-apply r None (Air ro air) h n = tt
named-apply r None (Script script) h n = tt
named-apply r (Some o) (Create body) h n = n
named-apply r (Some o) (Replace body) h n = h
named-apply r (Some o) (Delete ro) h n = tt
named-apply r (Some o) (Metadata patch) h n = n
named-apply r (Some o) (Act ro action) h n = go (act shape (form_of action) o.stories)
  where
    go : (x : Applied (List Story)) → IsNamed r (result_or (Some o) (with_stories o.header (scripts_after (λ script. script) (Act ro action) o.scripts) x))
    go (Done ys) = n
    go (Fault f) = n
named-apply r (Some o) (Air ro air) h n = n
named-apply r (Some o) (Script script) h n = go (has_id script.story (story_ids o.stories))
  where
    go : (b : Bool) → IsNamed r (result_or (Some o) (with_script o script b))
    go true = n
    go false = n

named-from : (r : Text) (o : Option Order) (es : List Edit) → Each (λ e. edit_ro e ≡ r) es → IsNamed r o → IsNamed r (order_from r o es)
named-from r o [] a n = n
named-from r o (e ∷ es) a n = named-from r (result_or o (apply r o e)) es a.1 (named-apply r o e a.0 n)

entries-named : (r : Text) (journal : List Entry) → AreEntries journal → Each (λ e. edit_ro e ≡ r) (entries r journal)
entries-named r [] a = tt
entries-named r (x ∷ xs) a = go (same_id r x.ro) refl (entries-named r xs a.1)
  where
    go : (b : Bool) → same_id r x.ro ≡ b → Each (λ e. edit_ro e ≡ r) (entries r xs) → Each (λ e. edit_ro e ≡ r) (if b then x.edit ∷ entries r xs else entries r xs)
    go true s i = (sym (same-true r x.ro s ∙ a.0), i)
    go false s i = i

take-each : {X : Type 0} (P : X → Type 0) (m : ℕ) (xs : List X) → Each P xs → Each P (take m xs)
take-each P zero [] a = tt
take-each P zero (x ∷ xs) a = tt
take-each P (suc m) [] a = tt
take-each P (suc m) (x ∷ xs) a = (a.0, take-each P m xs a.1)

pub named-at : (journal : List Entry) (r : Text) (m : ℕ) → AreEntries journal → IsNamed r (order_at journal r m)
named-at journal r m a = named-from r None (take m (entries r journal)) (take-each (λ e. edit_ro e ≡ r) m (entries r journal) (entries-named r journal a)) tt

pub named-now : (journal : List Entry) (r : Text) → AreEntries journal → IsNamed r (order_now journal r)
named-now journal r a = named-from r None (entries r journal) (entries-named r journal a) tt

get-each : {X : Type 0} (P : X → Type 0) (xs : List X) (k : ℕ) (d : X) → k < length xs → Each P xs → P (get_or xs k d)
get-each P [] k d h a = absurd (omega (arith, h))
get-each P (x ∷ xs) zero d h a = a.0
get-each P (x ∷ xs) (suc k) d h a = get-each P xs k d (omega (arith, h)) a.1

pub edit-named : (journal : List Entry) (r : Text) (k : ℕ) → AreEntries journal → k < entry_count journal r → edit_ro (edit_at journal r k) ≡ r
edit-named journal r k a h = get-each (λ e. edit_ro e ≡ r) (entries r journal) k no_edit h (entries-named r journal a)
