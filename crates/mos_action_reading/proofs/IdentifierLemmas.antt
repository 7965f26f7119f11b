-- Lists of identifiers, and the texts that they are read from.
use Rattle.std.proofs.Common.{◌≡◌, List, [], ◌∷◌, map, refl, sym, ap, ◌∙◌}
use Rattle.std.specs.List.{AllByRecursion}
use Rattle.mos_fields.specs.Characters.{Text}
use Rattle.mos_fields.specs.Fields.{name_of}
use Rattle.mos_fields.specs.declared.field.Field.{Field}
use Rattle.mos_fields.specs.declared.form.Form.TheVariants as forms
use Rattle.mos_tables.specs.Events.{Attribute, Event, leaf}
use Rattle.mos_values.specs.MessageViews.{ids_events}
use Rattle.mos_cursor.specs.Accepted.{LeafFits}
use Rattle.mos_cursor.specs.Parts.{leaf_event}
use Rattle.mos_cursor.specs.Slots.{leaf_of}
use Rattle.mos_cursor.specs.declared.slot.LeafText.{LeafText}
use Rattle.mos_action_reading.specs.Identifiers.{HoldsId, text_of}

pub all_ids : (ls : List LeafText) → AllByRecursion (LeafFits forms.OptId) (map leaf_of ls) → AllByRecursion HoldsId ls
all_ids [] h = tt
all_ids (l ∷ ls) h = (h.0, all_ids ls h.1)

pub ids_read : (f : Field) (ls : List LeafText) (ids : List Text) → AllByRecursion (LeafFits forms.OptId) (map leaf_of ls) → map (λ x. x) ids ≡ map text_of ls
    → ids_events f ids ≡ map (leaf_event (name_of f)) (map leaf_of ls)
unfolding ids_events
ids_read f [] [] h e = refl
ids_read f [] (x ∷ ids) h e = absurd cc
ids_read f (l ∷ ls) [] h e = absurd cc
ids_read f (l ∷ ls) (x ∷ ids) h e =
    let k : x ≡ l.text = cc in
    let r : map (λ x. x) ids ≡ map text_of ls = cc in
    let more : List Event = map (leaf_event (name_of f)) (map leaf_of ls) in
    ap (λ (z : List Event). leaf (name_of f) [] x ∷ z) (ids_read f ls ids h.1 r)
    ∙ ap (λ (z : Text). leaf (name_of f) [] z ∷ more) k
    ∙ ap (λ (z : List Attribute). leaf (name_of f) z l.text ∷ more) (sym h.0.given)
