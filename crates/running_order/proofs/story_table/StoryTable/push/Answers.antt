use Rattle.std.proofs.Common.{◌≡◌, [], ◌∷◌, ◌++◌, map, ap, sym, subst, ◌∙◌}
use Rattle.std.proofs.lemmas.List.{map-append}
use Rattle.mos_fields.specs.Characters.{chars_of, units_of}
use Rattle.mos_values.proofs.Utf16.{chars_of-units_of}
use Rattle.mos_values.specs.Distinct.{AreDistinct}
use Rattle.running_order.specs.Entries.{AreEntries}
use Rattle.mos_values.specs.Distinct.{story_ids}
use Rattle.running_order.proofs.Keys.{AreKeys-one}
use Rattle.running_order.proofs.Entries.{appended_entries, keyed_append}
use Rattle.running_order.proofs.story_table.StoryTable.push.Goals as goal

pub invariant_of-self-2 : goal.invariant_of-self-2
invariant_of-self-2 c =
    let es = c.self.inside.table.entries in
    let key = c.in_ok-key.key in
    let entry = c.in_ok-entry.entry in
    let is : key.items ≡ c.units.result.now = c.in_ok-key.ensures.items in
    let back : chars_of key.items ≡ c.args.story.id = ap chars_of (is ∙ c.units.ensures.value) ∙ chars_of-units_of c.text.result.now c.units.ensures.allowed ∙ c.text.ensures.value ∙ ap (λ s. s.id) c.story.view_is in
    let sound : units_of (chars_of key.items) ≡ key.items = ap (λ us. units_of (chars_of us)) is ∙ c.units.ensures.well_formed.round_trip ∙ sym is in
    let entered : entry ≡ c.args.story = c.in_ok-entry.ensures in
    let one : AreEntries ((key, entry) ∷ []) = record { keys = AreKeys-one key.items sound; ids = ap (λ t. t ∷ []) (back ∙ sym (ap (λ s. s.id) entered)) } in
    let seen : story_ids (map (λ e. e.1) es) ++ entry.id ∷ [] ≡ story_ids c.args.self.now ++ c.args.story.id ∷ [] = λ j. story_ids (c.self.view_is j) ++ (entered j).id ∷ [] in
    let all : c.insert.new.self.entries ≡ es ++ (key, entry) ∷ [] = c.in_ok-insert.ensures.entries ∙ appended_entries (λ k. k.items) (λ s. s.id) es ((key, entry) ∷ []) c.self.invariant one (subst AreDistinct (sym seen) c.requires) in
    subst AreEntries (sym all) (keyed_append (λ k. k.items) (λ s. s.id) es ((key, entry) ∷ []) c.self.invariant one)

pub returns-clause-ok : goal.returns-clause-ok
returns-clause-ok c =
    let es = c.self.inside.table.entries in
    let key = c.in_ok-key.key in
    let entry = c.in_ok-entry.entry in
    let is : key.items ≡ c.units.result.now = c.in_ok-key.ensures.items in
    let back : chars_of key.items ≡ c.args.story.id = ap chars_of (is ∙ c.units.ensures.value) ∙ chars_of-units_of c.text.result.now c.units.ensures.allowed ∙ c.text.ensures.value ∙ ap (λ s. s.id) c.story.view_is in
    let sound : units_of (chars_of key.items) ≡ key.items = ap (λ us. units_of (chars_of us)) is ∙ c.units.ensures.well_formed.round_trip ∙ sym is in
    let entered : entry ≡ c.args.story = c.in_ok-entry.ensures in
    let one : AreEntries ((key, entry) ∷ []) = record { keys = AreKeys-one key.items sound; ids = ap (λ t. t ∷ []) (back ∙ sym (ap (λ s. s.id) entered)) } in
    let seen : story_ids (map (λ e. e.1) es) ++ entry.id ∷ [] ≡ story_ids c.args.self.now ++ c.args.story.id ∷ [] = λ j. story_ids (c.self.view_is j) ++ (entered j).id ∷ [] in
    let all : c.insert.new.self.entries ≡ es ++ (key, entry) ∷ [] = c.in_ok-insert.ensures.entries ∙ appended_entries (λ k. k.items) (λ s. s.id) es ((key, entry) ∷ []) c.self.invariant one (subst AreDistinct (sym seen) c.requires) in
    ap (map (λ e. e.1)) all ∙ map-append (λ e. e.1) es ((key, entry) ∷ []) ∙ (λ j. c.self.view_is j ++ entered j ∷ [])
