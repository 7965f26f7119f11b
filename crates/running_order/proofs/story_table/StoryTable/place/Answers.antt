use Rattle.std.proofs.Common.{◌≡◌, ap, ◌∙◌}
use Rattle.std.specs.Map.{keys_of}
use Rattle.mos_fields.specs.Characters.{chars_of}
use Rattle.mos_values.proofs.Utf16.{chars_of-units_of}
use Rattle.running_order.specs.Places.{place_of}
use Rattle.mos_values.specs.Distinct.{story_ids}
use Rattle.running_order.proofs.Keys.{place_by_key}
use Rattle.running_order.proofs.Entries.{keys_known, key_ids}
use Rattle.running_order.proofs.story_table.StoryTable.place.Goals as goal

pub returns-clause-place : goal.returns-clause-place
returns-clause-place c =
    let us = c.units.result.now in
    let es = c.self.inside.table.entries in
    let back : chars_of us ≡ c.args.id.now = ap chars_of c.units.ensures.value ∙ chars_of-units_of c.args.id.now c.units.ensures.allowed in
    let ids = key_ids (λ k. k.items) (λ s. s.id) es c.self.invariant ∙ ap story_ids c.self.view_is in
    c.get_index_of.ensures.index
    ∙ place_by_key (λ k. k.items) us c.units.ensures.well_formed.round_trip (keys_of es) (keys_known (λ k. k.items) (λ s. s.id) es c.self.invariant)
    ∙ (λ j. place_of (back j) (ids j))
