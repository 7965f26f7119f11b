use Rattle.std.proofs.Common.{◌≡◌, ap, ◌∙◌}
use Rattle.mos_fields.specs.Characters.{chars_of}
use Rattle.mos_values.proofs.Utf16.{chars_of-units_of}
use Rattle.running_order.specs.Places.{place_of}
use Rattle.running_order.proofs.Keys.{place_by_key}
use Rattle.running_order.proofs.id_table.IdTable.place.Goals as goal

pub returns-clause-place : goal.returns-clause-place
returns-clause-place c =
    let us = c.units.result.now in
    let back : chars_of us ≡ c.args.id.now = ap chars_of c.units.ensures.value ∙ chars_of-units_of c.args.id.now c.units.ensures.allowed in
    c.get_index_of.ensures.index
    ∙ place_by_key (λ k. k.items) us c.units.ensures.well_formed.round_trip c.self.inside.set.keys c.self.invariant
    ∙ (λ j. place_of (back j) (c.self.view_is j))
