use Rattle.std.proofs.Common.{◌≡◌, [], ◌∷◌, ◌++◌, map, ap, sym, subst, ◌∙◌}
use Rattle.std.proofs.lemmas.List.{map-append}
use Rattle.mos_fields.specs.Characters.{chars_of, units_of}
use Rattle.mos_values.proofs.Utf16.{chars_of-units_of}
use Rattle.mos_values.specs.Distinct.{AreDistinct}
use Rattle.running_order.proofs.Keys.{appended_keys, AreKeys-one}
use Rattle.running_order.proofs.id_table.IdTable.push.Goals as goal

pub returns-clause-ok : goal.returns-clause-ok
returns-clause-ok c =
    let keys = c.self.inside.set.keys in
    let key = c.in_ok-key.key in
    let is : key.items ≡ c.units.result.now = c.in_ok-key.ensures.items in
    let back : chars_of key.items ≡ c.args.id.now = ap chars_of (is ∙ c.units.ensures.value) ∙ chars_of-units_of c.args.id.now c.units.ensures.allowed in
    let sound : units_of (chars_of key.items) ≡ key.items = ap (λ us. units_of (chars_of us)) is ∙ c.units.ensures.well_formed.round_trip ∙ sym is in
    let seen : map (λ k. chars_of k.items) keys ++ chars_of key.items ∷ [] ≡ c.args.self.now ++ c.args.id.now ∷ [] = λ j. c.self.view_is j ++ back j ∷ [] in
    ap (map (λ k. chars_of k.items)) (c.in_ok-insert.ensures.keys ∙ appended_keys (λ k. k.items) keys (key ∷ []) c.self.invariant (AreKeys-one key.items sound) (subst AreDistinct (sym seen) c.requires))
    ∙ map-append (λ k. chars_of k.items) keys (key ∷ []) ∙ seen
