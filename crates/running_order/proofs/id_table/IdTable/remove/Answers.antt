use Rattle.std.proofs.Common.{map, ap, sym, ◌∙◌, remove}
use Rattle.mos_fields.specs.Characters.{units_of, chars_of}
use Rattle.indexmap.proofs.SetLemmas.{map-remove}
use Rattle.running_order.proofs.id_table.IdTable.remove.Goals as goal

pub invariant_of-self : goal.invariant_of-self
invariant_of-self c =
    let keys = c.self.inside.set.keys in
    ap (λ l. map (λ us. units_of (chars_of us)) (map (λ k. k.items) l)) c.shift_remove_index.ensures.keys
    ∙ ap (map (λ us. units_of (chars_of us))) (map-remove (λ k. k.items) keys c.args.at)
    ∙ map-remove (λ us. units_of (chars_of us)) (map (λ k. k.items) keys) c.args.at
    ∙ ap (λ l. remove l c.args.at) c.self.invariant
    ∙ sym (map-remove (λ k. k.items) keys c.args.at)
    ∙ ap (map (λ k. k.items)) (sym c.shift_remove_index.ensures.keys)

pub returns : goal.returns
returns c =
    ap (map (λ k. chars_of k.items)) c.shift_remove_index.ensures.keys ∙ map-remove (λ k. chars_of k.items) c.self.inside.set.keys c.args.at
    ∙ ap (λ l. remove l c.args.at) c.self.view_is
