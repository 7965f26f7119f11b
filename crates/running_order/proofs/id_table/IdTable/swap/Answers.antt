use Rattle.std.proofs.Common.{map, ap, sym, ◌∙◌, swap}
use Rattle.mos_fields.specs.Characters.{units_of, chars_of}
use Rattle.indexmap.proofs.ReorderLemmas.{map-swap}
use Rattle.running_order.proofs.id_table.IdTable.swap.Goals as goal

pub invariant_of-self : goal.invariant_of-self
invariant_of-self c =
    let keys = c.self.inside.set.keys in
    ap (λ l. map (λ us. units_of (chars_of us)) (map (λ k. k.items) l)) c.swap_indices.ensures.keys
    ∙ ap (map (λ us. units_of (chars_of us))) (map-swap (λ k. k.items) keys c.args.a c.args.b)
    ∙ map-swap (λ us. units_of (chars_of us)) (map (λ k. k.items) keys) c.args.a c.args.b
    ∙ ap (λ l. swap l c.args.a c.args.b) c.self.invariant
    ∙ sym (map-swap (λ k. k.items) keys c.args.a c.args.b)
    ∙ ap (map (λ k. k.items)) (sym c.swap_indices.ensures.keys)

pub returns : goal.returns
returns c =
    ap (map (λ k. chars_of k.items)) c.swap_indices.ensures.keys ∙ map-swap (λ k. chars_of k.items) c.self.inside.set.keys c.args.a c.args.b
    ∙ ap (λ l. swap l c.args.a c.args.b) c.self.view_is
