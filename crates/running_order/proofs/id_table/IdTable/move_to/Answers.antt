use Rattle.std.proofs.Common.{map, ap, sym, ◌∙◌}
use Rattle.indexmap.specs.IndexMap.{move_index}
use Rattle.mos_fields.specs.Characters.{units_of, chars_of}
use Rattle.indexmap.proofs.SetLemmas.{map-move}
use Rattle.running_order.proofs.id_table.IdTable.move_to.Goals as goal

pub invariant_of-self : goal.invariant_of-self
invariant_of-self c =
    let keys = c.self.inside.set.keys in
    ap (λ l. map (λ us. units_of (chars_of us)) (map (λ k. k.items) l)) c.move_index.ensures.keys
    ∙ ap (map (λ us. units_of (chars_of us))) (map-move (λ k. k.items) keys c.args.from c.args.to)
    ∙ map-move (λ us. units_of (chars_of us)) (map (λ k. k.items) keys) c.args.from c.args.to
    ∙ ap (λ l. move_index l c.args.from c.args.to) c.self.invariant
    ∙ sym (map-move (λ k. k.items) keys c.args.from c.args.to)
    ∙ ap (map (λ k. k.items)) (sym c.move_index.ensures.keys)

pub returns : goal.returns
returns c =
    ap (map (λ k. chars_of k.items)) c.move_index.ensures.keys ∙ map-move (λ k. chars_of k.items) c.self.inside.set.keys c.args.from c.args.to
    ∙ ap (λ l. move_index l c.args.from c.args.to) c.self.view_is
