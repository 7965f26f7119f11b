use Rattle.std.proofs.Common.{map, ap, sym, subst, ◌∙◌}
use Rattle.indexmap.specs.IndexMap.{move_index}
use Rattle.indexmap.proofs.SetLemmas.{map-move}
use Rattle.running_order.specs.Entries.{AreEntries}
use Rattle.running_order.proofs.Entries.{keyed_move}
use Rattle.running_order.proofs.story_table.StoryTable.move_to.Goals as goal

pub invariant_of-self : goal.invariant_of-self
invariant_of-self c = subst AreEntries (sym c.move_index.ensures.entries) (keyed_move (λ k. k.items) (λ s. s.id) c.self.inside.table.entries c.args.from c.args.to c.self.invariant)

pub returns : goal.returns
returns c = ap (map (λ e. e.1)) c.move_index.ensures.entries ∙ map-move (λ e. e.1) c.self.inside.table.entries c.args.from c.args.to ∙ ap (λ l. move_index l c.args.from c.args.to) c.self.view_is
