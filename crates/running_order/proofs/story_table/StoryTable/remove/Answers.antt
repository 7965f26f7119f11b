use Rattle.std.proofs.Common.{map, ap, sym, subst, ◌∙◌, remove}
use Rattle.indexmap.proofs.SetLemmas.{map-remove}
use Rattle.running_order.specs.Entries.{AreEntries}
use Rattle.running_order.proofs.Entries.{keyed_remove}
use Rattle.running_order.proofs.story_table.StoryTable.remove.Goals as goal

pub invariant_of-self : goal.invariant_of-self
invariant_of-self c = subst AreEntries (sym c.shift_remove_index.ensures.entries) (keyed_remove (λ k. k.items) (λ s. s.id) c.self.inside.table.entries c.args.at c.self.invariant)

pub returns : goal.returns
returns c = ap (map (λ e. e.1)) c.shift_remove_index.ensures.entries ∙ map-remove (λ e. e.1) c.self.inside.table.entries c.args.at ∙ ap (λ l. remove l c.args.at) c.self.view_is
