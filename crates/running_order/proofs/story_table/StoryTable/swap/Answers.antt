use Rattle.std.proofs.Common.{map, ap, sym, subst, ◌∙◌, swap}
use Rattle.indexmap.proofs.ReorderLemmas.{map-swap}
use Rattle.running_order.specs.Entries.{AreEntries}
use Rattle.running_order.proofs.Entries.{keyed_swap}
use Rattle.running_order.proofs.story_table.StoryTable.swap.Goals as goal

pub invariant_of-self : goal.invariant_of-self
invariant_of-self c = subst AreEntries (sym c.swap_indices.ensures.entries) (keyed_swap (λ k. k.items) (λ s. s.id) c.self.inside.table.entries c.args.a c.args.b c.self.invariant)

pub returns : goal.returns
returns c = ap (map (λ e. e.1)) c.swap_indices.ensures.entries ∙ map-swap (λ e. e.1) c.self.inside.table.entries c.args.a c.args.b ∙ ap (λ l. swap l c.args.a c.args.b) c.self.view_is
