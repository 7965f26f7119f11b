use Rattle.mos_edits.proofs.Swaps.{swap-twice}
use Rattle.mos_edits.proofs.lists.swap_twice_changes_nothing.Goals as goal

pub returns : goal.returns
returns c = record { of_stories = swap-twice (λ s. s.id); of_items = swap-twice (λ i. i.id) }
