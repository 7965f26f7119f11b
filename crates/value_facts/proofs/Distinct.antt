-- Stories whose items have IDs of their own.
use Rattle.std.proofs.Common.{List, [], ◌∷◌}
use Rattle.std.specs.List.{AllByRecursion}
use Rattle.mos_values.specs.StoryValue.{Story}
use Rattle.encoding_laws.specs.Identifiers.{HasDistinctItems}
use Rattle.value_facts.specs.FitValues.{AreFitStories}

pub stories_distinct : (stories : List Story) → AreFitStories stories → AllByRecursion HasDistinctItems stories
stories_distinct [] h = tt
stories_distinct (s ∷ stories) h = (h.0.6, stories_distinct stories h.1)
