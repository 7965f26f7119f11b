-- Outcomes in memory, as the world's definitions see them.
use Rattle.world_laws.specs.Outcomes.{Outcome as outcomes}
use Rattle.world_scripts.specs.declared.outcome.Outcome.{Outcome}
use Rattle.world_scripts.specs.declared.outcome.Outcome.TheVariants as held

-- what came of an event
abbrev pub outcome_of : Outcome → outcomes
outcome_of held.Impossible = outcomes.Impossible
outcome_of held.Done = outcomes.Done
outcome_of (held.Connection c) = outcomes.Connection c
outcome_of held.Nothing = outcomes.Nothing
outcome_of held.Taken = outcomes.Taken
outcome_of held.Unasked = outcomes.Unasked
outcome_of held.Heartbeat = outcomes.Heartbeat
outcome_of (held.Edit ro k) = outcomes.Edit ro k
outcome_of (held.Again ro m) = outcomes.Again ro m
outcome_of (held.Script ro k m) = outcomes.Script ro k m
outcome_of held.AskAll = outcomes.AskAll
outcome_of (held.Ask ro) = outcomes.Ask ro
outcome_of (held.ListAll n) = outcomes.ListAll n
outcome_of (held.List ro m) = outcomes.List ro m
outcome_of (held.Ack ro text) = outcomes.Ack ro text
outcome_of (held.Command text) = outcomes.Command text
