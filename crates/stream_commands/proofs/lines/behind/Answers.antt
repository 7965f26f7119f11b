use Rattle.stream_commands.proofs.TextLemmas.{events_behind, no_events_behind}
use Rattle.stream_commands.proofs.lines.behind.Goals as goal

pub returns-then-count-events : goal.returns-then-count-events
returns-then-count-events c = events_behind c.args.events.now c.args.count
