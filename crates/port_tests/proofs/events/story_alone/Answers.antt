use Rattle.port_tests.proofs.PlainOrders.{plain-stories}
use Rattle.port_tests.proofs.events.story_alone.Goals as goal

pub returns-clause-sound : goal.returns-clause-sound
returns-clause-sound c = plain-stories c.in_ok-id.id c.new-stories.result c.push.new.self c.new.result c.new-stories.ensures c.new.ensures c.in_ok-push.ensures.ok
