use Rattle.deck_tests.proofs.PlainOrders.{plain-body}
use Rattle.deck_tests.proofs.messages.long_body.Goals as goal

pub returns : goal.returns
returns c = plain-body c.in_ok-body.body c.push_story.new.self _ c.in_ok-push_story.ensures.ok c.in_ok-body.ensures c.in_ok-story_b.ensures
