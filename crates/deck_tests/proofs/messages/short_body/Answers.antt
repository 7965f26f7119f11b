use Rattle.deck_tests.proofs.PlainOrders.{empty-body, plain-body}
use Rattle.deck_tests.proofs.messages.short_body.Goals as goal

pub returns : goal.returns
returns c = plain-body c.new-body.result c.push_story.new.self _ c.in_ok-push_story.ensures.ok (empty-body _ c.new-body.result c.new-body.ensures c.in_ok-header.ensures) c.in_ok-story_a.ensures
