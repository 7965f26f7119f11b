use Rattle.deck_tests.proofs.PlainOrders.{plain-story}
use Rattle.deck_tests.proofs.messages.story.Goals as goal

pub returns : goal.returns
returns c = plain-story c.args.id c.args.item c.new-story.result c.push_item.new.self c.new-story.ensures c.in_ok-push_item.ensures.ok c.requires
