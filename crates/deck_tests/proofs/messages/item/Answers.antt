use Rattle.deck_tests.proofs.PlainOrders.{plain-item}
use Rattle.deck_tests.proofs.messages.item.Goals as goal

pub returns : goal.returns
returns c = plain-item c.in_ok-id.id c.in_ok-obj.obj c.in_ok-mos.mos c.new.result c.new-2.result c.new.ensures c.new-2.ensures
