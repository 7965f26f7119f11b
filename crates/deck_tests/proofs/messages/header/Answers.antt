use Rattle.deck_tests.proofs.PlainOrders.{plain-header}
use Rattle.deck_tests.proofs.messages.header.Goals as goal

pub returns : goal.returns
returns c = plain-header c.in_ok-ro.ro c.in_ok-slug.slug c.new.result c.new-2.result c.new.ensures c.new-2.ensures
