use Rattle.std.proofs.Common.{string_bytes, sym}
use Rattle.state_listing.proofs.OrderWords.{story-told, none-told}
use Rattle.state_listing.proofs.orders.add_story_at.Goals as goal

pub returns-in-Some : goal.returns-in-Some
returns-in-Some c = story-told c.add_story.result c.args.order.now (string_bytes c.args.line.now) (string_bytes c.add_story.new.line) c.args.order.now.stories c.args.place c.in-Some.story.now (sym c.in-Some.ensures) c.add_story.ensures

pub returns-in-None : goal.returns-in-None
returns-in-None c = none-told c.args.order.now (string_bytes c.args.line.now) c.args.order.now.stories c.args.place (sym c.in-None.ensures)
