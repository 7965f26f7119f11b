use Rattle.mos_codec.proofs.whole.push_message.Goals as goal

pub returns-in-Ok-clause-more : goal.returns-in-Ok-clause-more
returns-in-Ok-clause-more c = record { placed = c.in_ok-placed.placed; more = c.in-Ok.ensures.items; events = c.in_ok-placed.ensures.events; ready = c.in_ok-placed.ensures.ready }
