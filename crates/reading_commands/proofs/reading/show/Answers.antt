use Rattle.stream_commands.specs.Listings.{IsListed}
use Rattle.reading_commands.proofs.Tellings.{broken_off}
use Rattle.reading_commands.proofs.reading.show.Goals as goal

pub returns-clause-broken_off : goal.returns-clause-broken_off
returns-clause-broken_off g c = λ e. broken_off (λ l. IsListed) IsListed (λ l found text h. h) _ _ _ _ _ _ _ (c.run_stream.ensures.broken_off e)
