use Rattle.port_session.proofs.Answerings.{ended_within, going_none}
use Rattle.port_session.proofs.Readings.{reads_none}
use Rattle.port_session.proofs.answering.serve_source.Goals as goal

pub serve_all-end-requires-clause-going : goal.serve_all-end-requires-clause-going
serve_all-end-requires-clause-going g c = going_none _ _ _ _ _ _ _ _ _ (reads_none _ _ _ _ _ _ c.new-inlet.ensures.nothing c.new-inlet.ensures.rejection c.new-inlet.ensures.count)

pub returns-clause-ended : goal.returns-clause-ended
returns-clause-ended g c = ended_within _ _ _ _ _ _ _ _ _ _ _ _ _ c.new-inlet.ensures.budget c.serve_all-end.ensures.ended
