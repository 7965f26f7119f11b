use Rattle.port_session.proofs.Drivings.{driven_within, driving_none}
use Rattle.port_session.proofs.Readings.{reads_none}
use Rattle.port_session.proofs.driving.drive_source.Goals as goal

pub drive_all-end-requires-clause-driving : goal.drive_all-end-requires-clause-driving
drive_all-end-requires-clause-driving g c = driving_none _ _ _ _ _ _ _ _ _ (reads_none _ _ _ _ _ _ c.new-inlet.ensures.nothing c.new-inlet.ensures.rejection c.new-inlet.ensures.count)

pub returns-clause-driven : goal.returns-clause-driven
returns-clause-driven g c = driven_within _ _ _ _ _ _ _ _ _ _ _ _ _ c.new-inlet.ensures.budget c.drive_all-end.ensures.driven
