-- A spawner that keeps jobs may go to another thread where its jobs may.
use denote.RattleType.{RattleType}
use denote.Param.Send.{IsSend, sendable}
use Rattle.std.proofs.Crossing.{crosses}
use Rattle.port_links.specs.declared.job.Job as jobs
use Rattle.port_links.specs.contracts.mem_spawner.MemSpawner as spawner

pub crew_send : (J T : RattleType) (k : jobs.Ghosts J.Denot T.Denot) → IsSend J → IsSend (spawner.the_row J T k)
crew_send J T k j = search (sendable, crosses) depth 30
