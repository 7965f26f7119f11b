use Rattle.std.proofs.Common.{refl}
use Rattle.mos_machines.proofs.server.stale_links_leave_the_server.Goals as goal

pub returns : goal.returns
returns c = record { cut = λ fails s d c h. rw h refl; answer = λ fails s d c m h. rw h refl; next = λ fails s d c now h. rw h refl; dropped = λ fails s d c h. rw h refl; heard = λ fails s d c m h. rw h refl }
