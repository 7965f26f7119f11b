use Rattle.std.proofs.Common.{◌≡◌, take}
use Rattle.rundown_log.proofs.mem_keeper.copies.Given as goal

abbrev pub invariant-kept : goal.invariant-kept
invariant-kept l = l.entries ≡ take l.entry-index l.kept
