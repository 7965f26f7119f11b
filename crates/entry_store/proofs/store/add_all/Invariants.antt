use Rattle.std.proofs.Common.{◌≡◌, ◌++◌, take}
use Rattle.entry_store.proofs.store.add_all.Given as goal

abbrev pub invariant-entries : goal.invariant-entries
invariant-entries l = l.journal ≡ l.fn.journal ++ take l.entry-index l.entries
