-- What one write came to.
use Rattle.std.specs.Prelude.{◌≡◌, ℕ, List, Option, Result, Ok, Err}
use Rattle.mos_io.specs.Bytes.{Appends, AppendsFront}
use Rattle.mos_io.specs.Counts.{Rose}
use Rattle.port_session.specs.declared.end.End.{End}
use Rattle.port_session.specs.declared.end.End.TheVariants.{Closed, Truncated, BadMessage, ReadFault, WriteFault, Budget, Stale, Unasked, Stopped, NoMemory}

-- A part was added and the sink's count rose, or nothing was added for want of memory.
abbrev pub WriteEnds : Option (List ℕ) → Option (List ℕ) → ℕ → ℕ → List ℕ → End → Type 0
WriteEnds k k' n n' bytes WriteFault = AppendsFront k k' bytes × Rose n n'
WriteEnds k k' n n' bytes NoMemory = k' ≡ k
WriteEnds k k' n n' bytes Closed = ⊥
WriteEnds k k' n n' bytes (Truncated m) = ⊥
WriteEnds k k' n n' bytes (BadMessage m c) = ⊥
WriteEnds k k' n n' bytes ReadFault = ⊥
WriteEnds k k' n n' bytes Budget = ⊥
WriteEnds k k' n n' bytes Stale = ⊥
WriteEnds k k' n n' bytes Unasked = ⊥
WriteEnds k k' n n' bytes Stopped = ⊥

-- all was added, or the connection ends
abbrev pub WriteCame : Option (List ℕ) → Option (List ℕ) → ℕ → ℕ → List ℕ → Result (Unit {0}) End → Type 0
WriteCame k k' n n' bytes (Ok u) = Appends k k' bytes
WriteCame k k' n n' bytes (Err end) = WriteEnds k k' n n' bytes end
