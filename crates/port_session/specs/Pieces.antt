-- What one read came to.
use Rattle.std.specs.Prelude.{◌≡◌, ℕ, ◌≤◌, List, take, length, Option, Result, Ok, Err}
use Rattle.mos_io.specs.Bytes.{IsAtEnd, Takes}
use Rattle.mos_io.specs.Counts.{Rose}
use Rattle.port_session.specs.declared.end.End.{End}
use Rattle.port_session.specs.declared.end.End.TheVariants.{Closed, Truncated, BadMessage, ReadFault, WriteFault, Budget, Stale, Unasked, Stopped, NoMemory}

-- So many bytes at the front of the buffer were taken, at most as many as may be, and none only at the end; or the
-- connection ends, and none was taken.
abbrev pub ReadCame : Option (List ℕ) → Option (List ℕ) → ℕ → ℕ → ℕ → List ℕ → Result ℕ End → Type 0
ReadCame l l' f f' most buffer (Ok n) = (n ≤ most) × (n ≤ length buffer) × Takes l l' (take n buffer) × (n ≡ 0 → IsAtEnd l)
ReadCame l l' f f' most buffer (Err ReadFault) = Rose f f' × (l' ≡ l)
ReadCame l l' f f' most buffer (Err NoMemory) = l' ≡ l
ReadCame l l' f f' most buffer (Err Closed) = ⊥
ReadCame l l' f f' most buffer (Err (Truncated k)) = ⊥
ReadCame l l' f f' most buffer (Err (BadMessage k c)) = ⊥
ReadCame l l' f f' most buffer (Err WriteFault) = ⊥
ReadCame l l' f f' most buffer (Err Budget) = ⊥
ReadCame l l' f f' most buffer (Err Stale) = ⊥
ReadCame l l' f f' most buffer (Err Unasked) = ⊥
ReadCame l l' f f' most buffer (Err Stopped) = ⊥
