-- What a reader of a script holds, and what it has come to of the bytes that it was fed.
use Rattle.std.specs.Prelude.{◌≡◌, ℕ, ◌+◌, ◌≤◌, ◌<◌, false, ◌==◌, List, [], ◌∷◌, ◌++◌, length, take, drop, Option, Some, None, Result, Ok, Err}
use Rattle.std.specs.Borrow.{Bor}
use Rattle.std.specs.List.{AllByRecursion, slice_split}
use Rattle.world_scripts.specs.WorldEvents.{HasSoundEdit, event_of, events_of}
use Rattle.world_scripts.specs.declared.world_event.WorldEvent.{WorldEvent as HeldEvent}
use Rattle.world_laws.specs.World.{WorldEvent}
use Rattle.world_scripts.specs.Events.{event_in, line_limit}
use Rattle.world_scripts.specs.Scripts.{Script, Plays, RefusedAt, Rest, StopsAt, device_limit, devices_in, lines_limit, then_rest, with_event, rest_of, with_devices, parts_script, script_of}
use Rattle.script_reader.specs.declared.fault.ScriptFault.{ScriptFault}
use Rattle.script_reader.specs.declared.fault.ScriptFault.TheVariants as faults
use Rattle.script_reader.specs.declared.script.Script.{Script as Held}
use Rattle.script_reader.specs.Reading.{ReadsAll, ShowsRefused}

-- ---- lines

-- bytes, cut at their line feeds
abbrev pub lines_of : List ℕ → List (List ℕ)
lines_of bytes = slice_split (λ b. b == 10) bytes

-- no line feed stands in these bytes
abbrev pub HasNoEnd : List ℕ → Type 0
HasNoEnd bytes = AllByRecursion (λ b. (b == 10) ≡ false) bytes

-- the first line feed stands at this place; or there is none
abbrev pub IsEnd : List ℕ → Option ℕ → Type 0
IsEnd bytes None = HasNoEnd bytes
IsEnd bytes (Some at) = HasNoEnd (take at bytes) × (at < length bytes) × (drop at bytes ≡ 10 ∷ drop (at + 1) bytes)

-- the first line without its line feed, and what stands behind it; or that no line feed stands in these bytes
abbrev pub IsCut : List ℕ → Option (Bor (List ℕ) × Bor (List ℕ)) → Type 0
IsCut bytes None = HasNoEnd bytes
IsCut bytes (Some (line, behind)) = HasNoEnd line.now × (bytes ≡ line.now ++ 10 ∷ behind.now)

-- ---- readers

-- What a reader holds: the bytes of a line that isn't ended, the number of devices once the first line was read, and the
-- events of the lines behind it.
pub record Reader : Type 0 where
  pub line : List ℕ
  pub devices : Option ℕ
  pub events : List WorldEvent

-- the number of the line that isn't ended, from 1, behind so many events
abbrev pub number_behind : Option ℕ → ℕ → ℕ
number_behind None count = 1
number_behind (Some d) count = count + 2

abbrev pub line_number : Reader → ℕ
line_number r = number_behind r.devices (length r.events)

-- a number of devices that a script may have, if there is one
abbrev pub IsAllowed : Option ℕ → Type 0
IsAllowed None = Unit {0}
IsAllowed (Some d) = (1 ≤ d) × (d ≤ device_limit)

-- without a first line there is no event
abbrev pub IsBegun : Option ℕ → List WorldEvent → Type 0
IsBegun None events = events ≡ []
IsBegun (Some d) events = Unit {0}

-- what every reader keeps to: it holds one line of a script at most, and events of lines that a script may have
pub record IsReader (r : Reader) : Type 0 where
  pub no_end : HasNoEnd r.line
  pub short : length r.line ≤ line_limit
  pub allowed : IsAllowed r.devices
  pub begun : IsBegun r.devices r.events
  pub few : length r.events + 1 ≤ lines_limit
  pub sound : AllByRecursion HasSoundEdit r.events

-- ---- what a reader has come to

-- events, and what is read behind them
abbrev pub then_events : List WorldEvent → Rest → Rest
then_events [] rest = rest
then_events (e ∷ es) rest = then_rest e (then_events es rest)

-- the script of lines behind those that were read
abbrev pub script_behind : Option ℕ → List WorldEvent → List (List ℕ) → Script
script_behind None events parts = parts_script parts
script_behind (Some d) events parts = with_devices (Some d) (then_events events (rest_of (length events + 2) parts))

-- The reader was fed these bytes: whatever follows them, the script is that of what it holds and of what follows.
abbrev pub HasRead : Reader → List ℕ → Type 0
HasRead r bytes = (rest : List ℕ) → script_of (bytes ++ rest) ≡ script_behind r.devices r.events (lines_of (r.line ++ rest))

-- what feeding bytes comes to, where these are all that were fed
abbrev pub Feeds : List ℕ → Reader → Result (Unit {0}) ScriptFault → Type 0
Feeds bytes r (Ok done) = HasRead r bytes
Feeds bytes r (Err (faults.Refused n)) = ShowsRefused bytes n
Feeds bytes r (Err faults.ReadFault) = ⊥
Feeds bytes r (Err faults.NoMemory) = Unit {0}

-- what the first line comes to
abbrev pub IsFirstLine : List ℕ → Result ℕ ScriptFault → Type 0
IsFirstLine line (Ok d) = (devices_in line ≡ Some d) × IsAllowed (Some d)
IsFirstLine line (Err k) = (k ≡ faults.Refused 1) × (devices_in line ≡ None)

-- what a line comes to that is not the first one, of this number, if it is an event that stands in a script
abbrev pub IsEventLine : List ℕ → ℕ → Result HeldEvent ScriptFault → Type 0
IsEventLine line n (Ok e) = (n ≤ lines_limit) × ((rest : Rest) → with_event n (event_in line) rest ≡ then_rest (event_of e) rest)
IsEventLine line n (Err (faults.Refused k)) = (k ≡ n) × ((rest : Rest) → with_event n (event_in line) rest ≡ StopsAt n)
IsEventLine line n (Err faults.ReadFault) = ⊥
IsEventLine line n (Err faults.NoMemory) = Unit {0}

-- what the end of the input comes to, where these bytes are all that were fed
abbrev pub Ends : List ℕ → Result Held ScriptFault → Type 0
Ends bytes (Ok s) = script_of bytes ≡ Plays s.devices (events_of s.events)
Ends bytes (Err (faults.Refused n)) = script_of bytes ≡ RefusedAt n
Ends bytes (Err k) = ⊥

-- the input was read to its end, and the reader was fed it
pub record IsFed (left_before left_after : Option (List ℕ)) (r : Reader) : Type 0 where
  pub bytes : List ℕ
  pub reads : ReadsAll left_before left_after bytes
  pub read : HasRead r bytes
