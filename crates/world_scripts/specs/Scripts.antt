-- Whole scripts.
use Rattle.std.specs.Prelude.{ℕ, ◌+◌, List, [], ◌∷◌, take, drop, Option, Some, None, if◌then◌else◌, ◌==◌, ◌&&◌, nat_le, nat_lt, bytes_eq, codes}
use Rattle.std.specs.List.{slice_split}
use Rattle.world_laws.specs.World.{WorldEvent}
use Rattle.script_edits.specs.Words.{number_of}
use Rattle.world_scripts.specs.Events.{event_in}

-- ---- the first line

-- the most devices
abbrev pub device_limit : ℕ
device_limit = 9

-- a number of devices, from 1 on
abbrev pub allowed_devices : Option ℕ → Option ℕ
allowed_devices None = None
allowed_devices (Some d) = if nat_le 1 d && nat_le d device_limit then Some d else None

-- what the first line begins with
abbrev pub devices_word : List ℕ
devices_word = codes "devices "

-- The number of devices that the first line sets, without its line feed.
abbrev pub devices_in : List ℕ → Option ℕ
devices_in line = if bytes_eq devices_word (take 8 line) then allowed_devices (number_of (drop 8 line)) else None

-- ---- all lines

-- A script: its devices and its events; or the number of the first line that is none, from 1.
pub data Script : Type 0 where
  Plays : (devices : ℕ) (events : List WorldEvent) → Script
  RefusedAt : (line : ℕ) → Script

-- what is read of the lines behind the first: events, or the number of a line that is none
pub data Rest : Type 0 where
  Reads : (events : List WorldEvent) → Rest
  StopsAt : (line : ℕ) → Rest

-- the most lines
abbrev pub lines_limit : ℕ
lines_limit = 200000

abbrev pub then_rest : WorldEvent → Rest → Rest
then_rest e (Reads events) = Reads (e ∷ events)
then_rest e (StopsAt n) = StopsAt n

-- line `n` with the event that it is, and what is read of the lines behind it
abbrev pub with_event : ℕ → Option WorldEvent → Rest → Rest
with_event n None rest = StopsAt n
with_event n (Some e) rest = if nat_lt lines_limit n then StopsAt n else then_rest e rest

-- what stands behind the last line feed has to be nothing
abbrev pub last_part : ℕ → List ℕ → Rest
last_part n [] = Reads []
last_part n (b ∷ bs) = StopsAt n

-- Lines from number `n` on, each ended by a line feed, and what stands behind the last one.
abbrev pub rest_of : ℕ → List (List ℕ) → Rest
rest_of n [] = Reads []
rest_of n (part ∷ []) = last_part n part
rest_of n (line ∷ part ∷ parts) = with_event n (event_in line) (rest_of (n + 1) (part ∷ parts))

abbrev pub with_devices : Option ℕ → Rest → Script
with_devices None rest = RefusedAt 1
with_devices (Some d) (Reads events) = Plays d events
with_devices (Some d) (StopsAt n) = RefusedAt n

-- a script without its first line is none
abbrev pub parts_script : List (List ℕ) → Script
parts_script [] = RefusedAt 1
parts_script (part ∷ []) = RefusedAt 1
parts_script (line ∷ part ∷ parts) = with_devices (devices_in line) (rest_of 2 (part ∷ parts))

-- The script that bytes are.
abbrev pub script_of : List ℕ → Script
script_of bytes = parts_script (slice_split (λ b. b == 10) bytes)
