-- What playing a script reads, tells and writes.
use Rattle.std.specs.Prelude.{◌≡◌, ℕ, List, ◌∷◌, ◌++◌, [], length, Option, codes, ◌⊎◌}
use Rattle.std.specs.Fmt.{decimal}
use Rattle.mos_io.specs.Bytes.{Appends, AppendsFront}
use Rattle.world_laws.specs.Outcomes.{Outcome, outcomes}
use Rattle.world_laws.specs.Safe.{IsSafe}
use Rattle.world_laws.specs.World.{World, WorldEvent, opening, run}
use Rattle.world_scripts.specs.Listing.{AreStateLines}
use Rattle.world_scripts.specs.Made.{made_events}
use Rattle.world_scripts.specs.Results.{event_lines, listing, summary}
use Rattle.world_scripts.specs.Scripts.{script_of}
use Rattle.world_scripts.specs.Scripts.Script.{RefusedAt}
use Rattle.world_stage.specs.Stages.{ShowsStage, ShowsWorld}
use Rattle.world_stage.specs.declared.play.Play.{Play}
use Rattle.script_reader.specs.Reading.{IsScriptRead, Reads, ReadsAll}

-- what a stage told of events over so many devices
abbrev pub Telling : Type 1
Telling = ℕ → List WorldEvent → List Outcome → Type 0

-- the world that is shown has these state lines
abbrev pub HasState : Option (Option Play) → List ℕ → Type 0
HasState shown state = (w : World) → ShowsStage shown w → AreStateLines w state

-- The input was read to its end and is a script; its events were played, one outcome was told of each, and what was told was
-- written, then the state lines of the world that is shown, and nothing else. A world is shown. The script's run is safe.
pub record IsReplayed (told : Telling) (shown : Option (Option Play)) (left_before left_after written_before written_after : Option (List ℕ)) : Type 0 where
  pub devices : ℕ
  pub events : List WorldEvent
  pub outcomes : List Outcome
  pub state : List ℕ
  pub script : IsScriptRead left_before left_after devices events
  pub tells : told devices events outcomes
  pub count : length outcomes ≡ length events
  pub shows : HasState shown state
  pub world : ShowsWorld shown
  pub writes : Appends written_before written_after (listing outcomes state)
  pub safe : IsSafe (opening devices) events

-- the line of a script that is refused
abbrev pub refused_line : ℕ → List ℕ
refused_line n = codes "REFUSED line " ++ decimal n ++ 10 ∷ []

-- Line `n` is none: what was read shows that, whatever follows, or was the whole input.
pub record IsRefusedAt (left_before left_after : Option (List ℕ)) (n : ℕ) : Type 0 where
  pub bytes : List ℕ
  pub refused : (Reads left_before left_after bytes × ((rest : List ℕ) → script_of (bytes ++ rest) ≡ RefusedAt n)) ⊎ (ReadsAll left_before left_after bytes × (script_of bytes ≡ RefusedAt n))

-- The script is refused at a line, which was written, and nothing else.
pub record IsScriptRefused (left_before left_after written_before written_after : Option (List ℕ)) : Type 0 where
  pub line : ℕ
  pub refused : IsRefusedAt left_before left_after line
  pub writes : Appends written_before written_after (refused_line line)

-- The events of `make N` were played, one outcome was told of each, and what was told was counted and written, then the state
-- lines of the world that is shown, and nothing else. A world is shown. Their run is safe.
pub record IsMade (told : Telling) (shown : Option (Option Play)) (n : ℕ) (written_before written_after : Option (List ℕ)) : Type 0 where
  pub outcomes : List Outcome
  pub state : List ℕ
  pub tells : told 2 (made_events n) outcomes
  pub count : length outcomes ≡ length (made_events n)
  pub shows : HasState shown state
  pub world : ShowsWorld shown
  pub writes : Appends written_before written_after (summary outcomes state)
  pub safe : IsSafe (opening 2) (made_events n)

-- ---- on a stage that plays the world's definition

-- This is the listing of the script's run, and nothing else.
pub record IsListed (left_before left_after written_before written_after : Option (List ℕ)) : Type 0 where
  pub devices : ℕ
  pub events : List WorldEvent
  pub state : List ℕ
  pub script : IsScriptRead left_before left_after devices events
  pub lines : AreStateLines (run (opening devices) events) state
  pub writes : Appends written_before written_after (listing (outcomes (opening devices) events) state)
  pub safe : IsSafe (opening devices) events

-- This is the summary of `make N`, and nothing else.
pub record IsSummed (n : ℕ) (written_before written_after : Option (List ℕ)) : Type 0 where
  pub state : List ℕ
  pub lines : AreStateLines (run (opening 2) (made_events n)) state
  pub writes : Appends written_before written_after (summary (outcomes (opening 2) (made_events n)) state)
  pub safe : IsSafe (opening 2) (made_events n)

-- ---- on the way

-- A line for each event was written.
pub record HasLines (told : Telling) (devices : ℕ) (events : List WorldEvent) (text : List ℕ) : Type 0 where
  pub outcomes : List Outcome
  pub tells : told devices events outcomes
  pub count : length outcomes ≡ length events
  pub lines : text ≡ event_lines 1 outcomes

-- the text is the listing of events of which one outcome each was told, with the state lines of the world that is shown
pub record IsListingOf (told : Telling) (shown : Option (Option Play)) (devices : ℕ) (events : List WorldEvent) (text : List ℕ) : Type 0 where
  pub outcomes : List Outcome
  pub state : List ℕ
  pub tells : told devices events outcomes
  pub count : length outcomes ≡ length events
  pub shows : HasState shown state
  pub world : ShowsWorld shown
  pub text_is : text ≡ listing outcomes state

-- the same of a summary
pub record IsSummaryOf (told : Telling) (shown : Option (Option Play)) (devices : ℕ) (events : List WorldEvent) (text : List ℕ) : Type 0 where
  pub outcomes : List Outcome
  pub state : List ℕ
  pub tells : told devices events outcomes
  pub count : length outcomes ≡ length events
  pub shows : HasState shown state
  pub world : ShowsWorld shown
  pub text_is : text ≡ summary outcomes state

-- ---- where the sink fails

-- what is written of a script that was read: its listing, or the line that refuses it
abbrev pub IsReplayText : Telling → Option (Option Play) → Option (List ℕ) → Option (List ℕ) → List ℕ → Type 0
IsReplayText told shown left_before left_after text =
    ((devices : ℕ) × (events : List WorldEvent) × IsScriptRead left_before left_after devices events × IsListingOf told shown devices events text) ⊎ ((line : ℕ) × IsRefusedAt left_before left_after line × (text ≡ refused_line line))

-- A part of that was written, and nothing else.
pub record IsReplayBroken (told : Telling) (shown : Option (Option Play)) (left_before left_after written_before written_after : Option (List ℕ)) : Type 0 where
  pub text : List ℕ
  pub text_is : IsReplayText told shown left_before left_after text
  pub writes_part : AppendsFront written_before written_after text

-- A part of the summary of `make N` was written, and nothing else.
pub record IsMadeBroken (told : Telling) (shown : Option (Option Play)) (n : ℕ) (written_before written_after : Option (List ℕ)) : Type 0 where
  pub text : List ℕ
  pub text_is : IsSummaryOf told shown 2 (made_events n) text
  pub writes_part : AppendsFront written_before written_after text
