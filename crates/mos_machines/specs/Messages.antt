-- What the two machines say to each other, as plain data.
use Rattle.std.specs.Prelude.{codes, ℕ, List, [], ◌++◌, take, Bool, false, Option, Some, None, if◌then◌else◌, ◌==◌}
use Rattle.mos_edits.specs.Texts.{Text, same_id}
use Rattle.mos_edits.specs.KeyedLists.{ActFault}
use Rattle.mos_edits.specs.KeyedLists.ActFault.{Missing, AlreadyThere}
use Rattle.mos_edits.specs.Orders.{OrderBody, HeaderPatch}
use Rattle.mos_edits.specs.Entries.{Entry}
use Rattle.mos_fields.specs.declared.time.MosTime.{MosTime}

-- The status of a roAck. `OtherStatus` is any text that no end writes; a reader gives it also for the texts that it
-- has no use for.
pub data Status : Type 0 where
  Okay : Status
  NoDeck : Status
  NotInStep : Status
  Faulty : (fault : ActFault) → Status
  Full : (units : ℕ) → Status
  StoreFault : Status
  Stopped : Status
  NotNow : Status
  NoRunningOrder : Status
  NotSupported : Status
  OtherStatus : (text : Text) → Status

-- a status that carries an identifier is cut to the characters that a status may have
abbrev pub status_limit : ℕ
status_limit = 128

-- the texts of faults
abbrev pub fault_text : ActFault → Text
fault_text (Missing id) = take status_limit (codes "MISSING " ++ id)
fault_text (AlreadyThere id) = take status_limit (codes "ALREADY THERE " ++ id)

-- the texts
abbrev pub status_text : Status → Text
status_text Okay = codes "OK"
status_text NoDeck = codes "NO DECK"
status_text NotInStep = codes "NOT IN STEP"
status_text (Faulty f) = fault_text f
status_text (Full units) = codes "FULL"
status_text StoreFault = codes "STORE FAULT"
status_text Stopped = codes "STOPPED"
status_text NotNow = codes "NOT NOW"
status_text NoRunningOrder = codes "NO RUNNING ORDER"
status_text NotSupported = codes "NOT SUPPORTED"
status_text (OtherStatus text) = text

-- what a reader makes of a status: it tells apart the three that it acts on
abbrev pub read_status : Text → Status
read_status text =
    if same_id text (status_text Okay)
    then Okay
    else (if same_id text (status_text NoDeck) then NoDeck else (if same_id text (status_text NoRunningOrder) then NoRunningOrder else OtherStatus text))

-- A message. `RoEdit` is any of the seven kinds of edit. `OtherMessage` is any
-- message that the machines don't act on, with its roID, or an empty one where it has none.
pub data Message : Type 0 where
  Heartbeat : (time : MosTime) → Message
  RoEdit : (entry : Entry) → Message
  RoAck : (ro : Text) (status : Status) → Message
  RoReq : (ro : Text) → Message
  RoReqAll : Message
  RoList : (ro : Text) (order : OrderBody) → Message
  RoListAll : (headers : List HeaderPatch) → Message
  RoElementStat : (ro : Text) → Message
  OtherMessage : (ro : Text) → Message

-- the roID that a message has, or an empty one
abbrev pub message_ro : Message → Text
message_ro (Heartbeat time) = []
message_ro (RoEdit e) = e.ro
message_ro (RoAck r status) = r
message_ro (RoReq r) = r
message_ro RoReqAll = []
message_ro (RoList r order) = r
message_ro (RoListAll headers) = []
message_ro (RoElementStat r) = r
message_ro (OtherMessage r) = r

-- roAck `NOT SUPPORTED`
abbrev pub not_supported : Message → Message
not_supported m = RoAck (message_ro m) Status.NotSupported

-- What no byte carries: entry `k` of an order, the READY before entry `m` sent again, the script of entry `k` sent again after
-- a list of `m` entries, or a list of an order after `m` entries (also where there is none).
pub data Tag : Type 0 where
  Untagged : Tag
  OfEntry : (ro : Text) (k : ℕ) → Tag
  OfAgain : (ro : Text) (m : ℕ) → Tag
  OfScript : (ro : Text) (k m : ℕ) → Tag
  OfList : (ro : Text) (m : ℕ) → Tag

-- a message as the world carries it
pub record Packet : Type 0 where
  pub message : Message
  pub tag : Tag

abbrev pub untagged : Message → Packet
untagged m = record { message = m; tag = Untagged }

-- whether an answer was asked for
pub data Step : Type 0 where
  Taken : Step
  Unasked : Step

-- whether a link is the current one
abbrev pub is_link : Option ℕ → ℕ → Bool
is_link None c = false
is_link (Some b) c = b == c
