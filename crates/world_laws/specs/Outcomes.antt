-- What a script's player is told of an event.
use Rattle.std.specs.Prelude.{ℕ, List as Listing, [], ◌∷◌, length}
use Rattle.mos_edits.specs.Texts.{Text}
use Rattle.mos_machines.specs.Messages.{Message, Tag, status_text}
use Rattle.mos_machines.specs.Messages.Message.{Heartbeat as BeatMessage, RoAck, RoReq, RoReqAll, RoList, RoListAll}
use Rattle.mos_machines.specs.Messages.Tag.{OfEntry, OfAgain, OfScript, OfList}
use Rattle.mos_machines.specs.Messages.Step.{Taken as IsTaken, Unasked as IsUnasked}
use Rattle.world_laws.specs.World.{World, WorldEvent, Effect, world_step}
use Rattle.world_laws.specs.World.Effect.{Impossible as IsImpossible, Commanded, Connected, Performed, NothingSent, Wrote, Stepped}

pub data Outcome : Type 0 where
  Impossible : Outcome
  Done : Outcome
  Connection : (c : ℕ) → Outcome
  Nothing : Outcome
  Taken : Outcome
  Unasked : Outcome
  Heartbeat : Outcome
  Edit : (ro : Text) (k : ℕ) → Outcome
  Again : (ro : Text) (m : ℕ) → Outcome
  Script : (ro : Text) (k m : ℕ) → Outcome
  AskAll : Outcome
  Ask : (ro : Text) → Outcome
  ListAll : (n : ℕ) → Outcome
  List : (ro : Text) (m : ℕ) → Outcome
  Ack : (ro text : Text) → Outcome
  Command : (text : Text) → Outcome

-- A message that was written. No end writes a message that isn't told apart here; such a one would be `Nothing`.
abbrev pub written : Tag → Message → Outcome
written (OfEntry r k) message = Edit r k
written (OfAgain r m) message = Again r m
written (OfScript r k m) message = Script r k m
written (OfList r m) (RoList q order) = List r m
written tag (BeatMessage time) = Heartbeat
written tag (RoAck r status) = Ack r (status_text status)
written tag (RoReq r) = Ask r
written tag RoReqAll = AskAll
written tag (RoListAll headers) = ListAll (length headers)
written tag message = Nothing

abbrev pub outcome_of : Effect → Outcome
outcome_of IsImpossible = Impossible
outcome_of (Commanded status) = Command (status_text status)
outcome_of (Connected c) = Connection c
outcome_of Performed = Done
outcome_of NothingSent = Nothing
outcome_of (Wrote p) = written p.tag p.message
outcome_of (Stepped IsTaken) = Taken
outcome_of (Stepped IsUnasked) = Unasked

-- the outcome of an event in a world
abbrev pub outcome : World → WorldEvent → Outcome
outcome w e = outcome_of (world_step w e).1

-- the outcomes of a run
abbrev pub outcomes : World → Listing WorldEvent → Listing Outcome
outcomes w [] = []
outcomes w (e ∷ es) = outcome w e ∷ outcomes (world_step w e).0 es
