-- Words for worked runs: names and texts, the stories of a script, and a session that is opened.
use Rattle.std.proofs.Common.{◌≡◌, List, [], ◌∷◌, None, refl}
use Rattle.std.specs.Prelude.{codes}
use Rattle.mos_edits.specs.Texts.{Text, same_id}
use Rattle.mos_edits.specs.Orders.{OrderBody, Story, Item, apply}
use Rattle.mos_edits.specs.declared.edit.Edit.TheVariants.{Create}
use Rattle.mos_edits.specs.Entries.{over_limit}
use Rattle.world_laws.specs.World.{World, WorldEvent, opening, run, own_time}
use Rattle.world_laws.specs.World.WorldEvent.{Command, AtDevice}
use Rattle.world_laws.specs.World.PairingEvent.{OpenTo, Accept, Send, Read, Back, Dial, Admit, Ask, Hear, Got}
use Rattle.world_laws.specs.Outcomes.{Outcome, outcomes}

-- `A`
abbrev pub a : Text
a = codes "A"

-- `B`
abbrev pub b : Text
b = codes "B"

-- `C`
abbrev pub c : Text
c = codes "C"

-- `D`
abbrev pub d : Text
d = codes "D"

-- `E`
abbrev pub e : Text
e = codes "E"

-- `q`
abbrev pub q : Text
q = codes "q"

-- `r`
abbrev pub r : Text
r = codes "r"

-- `x`
abbrev pub x : Text
x = codes "x"

-- `y`
abbrev pub y : Text
y = codes "y"

-- `z`
abbrev pub z : Text
z = codes "z"

-- `OK`
abbrev pub okay : Text
okay = codes "OK"

-- `MISSING A`
abbrev pub missing_a : Text
missing_a = codes "MISSING A"

-- `MISSING B`
abbrev pub missing_b : Text
missing_b = codes "MISSING B"

-- `MISSING z`
abbrev pub missing_z : Text
missing_z = codes "MISSING z"

-- `ALREADY THERE C`
abbrev pub there_c : Text
there_c = codes "ALREADY THERE C"

-- `ALREADY THERE D`
abbrev pub there_d : Text
there_d = codes "ALREADY THERE D"

-- `NOT NOW`
abbrev pub not_now : Text
not_now = codes "NOT NOW"

-- `NOT IN STEP`
abbrev pub not_in_step : Text
not_in_step = codes "NOT IN STEP"

-- `NO RUNNING ORDER`
abbrev pub no_running_order : Text
no_running_order = codes "NO RUNNING ORDER"

-- `STORE FAULT`
abbrev pub store_fault : Text
store_fault = codes "STORE FAULT"

-- `STOPPED`
abbrev pub stopped : Text
stopped = codes "STOPPED"

-- an item with that identifier, of a device `m1`
abbrev pub item : Text → Item
item id = record {
  id = id;
  slug = None;
  obj = id;
  mos = codes "m1";
  mos_abstract = None;
  obj_paths = None;
  channel = None;
  ed_start = None;
  ed_dur = None;
  user_timing_dur = None;
  trigger = None;
  macro_in = None;
  macro_out = None;
  metadata = [];
  others = [];
}

abbrev pub story : Text → List Item → Story
story id items = record { id = id; slug = None; num = None; metadata = []; others = []; items = items }

abbrev pub plain : Text → Story
plain id = story id []

-- an order whose slug is its name
abbrev pub body : Text → List Story → OrderBody
body ro stories = record {
  header = record { ro = ro; slug = ro; channel = None; ed_start = None; ed_dur = None; trigger = None; macro_in = None; macro_out = None; metadata = []; others = [] };
  stories = stories;
}

-- The events with which a session opens.
abbrev pub opening_events : List WorldEvent
opening_events =
    AtDevice 1 OpenTo ∷
    AtDevice 1 (Accept 1) ∷
    AtDevice 1 Read ∷
    AtDevice 1 Back ∷
    AtDevice 1 Dial ∷
    AtDevice 1 (Admit 2) ∷
    Command (record { ro = r; edit = Create (body r ((plain a) ∷ (plain b) ∷ (plain c) ∷ [])) }) ∷
    AtDevice 1 Send ∷
    AtDevice 1 Read ∷
    AtDevice 1 Back ∷
    AtDevice 1 Ask ∷
    AtDevice 1 Hear ∷
    AtDevice 1 Got ∷ []

opening_outcomes : outcomes (opening 1) opening_events ≡ Outcome.Connection 1 ∷ Outcome.Done ∷ Outcome.Heartbeat ∷ Outcome.Taken ∷ Outcome.Connection 2 ∷ Outcome.Done ∷ Outcome.Command okay ∷ Outcome.Edit r 0 ∷ Outcome.Ack r okay ∷ Outcome.Taken ∷ Outcome.AskAll ∷ Outcome.ListAll 1 ∷ Outcome.Taken ∷ []
unfolding same_id apply over_limit own_time
opening_outcomes = refl

-- a session that is opened: both connections, and the order of A, B and C at the device
abbrev pub opened : World
opened = run (opening 1) opening_events
