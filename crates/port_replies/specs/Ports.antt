-- Which step of the server, or of a gateway, an event at its ports is, and what is answered.
use Rattle.std.specs.Prelude.{◌≡◌, ℕ, List, [], false, Option, Some, None, if◌then◌else◌, nat_lt}
use Rattle.mos_edits.specs.Texts.{Text}
use Rattle.mos_edits.specs.Orders.{Order, bare}
use Rattle.mos_edits.specs.Entries.{Entry, order_now, headers}
use Rattle.mos_machines.specs.Messages.{Message, Step, message_ro, status_text}
use Rattle.mos_machines.specs.Messages.Status.{NotSupported, NoRunningOrder}
use Rattle.mos_machines.specs.Messages.Message.{Heartbeat, RoEdit, RoReq, RoReqAll}
use Rattle.mos_machines.specs.Device.{GateState, Decks}
use Rattle.mos_machines.specs.Steps.{ServerState, ServerEvent, ServerStep, DeviceEvent, DeviceStep, StepAnswer}
use Rattle.mos_machines.specs.Values.{seen, ack, message_of}
use Rattle.mos_values.specs.declared.message.Message as values
use Rattle.mos_values.specs.declared.message.Message.TheVariants as carried
use Rattle.mos_values.specs.declared.mos_ack.AckStatus.TheVariants.{Nack}
use Rattle.mos_fields.specs.declared.time.MosTime.{MosTime}
use Rattle.port_events.specs.declared.event.Side.{Side}
use Rattle.port_events.specs.declared.event.Side.TheVariants.{Upper, Lower, Editor}
use Rattle.port_events.specs.declared.event.What.{What}
use Rattle.port_events.specs.declared.event.What.TheVariants.{Accepted, Heard, EndedIn, Dialed, Next, Answered, Beat, EndedOut}
use Rattle.port_events.specs.declared.event.PortEvent.{PortEvent}
use Rattle.port_events.specs.declared.answer.PortAnswer.{PortAnswer}
use Rattle.port_events.specs.declared.answer.PortAnswer.TheVariants as answers

-- ---- steps and answers

-- What an event comes to: a step of the machine, with what is said to its answer; or an answer alone.
pub data Asked (E : Type 0) : Type 0 where
  Steps : (event : E) (saying : StepAnswer → PortAnswer) → Asked E
  Says : (answer : PortAnswer) → Asked E

-- An answer alone leaves the machine as it was.
abbrev pub ComesTo : {S E : Type 0} → (S → E → StepAnswer → S → Type 0) → S → Asked E → PortAnswer → S → Type 0
ComesTo step s (Asked.Steps event saying) a t = (answer : StepAnswer) × step s event answer t × (a ≡ saying answer)
ComesTo step s (Asked.Says answer) a t = (t ≡ s) × (a ≡ answer)

-- what is said to a step of a connection
abbrev pub said : StepAnswer → PortAnswer
said StepAnswer.Stale = answers.Stale
said StepAnswer.Silent = answers.Done
said (StepAnswer.Stepped Step.Taken) = answers.Taken
said (StepAnswer.Stepped Step.Unasked) = answers.Unasked
said (StepAnswer.Told status) = answers.Done
said StepAnswer.Nothing = answers.Nothing
said (StepAnswer.Sent p) = answers.Say (message_of p.message)
said (StepAnswer.Say p) = answers.Say (message_of p.message)

-- a machine greets at once on the connection that it opened
abbrev pub greets : MosTime → StepAnswer → PortAnswer
greets time answer = answers.Say (carried.Heartbeat time)

-- what is said to an editor's command of an edit of this order
abbrev pub told : Text → StepAnswer → PortAnswer
told ro (StepAnswer.Told status) = answers.Say (ack ro (status_text status))
told ro answer = said answer

-- ---- messages that a machine doesn't act on

abbrev pub not_supported_text : Text
not_supported_text = status_text NotSupported

-- the roAck of no order, and the mosAck of no object
abbrev pub no_order : values.Message
no_order = ack [] not_supported_text

abbrev pub no_object : values.Message
no_object = carried.MosAck (record { obj = []; rev = Some 0; status = Nack; description = Some not_supported_text })

-- a heartbeat is answered by itself, any other message by this refusal
abbrev pub refused : values.Message → values.Message → values.Message
refused refusal (carried.Heartbeat time) = carried.Heartbeat time
refused refusal m = refusal

-- a port at which a machine does nothing
abbrev pub idle : values.Message → What → PortAnswer
idle refusal Accepted = answers.Done
idle refusal (Heard m) = answers.Say (refused refusal m)
idle refusal EndedIn = answers.Taken
idle refusal (Dialed time) = answers.Done
idle refusal (Next time) = answers.Nothing
idle refusal (Answered m) = answers.Unasked
idle refusal Beat = answers.Done
idle refusal EndedOut = answers.Taken

-- ---- the server

-- at the port of device `d`, of connection `c`
abbrev pub server_upper : ℕ → ℕ → What → Asked ServerEvent
server_upper d c Accepted = Asked.Steps (ServerEvent.DeviceAccepted d c) said
server_upper d c (Heard m) = Asked.Steps (ServerEvent.Hear d c (seen m)) said
server_upper d c EndedIn = Asked.Steps (ServerEvent.DeviceDropped d c) said
server_upper d c (Dialed time) = Asked.Steps (ServerEvent.UpperOpened d c) (greets time)
server_upper d c (Next time) = Asked.Steps (ServerEvent.NextSend d c time) said
server_upper d c (Answered m) = Asked.Steps (ServerEvent.UpperAnswer d c (seen m)) said
server_upper d c Beat = Asked.Steps (ServerEvent.Beat d) said
server_upper d c EndedOut = Asked.Steps (ServerEvent.UpperCut d c) said

-- the order that an editor asked for, or that there is none
abbrev pub order_said : Text → Option Order → values.Message
order_said ro None = ack ro (status_text NoRunningOrder)
order_said ro (Some o) = carried.RoList (bare o)

-- An editor's message: an edit is a command, a request tells the orders as they are, and changes no view.
abbrev pub editor_heard : List Entry → Message → Asked ServerEvent
editor_heard journal (Heartbeat time) = Asked.Says (answers.Say (carried.Heartbeat time))
editor_heard journal (RoEdit e) = Asked.Steps (ServerEvent.Command e) (told e.ro)
editor_heard journal (RoReq ro) = Asked.Says (answers.Say (order_said ro (order_now journal ro)))
editor_heard journal RoReqAll = Asked.Says (answers.Say (carried.RoListAll (headers journal)))
editor_heard journal m = Asked.Says (answers.Say (ack (message_ro m) not_supported_text))

-- at the editors' port
abbrev pub server_editor : List Entry → What → Asked ServerEvent
server_editor journal Accepted = Asked.Says answers.Done
server_editor journal (Heard m) = editor_heard journal (seen m)
server_editor journal EndedIn = Asked.Says answers.Taken
server_editor journal what = Asked.Says answers.Nothing

-- at any port of a server of so many devices
abbrev pub server_at : ℕ → List Entry → ℕ → ℕ → What → Side → Asked ServerEvent
server_at devices journal d c what Upper = if nat_lt d devices then server_upper d c what else Asked.Says answers.Stale
server_at devices journal d c what Lower = Asked.Says (idle no_object what)
server_at devices journal d c what Editor = server_editor journal what

abbrev pub server_asked : ℕ → List Entry → PortEvent → Asked ServerEvent
server_asked devices journal e = server_at devices journal e.device e.link e.what e.side

-- An event at the ports of a server of so many devices: its answer, and the state after it.
abbrev pub NcsPortStep : ℕ → ServerState → PortEvent → PortAnswer → ServerState → Type 0
NcsPortStep devices s e a t = ComesTo ServerStep s (server_asked devices s.journal e) a t

-- ---- a gateway

-- no decks are handed in
abbrev pub no_decks : Decks
no_decks = record { handed = false; left = 0 }

-- at its port to the server, of connection `c`
abbrev pub gate_upper : ℕ → What → Asked DeviceEvent
gate_upper c Accepted = Asked.Steps (DeviceEvent.UpperAccepted c) said
gate_upper c (Heard m) = Asked.Steps (DeviceEvent.ReadUpper c (seen m) no_decks) said
gate_upper c EndedIn = Asked.Steps (DeviceEvent.UpperLeft c) said
gate_upper c (Dialed time) = Asked.Steps (DeviceEvent.DeviceOpened c) said
gate_upper c (Next time) = Asked.Steps (DeviceEvent.NextAsk c time) said
gate_upper c (Answered m) = Asked.Steps (DeviceEvent.ReadAnswer c (seen m)) said
gate_upper c Beat = Asked.Steps DeviceEvent.GateBeat said
gate_upper c EndedOut = Asked.Steps (DeviceEvent.GateDropped c) said

abbrev pub gate_at : ℕ → What → Side → Asked DeviceEvent
gate_at c what Upper = gate_upper c what
gate_at c what Lower = Asked.Says (idle no_object what)
gate_at c what Editor = Asked.Says (idle no_order what)

abbrev pub gate_asked : PortEvent → Asked DeviceEvent
gate_asked e = gate_at e.link e.what e.side

-- An event at the ports of a gateway: its answer, and the state after it.
abbrev pub GatePortStep : GateState → PortEvent → PortAnswer → GateState → Type 0
GatePortStep g e a h = ComesTo DeviceStep g (gate_asked e) a h
