-- The state lines of a listing: what is said of a world behind the lines of its events.
use Rattle.std.specs.Prelude.{◌≡◌, ◌<◌, ◌↔◌, ◌≢◌, ℕ, ◌+◌, List, [], ◌∷◌, ◌++◌, map, Bool, true, false, Option, Some, None, if◌then◌else◌, ◌==◌, codes, AllPairs, Contains, zero, suc, length}
use Rattle.std.specs.List.{flat_map, join_by}
use Rattle.std.specs.Fmt.{decimal}
use Rattle.mos_edits.specs.Texts.{Text}
use Rattle.mos_edits.specs.Orders.{Item, Story, StorySend, Order}
use Rattle.mos_edits.specs.Scripts.{script_of}
use Rattle.mos_edits.specs.Entries.{Entry, entry_count, order_now, is_before, insert_id}
use Rattle.mos_machines.specs.Server.{ServerOut, Upper, View}
use Rattle.mos_machines.specs.Device.{GateOut, Phase}
use Rattle.world_laws.specs.World.{World, Pairing}
use Rattle.world_scripts.specs.Lines.{utf8}

-- ---- lines of words

-- a line: words with a space between, and a line feed
abbrev pub line : List (List ℕ) → List ℕ
line words = join_by (λ w. w) (32 ∷ []) words ++ 10 ∷ []

-- a connection, or `-` where there is none
abbrev pub connection_word : Option ℕ → List ℕ
connection_word None = codes "-"
connection_word (Some c) = decimal c

-- ---- orders

-- behind a story's name, where it has a script: `!`
abbrev pub script_word : Option StorySend → List ℕ
script_word None = []
script_word (Some script) = codes "!"

-- behind that, where it has items: a colon, and their names with commas between
abbrev pub items_word : List Item → List ℕ
items_word [] = []
items_word (i ∷ items) = 58 ∷ join_by (λ (x : Item). utf8 x.id) (44 ∷ []) (i ∷ items)

-- a story of an order
abbrev pub story_word : Order → Story → List ℕ
story_word o s = utf8 s.id ++ script_word (script_of o s.id) ++ items_word s.items

-- the stories of an order that is there
abbrev pub stories_words : Order → List Story → List (List ℕ)
stories_words o [] = codes "empty" ∷ []
stories_words o (s ∷ ss) = map (story_word o) (s ∷ ss)

-- an order, or that there is none
abbrev pub order_words : Option Order → List (List ℕ)
order_words None = codes "none" ∷ []
order_words (Some o) = stories_words o o.stories

-- the roIDs of the entries, ascending
abbrev pub entered : List Entry → List Text
entered [] = []
entered (e ∷ es) = insert_id e.ro (entered es)

abbrev pub order_line : List Entry → Text → List ℕ
order_line journal r = line (codes "order" ∷ utf8 r ∷ decimal (entry_count journal r) ∷ order_words (order_now journal r))

-- ---- the server's side of a device

abbrev pub sent_words : ServerOut → List (List ℕ)
sent_words ServerOut.Idle = codes "idle" ∷ []
sent_words (ServerOut.SendsEdit r k) = codes "edit" ∷ utf8 r ∷ decimal k ∷ []
sent_words (ServerOut.SendsAgain r m) = codes "again" ∷ utf8 r ∷ decimal m ∷ []
sent_words (ServerOut.SendsScript r k m) = codes "script" ∷ utf8 r ∷ decimal k ∷ decimal m ∷ []
sent_words ServerOut.SendsBeat = codes "beat" ∷ []

abbrev pub upper_words : Upper → List (List ℕ)
upper_words Upper.Down = codes "down" ∷ []
upper_words (Upper.Greeting c) = codes "greeting" ∷ decimal c ∷ []
upper_words (Upper.Open c out) = codes "open" ∷ decimal c ∷ sent_words out

-- how many scripts are still to be sent, where any are
abbrev pub due_words : ℕ → List (List ℕ)
due_words c = if c == 0 then [] else codes "scripts" ∷ decimal c ∷ []

-- that the READY is still to be sent again, where it is
abbrev pub again_words : Bool → List (List ℕ)
again_words false = []
again_words true = codes "again" ∷ []

abbrev pub view_words : View → List (List ℕ)
view_words View.Out = codes "out" ∷ []
view_words (View.Listed m scripts) = codes "listed" ∷ decimal m ∷ []
view_words (View.In n again scripts) = codes "in" ∷ decimal n ∷ (due_words (length scripts) ++ again_words again)
view_words (View.From k) = codes "from" ∷ decimal k ∷ []

abbrev pub server_line : ℕ → Pairing → List ℕ
server_line d l = line (codes "server" ∷ decimal d ∷ upper_words l.peer.upper)

abbrev pub view_line : ℕ → Pairing → Text → List ℕ
view_line d l r = line (codes "view" ∷ decimal d ∷ utf8 r ∷ view_words (l.peer.views r))

-- ---- the device

abbrev pub asked_words : GateOut → List (List ℕ)
asked_words GateOut.NotAsking = codes "idle" ∷ []
asked_words GateOut.AsksBeat = codes "heartbeat" ∷ []
asked_words GateOut.AsksAll = codes "roReqAll" ∷ []
asked_words (GateOut.AsksFor r) = codes "roReq" ∷ utf8 r ∷ []

abbrev pub phase_word : Phase → List ℕ
phase_word Phase.InStep = codes "in"
phase_word Phase.OutOfStep = codes "out"
phase_word Phase.Asked = codes "asked"
phase_word Phase.Crossed = codes "crossed"

abbrev pub device_line : ℕ → Pairing → List ℕ
device_line d l = line (codes "device" ∷ decimal d ∷ codes "upper" ∷ connection_word l.gate.upper ∷ codes "dial" ∷ connection_word l.gate.link ∷ asked_words l.gate.out)

-- an order that the device knows: its phase, how many entries the device has applied, and what it holds
abbrev pub held_line : ℕ → Pairing → Text → List ℕ
held_line d l r = line (codes "held" ∷ decimal d ∷ utf8 r ∷ phase_word (l.gate.phase r) ∷ decimal (l.applied r) ∷ order_words (l.gate.held r))

-- ---- all lines

-- Device `d`, whose views that are told are those of `viewed`.
abbrev pub device_lines : ℕ → Pairing → List Text → List ℕ
device_lines d l viewed = server_line d l ++ flat_map (view_line d l) viewed ++ device_line d l ++ flat_map (held_line d l) l.gate.known

-- the devices from `d` on, so many
abbrev pub devices_lines : ℕ → ℕ → (ℕ → Pairing) → (ℕ → List Text) → List ℕ
devices_lines zero d pairings viewed = []
devices_lines (suc k) d pairings viewed = device_lines d (pairings d) (viewed d) ++ devices_lines k (d + 1) pairings viewed

-- The state lines of a world, where `viewed` has for each device the roIDs whose views are told.
abbrev pub state_lines : World → (ℕ → List Text) → List ℕ
state_lines w viewed = flat_map (order_line w.journal) (entered w.journal) ++ devices_lines w.devices 1 w.pairings viewed

-- ---- whose views are told

-- the list is that of the texts of which P holds, ascending and none twice
pub record Lists (P : Text → Type 0) (ids : List Text) : Type 0 where
  pub ascending : AllPairs (λ x y. is_before x y ≡ true) ids
  pub all : (r : Text) → Contains ids r ↔ P r

-- a view is told of an order with an entry, and of one that has a view
pub data IsViewed (journal : List Entry) (l : Pairing) (r : Text) : Type 0 where
  HasEntry : Contains (entered journal) r → IsViewed journal l r
  HasView : l.peer.views r ≢ View.Out → IsViewed journal l r

-- These bytes are the state lines of a world, whose devices are numbered from 1. What a device knows is listed in the order of
-- the texts.
pub record AreStateLines (w : World) (bytes : List ℕ) : Type 0 where
  pub viewed : ℕ → List Text
  pub lists : (d : ℕ) → d < w.devices → Lists (IsViewed w.journal (w.pairings (suc d))) (viewed (suc d))
  pub lines : bytes ≡ state_lines w viewed
