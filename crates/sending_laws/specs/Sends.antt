-- What a run sends its devices as edits.
use Rattle.std.specs.Prelude.{◌≡◌, ℕ, ◌+◌, ◌-◌, ◌<◌, ◌≤◌, ◌⊎◌, List, [], ◌∷◌, ◌++◌, if◌then◌else◌, ◌==◌, true}
use Rattle.mos_edits.specs.Texts.{Text, same_id}
use Rattle.mos_edits.specs.Entries.{Entry, kind, entry_count, edit_at, in_force}
use Rattle.mos_edits.specs.Scripts.{has_number}
use Rattle.mos_edits.specs.Entries.Kind.{IsReady}
use Rattle.mos_machines.specs.Messages.{Message, Packet, Tag}
use Rattle.mos_machines.specs.Messages.Message.{RoEdit}
use Rattle.mos_machines.specs.Messages.Tag.{OfEntry, OfAgain, OfList}
use Rattle.mos_machines.specs.Server.{entry_packet, again_packet, script_packet}
use Rattle.world_laws.specs.World.{World, WorldEvent, Effect, world_step}
use Rattle.world_laws.specs.World.WorldEvent.{AtDevice}
use Rattle.world_laws.specs.World.Effect.{Wrote}

-- Of the order `r`: the number of the entry that is sent as an edit; the number of entries behind a READY that is sent again;
-- the number of entries after which a list is told.
abbrev pub entry_in : Text → Tag → List ℕ
entry_in r (OfEntry q k) = if same_id r q then k ∷ [] else []
entry_in r tag = []

abbrev pub again_in : Text → Tag → List ℕ
again_in r (OfAgain q m) = if same_id r q then m ∷ [] else []
again_in r tag = []

abbrev pub list_in : Text → Tag → List ℕ
list_in r (OfList q m) = if same_id r q then m ∷ [] else []
list_in r tag = []

-- what is read off the packet that an event writes between the server and device `d`, whichever of the two writes it
abbrev pub in_effect : (Tag → List ℕ) → Effect → List ℕ
in_effect f (Wrote p) = f p.tag
in_effect f o = []

abbrev pub at_event : (Tag → List ℕ) → ℕ → WorldEvent → Effect → List ℕ
at_event f d (AtDevice b e) o = if d == b then in_effect f o else []
at_event f d e o = []

-- the same of all events of a run, in their order
abbrev pub in_run : (Tag → List ℕ) → ℕ → World → List WorldEvent → List ℕ
in_run f d w [] = []
in_run f d w (e ∷ es) = at_event f d e (world_step w e).1 ++ in_run f d (world_step w e).0 es

-- The entries of the order `r` that a run sends to device `d`, each by its number among the entries of that order; the READYs
-- of that order that it sends there again; the lists of that order that it tells there, also that there is none.
abbrev pub entries_sent : ℕ → Text → World → List WorldEvent → List ℕ
entries_sent d r w es = in_run (entry_in r) d w es

abbrev pub readies_sent_again : ℕ → Text → World → List WorldEvent → List ℕ
readies_sent_again d r w es = in_run (again_in r) d w es

abbrev pub lists_told : ℕ → Text → World → List WorldEvent → List ℕ
lists_told d r w es = in_run (list_in r) d w es

-- how often a number stands in a list
abbrev pub times : ℕ → List ℕ → ℕ
times k [] = 0
times k (n ∷ ns) = (if n == k then 1 else 0) + times k ns

-- each is greater than the one before it, and the first at least `least`
abbrev pub AreAscending : ℕ → List ℕ → Type 0
AreAscending least [] = Unit {0}
AreAscending least (n ∷ ns) = (least ≤ n) × AreAscending (n + 1) ns

-- the packet is an entry of the order, as it stands in the journal
abbrev pub IsEntrySent : List Entry → Text → Packet → Type 0
IsEntrySent journal r p = (k : ℕ) × (k < entry_count journal r) × (p ≡ entry_packet journal r k)

-- the packet is a READY of the order, sent again: the one before entry `m`
abbrev pub IsReadyAgain : List Entry → Text → Packet → Type 0
IsReadyAgain journal r p = (m : ℕ) × (0 < m) × (m ≤ entry_count journal r) × (kind (edit_at journal r (m - 1)) ≡ IsReady) × (p ≡ again_packet journal r m)

-- the packet is the script of entry `k` of the order, sent again: it stands after the first `m` entries
abbrev pub IsScriptAgain : List Entry → Text → Packet → Type 0
IsScriptAgain journal r p = (k : ℕ) × (m : ℕ) × (m ≤ entry_count journal r) × (has_number k (in_force journal r m) ≡ true) × (p ≡ script_packet journal r k m)

-- an edit that is written is an entry of its order, or a READY or a script of it that is sent again
abbrev pub IsEditOf : List Entry → Packet → Message → Type 0
IsEditOf journal p (RoEdit e) = IsEntrySent journal e.ro p ⊎ IsReadyAgain journal e.ro p ⊎ IsScriptAgain journal e.ro p
IsEditOf journal p message = Unit {0}
