-- The entry that a device is sent next, found by the places of the entries in the journal.
use Rattle.std.specs.Prelude.{◌≡◌, ◌<◌, ◌≤◌, ℕ, zero, suc, List, [], ◌∷◌, Bool, true, false, Option, Some, None, slice_get, ◌-◌, cond, nat_lt, ◌==◌, if◌then◌else◌}
use Rattle.mos_edits.specs.Texts.{Text}
use Rattle.mos_edits.specs.Entries.{Entry, entry_count, edit_at}
use Rattle.mos_machines.specs.Server.{ServerOut, Upper, View, due_in, ready_before}
use Rattle.mos_machines.specs.Server.View.{Out, Listed, In, From}
use Rattle.mos_machines.specs.Server.ServerOut.{Idle, SendsEdit, SendsAgain, SendsScript}
use Rattle.mos_machines.specs.Server.Upper.{Open}
use Rattle.mos_machines.specs.Tables.{look}
use Rattle.machine_answers.specs.declared.answers.Tag.{Tag}
use Rattle.machine_answers.specs.declared.answers.Tag.TheVariants as tags
use Rattle.rundown_log.specs.Positions.{positions}
use Rattle.server_peer.specs.declared.due.Due.{Due}
use Rattle.server_peer.specs.declared.due.DueKind.{DueKind}
use Rattle.server_peer.specs.declared.due.DueKind.TheVariants as due

abbrev pub due_found : ℕ → DueKind → Option ℕ → Option Due
due_found number kind None = None
due_found number kind (Some place) = Some (record { place = place; number = number; kind = kind })

-- what is sent again behind a list of `m` entries stands where the last of them does, where the journal has it
abbrev pub due_again : List Entry → Text → ℕ → DueKind → Option Due
due_again journal r zero kind = None
due_again journal r (suc n) kind = due_found (suc n) kind (slice_get (positions r journal) n)

-- what an order after `n` entries makes due, of which this is the first script that is due
abbrev pub due_first : List Entry → Text → ℕ → Bool → Option ℕ → Option Due
due_first journal r n again (Some k) = due_again journal r n (due.Script k)
due_first journal r n true None = due_again journal r n due.Again
due_first journal r n false None = due_found n due.Edit (slice_get (positions r journal) n)

-- what a view makes due, where the journal has it
abbrev pub due_of : List Entry → Text → View → Option Due
due_of journal r Out = None
due_of journal r (Listed m scripts) = None
due_of journal r (In n again scripts) = due_first journal r n again (slice_get scripts 0)
due_of journal r (From k) = due_found k due.Edit (slice_get (positions r journal) k)

-- which entry of its order stands at the place, and which one is sent
abbrev pub place_number : DueKind → ℕ → ℕ
place_number due.Edit n = n
place_number due.Again n = n - 1
place_number (due.Script k) n = n - 1

abbrev pub sent_number : DueKind → ℕ → ℕ
sent_number due.Edit n = n
sent_number due.Again n = n - 1
sent_number (due.Script k) n = k

-- the one that stands first in the journal
abbrev pub sooner : Option Due → Option Due → Option Due
sooner None e = e
sooner (Some d) None = Some d
sooner (Some d) (Some e) = cond (nat_lt e.place d.place) (Some e) (Some d)

abbrev pub first_from : List Entry → Option Due → List (Text × View) → Option Due
first_from journal best [] = best
first_from journal best (x ∷ xs) = first_from journal (sooner best (due_of journal x.0 x.1)) xs

-- what is in flight once it was sent, and its tag
abbrev pub kind_out : Text → ℕ → DueKind → ServerOut
kind_out r n due.Edit = SendsEdit r n
kind_out r n due.Again = SendsAgain r n
kind_out r n (due.Script k) = SendsScript r k n

abbrev pub due_out : Text → Due → ServerOut
due_out r d = kind_out r d.number d.kind

abbrev pub kind_tag : Text → ℕ → DueKind → Tag
kind_tag r n due.Edit = tags.Edit r n
kind_tag r n due.Again = tags.Again r n
kind_tag r n (due.Script k) = tags.Script r k n

abbrev pub due_tag : Text → Due → Tag
due_tag r d = kind_tag r d.number d.kind

-- of a view a script is due, that of entry `k`, behind a list that the journal has
pub record IsScriptDue (journal : List Entry) (r : Text) (k : ℕ) (v : View) : Type 0 where
  pub n : ℕ
  pub again : Bool
  pub scripts : List ℕ
  pub is : v ≡ In n again scripts
  pub first : slice_get scripts 0 ≡ Some k
  pub within : n ≤ entry_count journal r

-- the place of the entry that is sent, which is one of the order that the entry at the place of the due one has
pub record IsSource (journal : List Entry) (d : Due) (place : ℕ) : Type 0 where
  pub first : Entry
  pub at : slice_get journal d.place ≡ Some first
  pub entry : Entry
  pub there : slice_get journal place ≡ Some entry
  pub ro : entry.ro ≡ first.ro
  pub edit : entry.edit ≡ edit_at journal first.ro (sent_number d.kind d.number)

-- the order is that of the entry at its place
abbrev pub out_at : Due → Option Entry → ServerOut
out_at d None = Idle
out_at d (Some e) = due_out e.ro d

abbrev pub out_due : List Entry → Option Due → ServerOut
out_due journal None = Idle
out_due journal (Some d) = out_at d (slice_get journal d.place)

-- nothing is due that stands in the journal before this place
abbrev pub IsIdleBefore : ℕ → List Entry → (Text → View) → Type 0
IsIdleBefore n journal views = (m : ℕ) → m < n → due_in views (λ r. 0) journal m ≡ Idle

-- the one that was found stands at this place or behind it
abbrev pub StandsFrom : ℕ → Option Due → Type 0
StandsFrom n None = Unit {0}
StandsFrom n (Some d) = n ≤ d.place

-- what is due, where it stands at this place
abbrev pub at_place : ℕ → Option Due → Option Due
at_place n None = None
at_place n (Some d) = if d.place == n then Some d else None

-- what the view of the order of this entry makes due, where it is this entry
abbrev pub here_of : List Entry → List (Text × View) → ℕ → Option Entry → Option Due
here_of journal rows n None = None
here_of journal rows n (Some e) = at_place n (due_of journal e.ro (look Out rows e.ro))

abbrev pub due_here : List Entry → List (Text × View) → ℕ → Option Due
due_here journal rows n = here_of journal rows n (slice_get journal n)

-- what a list that was on its way makes of a view, and of any other nothing
abbrev pub only_listed : List Entry → Text → View → View
only_listed journal r (Listed m scripts) = In m (ready_before journal r m) scripts
only_listed journal r v = Out

-- a place, or that of the entry that was found, where it stands before it; the first where none was
abbrev pub entry_until : Option ℕ → ℕ → ℕ
entry_until None from = zero
entry_until (Some place) from = cond (nat_lt place from) place from

abbrev pub again_until : List Entry → Text → ℕ → ℕ → ℕ
again_until journal r zero from = zero
again_until journal r (suc k) from = entry_until (slice_get (positions r journal) k) from

-- a place, or the first where a script was sent behind a list of no entries
abbrev pub script_until : View → ℕ → ℕ
script_until (In zero again scripts) from = zero
script_until v from = from

-- a place, or that of the entry in flight, where that stands before it; `v` is the view of its order
abbrev pub flight_until : List Entry → View → ServerOut → ℕ → ℕ
flight_until journal v (SendsEdit r k) from = entry_until (slice_get (positions r journal) k) from
flight_until journal v (SendsAgain r m) from = again_until journal r m from
flight_until journal v (SendsScript r k m) from = script_until v from
flight_until journal v o from = from

abbrev pub out_until : List Entry → View → Upper → ℕ → ℕ
out_until journal v (Open c o) from = flight_until journal v o from
out_until journal v u from = from
