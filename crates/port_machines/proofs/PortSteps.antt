-- The steps of the server at all its ports.
use Rattle.std.proofs.Common.{◌≡◌, ℕ, ◌<◌, List, Bool, if◌then◌else◌, Result, Ok, Err, IfOk, sym, ap, ◌∙◌, subst}
use Rattle.std.proofs.lemmas.Bool.{lt-ltb}
use Rattle.mos_edits.specs.Entries.{Entry}
use Rattle.mos_machines.specs.Steps.{ServerEvent}
use Rattle.ncs_core.specs.State.{NcsTables, devices_of}
use Rattle.port_replies.specs.Ports.{Asked, server_asked, server_at, server_editor, server_upper}
use Rattle.port_events.specs.declared.event.PortEvent.{PortEvent}
use Rattle.port_events.specs.declared.event.Side.TheVariants.{Upper, Editor}
use Rattle.port_events.specs.declared.answer.PortAnswer.{PortAnswer}
use Rattle.port_events.specs.declared.answer.PortAnswer.TheVariants as answers
use Rattle.port_machines.specs.Steps.{IsAnswered, IsServerStep}
use Rattle.port_machines.proofs.ServerSaid.{server-steps}

-- an event at the port of a device that there is
pub upper-asked : (devices d : ℕ) (journal : List Entry) (e : PortEvent) → d ≡ devices → e.side ≡ Upper → e.device < d → server_asked devices journal e ≡ server_upper e.device e.link e.what
upper-asked devices d journal e n s l =
    ap (server_at devices journal e.device e.link e.what) s
    ∙ ap (λ (b : Bool). if b then server_upper e.device e.link e.what else Asked.Says answers.Stale) (lt-ltb e.device devices (subst (λ (k : ℕ). e.device < k) n l))

-- an event at the editors' port
pub editor-asked : (devices : ℕ) (journal : List Entry) (e : PortEvent) → e.side ≡ Editor → server_asked devices journal e ≡ server_editor journal e.what
editor-asked devices journal e s = ap (server_at devices journal e.device e.link e.what) s

-- what a port answers is the answer to its event
pub answers-event : {K X : Type 0} (inside n m : NcsTables K) (e : PortEvent) (asked : Asked ServerEvent) (b : Result PortAnswer X) → inside ≡ n → server_asked (devices_of inside) inside.server.journal e ≡ asked → IfOk b (λ a. IsAnswered inside asked a m) → IfOk b (λ a. IsServerStep n e a m)
answers-event {K = K} inside n m e asked (Ok a) i q k =
    subst (λ (z : NcsTables K). IsServerStep z e a m) i
    (server-steps inside m e a (subst (λ (z : Asked ServerEvent). IsAnswered inside z a m) (sym q) k))
answers-event inside n m e asked (Err x) i q k = tt
