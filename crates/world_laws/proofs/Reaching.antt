-- Worlds that a run ends in have links and stay within their journals.
use Rattle.std.proofs.Common.{◌≡◌, ℕ, ◌+◌, List, [], ◌∷◌, ◌++◌, Bool, true, false, Option, Some, None, refl, sym, ap, ◌∙◌, subst, if◌then◌else◌, ◌&&◌, nat_le}
use Rattle.mos_edits.specs.Texts.{set_number}
use Rattle.mos_machines.specs.Steps.{ServerState, ServerEvent}
use Rattle.mos_machines.specs.Views.{IsServerWithin}
use Rattle.mos_machines.proofs.Growing.{server-grows, started-within}
use Rattle.world_laws.specs.World.{World, WorldEvent, PairingEvent, Effect, opening, run, world_step, at_device, pairing_step, has_device, lose, kept_journal}
use Rattle.world_laws.specs.World.WorldEvent.{Command, AtDevice, Lose, FailNext, Restart}
use Rattle.world_laws.specs.World.Effect.{Impossible, Performed}
use Rattle.world_laws.specs.Machines.{server_of, server_call, server_after}
use Rattle.world_laws.specs.Reached.{IsReached, HasLinks}
use Rattle.world_laws.proofs.MachineCalls.{world-server, world-command}
use Rattle.world_laws.proofs.Worlds.{WorldInvariant, world_keeps, opening_inv}

run-more : (w : World) (es : List WorldEvent) (e : WorldEvent) → run w (es ++ e ∷ []) ≡ (world_step (run w es) e).0
run-more w [] e = refl
run-more w (x ∷ xs) e = run-more (world_step w x).0 xs e

pub reached-opening : (devices : ℕ) → IsReached (opening devices)
reached-opening devices = record { devices = devices; events = []; ends = refl }

pub reached-step : (w : World) (e : WorldEvent) → IsReached w → IsReached (world_step w e).0
reached-step w e i = record {
  devices = i.devices;
  events = i.events ++ e ∷ [];
  ends = run-more (opening i.devices) i.events e ∙ ap (λ (v : World). (world_step v e).0) i.ends;
}

invariant-from : (w : World) (es : List WorldEvent) → WorldInvariant w → WorldInvariant (run w es)
invariant-from w [] i = i
invariant-from w (e ∷ es) i = invariant-from (world_step w e).0 es (world_keeps w e i)

reached-invariant : (w : World) → IsReached w → WorldInvariant w
reached-invariant w i = subst (λ (v : World). WorldInvariant v) i.ends (invariant-from (opening i.devices) i.events (opening_inv i.devices))

pub reached-links : (w : World) (d : ℕ) → IsReached w → HasLinks (w.pairings d)
reached-links w d i = let k = (reached-invariant w i).pairings d in record {
  upper = k.ok.upper;
  read = λ c e. (k.ok.read c e).0;
  linked = λ c e. (k.ok.linked c e).0;
  dialed = k.ok.dialed;
}

after-call : (s : ServerState) (o : Option ServerEvent) → IsServerWithin s → IsServerWithin (server_after s o)
after-call s None i = i
after-call s (Some e) i = λ d. (server-grows false s e i d).within

within-either : (b : Bool) (x y : World × Effect) → IsServerWithin (server_of x.0) → IsServerWithin (server_of y.0) → let z : World × Effect = if b then x else y in IsServerWithin (server_of z.0)
within-either true x y i j = i
within-either false x y i j = j

within-at : (w : World) (d : ℕ) (e : PairingEvent) (b : Bool) → has_device w d ≡ b → IsServerWithin (server_of w) → IsServerWithin (server_of (world_step w (AtDevice d e)).0)
within-at w d e true h i = subst (λ (s : ServerState). IsServerWithin s) (sym (world-server w d e h)) (after-call (server_of w) (server_call d (w.count + 1) (w.pairings d) e) i)
within-at w d e false h i =
    subst (λ (b : Bool). let z : World × Effect = if b then at_device w d e (pairing_step w.journal (w.count + 1) (w.pairings d) e) else (w, Impossible) in IsServerWithin (server_of z.0)) (sym h) i

within-step : (w : World) (e : WorldEvent) → IsServerWithin (server_of w) → IsServerWithin (server_of (world_step w e).0)
within-step w (Command e) i = subst (λ (s : ServerState). IsServerWithin s) (sym (world-command w e)) (λ d. (server-grows w.failing (server_of w) (ServerEvent.Command e) i d).within)
within-step w (AtDevice d e) i = within-at w d e (has_device w d) refl i
within-step w (Lose c way k) i =
    within-either (nat_le 1 c && nat_le c w.count) (record w { pairings = λ d. record (w.pairings d) { connections = set_number (w.pairings d).connections c (lose way k ((w.pairings d).connections c)) } }, Performed) (w, Impossible) i i
within-step w FailNext i = i
within-step w (Restart kept) i = started-within (kept_journal w.journal kept w.uncertain) 0

within-from : (w : World) (es : List WorldEvent) → IsServerWithin (server_of w) → IsServerWithin (server_of (run w es))
within-from w [] i = i
within-from w (e ∷ es) i = within-from (world_step w e).0 es (within-step w e i)

pub reached-within : (w : World) → IsReached w → IsServerWithin (server_of w)
reached-within w i = subst (λ (v : World). IsServerWithin (server_of v)) i.ends (within-from (opening i.devices) i.events (started-within [] 0))
