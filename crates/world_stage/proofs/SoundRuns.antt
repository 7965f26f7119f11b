-- Worlds that a run of sound events within the limits of fields ends in.
use Rattle.std.proofs.Common.{◌≡◌, ℕ, ◌+◌, ◌<◌, List, [], ◌∷◌, ◌++◌, length, refl, sym, ap, ◌∙◌, subst}
use Rattle.std.specs.List.{AllByRecursion}
use Rattle.mos_machines.specs.Messages.{Packet}
use Rattle.world_laws.specs.Reached.{IsReached}
use Rattle.world_laws.specs.World.{World, WorldEvent, opening, run, world_step}
use Rattle.written_laws.specs.Laws.{IsSoundPacket}
use Rattle.written_laws.specs.Worlds.{CarriesOnly, IsShortPacket, IsSoundCommand, KeepsLimits}
use Rattle.written_laws.proofs.Elements.{all-append}
use Rattle.written_laws.proofs.ShortRuns.{short-run}
use Rattle.written_laws.proofs.SoundRuns.{sound-run}
use Rattle.world_parts.specs.Matching.{HasEncoding, HaveEncodings}
use Rattle.world_stage.specs.Matching.{IsReachedSoundly}

run-on : (w : World) (es : List WorldEvent) (e : WorldEvent) → run w (es ++ e ∷ []) ≡ (world_step (run w es) e).0
run-on w [] e = refl
run-on w (x ∷ xs) e = run-on (world_step w x).0 xs e

pub soundly-opening : (devices : ℕ) → IsReachedSoundly (opening devices)
soundly-opening devices = record { devices = devices; events = []; ends = refl; sound = tt; limits = tt }

pub soundly-step : (w : World) (e : WorldEvent) → IsReachedSoundly w → IsSoundCommand e → KeepsLimits e → IsReachedSoundly (world_step w e).0
soundly-step w e i s k = record {
  devices = i.devices;
  events = i.events ++ e ∷ [];
  ends = run-on (opening i.devices) i.events e ∙ ap (λ (v : World). (world_step v e).0) i.ends;
  sound = all-append IsSoundCommand i.events (e ∷ []) i.sound (s, tt);
  limits = all-append KeepsLimits i.events (e ∷ []) i.limits (k, tt);
}

pub some-run : (w : World) → IsReachedSoundly w → IsReached w
some-run w i = record { devices = i.devices; events = i.events; ends = i.ends }

-- ---- what is unread

all-both : {X : Type 0} (P Q : X → Type 0) (xs : List X) → AllByRecursion P xs → AllByRecursion Q xs → AllByRecursion (λ x. P x × Q x) xs
all-both P Q [] a b = tt
all-both P Q (x ∷ xs) a b = ((a.0, b.0), all-both P Q xs a.1 b.1)

pub encodings : (w : World) (d : ℕ) → IsReachedSoundly w → HaveEncodings (w.pairings d).connections
encodings w d i =
    subst (λ (v : World). HaveEncodings (v.pairings d).connections) i.ends
    (λ c.
    let line = ((run (opening i.devices) i.events).pairings d).connections c in
    let sound = (sound-run i.devices i.events i.sound).messages d c in
    let short = short-run i.devices i.events d c i.limits in
    (all-both IsSoundPacket IsShortPacket line.to_device sound.0 short.0, all-both IsSoundPacket IsShortPacket line.to_server sound.1 short.1))
