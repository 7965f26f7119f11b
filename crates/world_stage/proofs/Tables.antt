-- Tables by number that are written.
use Rattle.std.proofs.Common.{◌≡◌, ℕ, List, Bool, true, false, refl, sym, ap, ◌∙◌, subst, arith, if◌then◌else◌, ◌==◌, eq-eqb}
use Rattle.std.proofs.lemmas.Bool.Decides.{nat_tests}
use Rattle.mos_edits.specs.Texts.{set_number}
use Rattle.mos_machines.specs.Server.{PeerState}
use Rattle.mos_machines.specs.Steps.{ServerState, with_peer}
use Rattle.rundown_log.specs.Memory.{MemoryKeeper}
use Rattle.ncs_core.specs.State.{NcsTables, LeavesRest, ncs_of}
use Rattle.world_laws.specs.World.{Connection as Line}
use Rattle.world_laws.specs.World.Opener.{Nobody, TheServer, TheDevice}
use Rattle.world_parts.specs.Matching.{IsOpened, MatchesConnections}
use Rattle.world_parts.specs.declared.connection.Connection.{Connection}
use Rattle.world_stage.specs.Steps.{LeavesServer}

pub set-here : {X : Type 0} (f : ℕ → X) (d : ℕ) (x : X) → set_number f d x d ≡ x
set-here f d x = rw (eq-eqb d d refl) refl

pub set-other : {X : Type 0} (f : ℕ → X) (d : ℕ) (x : X) (b : ℕ) → (b ≡ d → ⊥) → set_number f d x b ≡ f b
set-other f d x b h = grind (arith, nat_tests, h)

pub set-twice : {X : Type 0} (f : ℕ → X) (c : ℕ) (y z : X) → set_number (set_number f c y) c z ≡ set_number f c z
set-twice {X = X} f c y z = λ i. λ b. by b (b == c) i
  where
    by : (b : ℕ) (t : Bool) → (if t then z else (if t then y else f b)) ≡ (if t then z else f b)
    by b true = refl
    by b false = refl

-- a connection that was written twice
pub written-twice : (xs : List Connection) (d : ℕ) (lines : ℕ → Line) (c : ℕ) (y : Line) (g : Line → Line) → MatchesConnections xs d (set_number (set_number lines c y) c (g (set_number lines c y c))) → MatchesConnections xs d (set_number lines c (g y))
written-twice xs d lines c y g m =
    subst (λ (f : ℕ → Line). MatchesConnections xs d f) (set-twice lines c y (g y))
    (subst (λ (z : Line). MatchesConnections xs d (set_number (set_number lines c y) c (g z))) (set-here lines c y) m)

-- the server after one of its devices was written
module _ (n m : NcsTables MemoryKeeper) (d : ℕ) (x : PeerState) (step : ncs_of m ≡ with_peer (ncs_of n) d x) where
  pub peer-written : (ncs_of m).peers d ≡ x
  peer-written = ap (λ (s : ServerState). s.peers d) step ∙ set-here (ncs_of n).peers d x

  pub leaves-written : LeavesRest n m → LeavesServer n m d
  leaves-written r = record {
    journal = ap (λ (s : ServerState). s.journal) step;
    stopped = ap (λ (s : ServerState). s.stopped) step;
    others = λ b h. ap (λ (s : ServerState). s.peers b) step ∙ set-other (ncs_of n).peers d x b h;
    rest = r;
  }

-- a server that stays as it was
pub leaves-same : (n : NcsTables MemoryKeeper) (d : ℕ) → LeavesServer n n d
leaves-same n d = record { journal = refl; stopped = refl; others = λ b h. refl; rest = record { keeper = refl; kept = refl; devices = refl } }

-- the other connections of a list that stays as it was
pub others-same : (xs : List Connection) (d b : ℕ) (lines : ℕ → Line) → (b ≡ d → ⊥) → MatchesConnections xs b lines → MatchesConnections xs b lines
others-same xs d b lines h m = m

pub server-opened : (x : Line) → x.opener ≡ TheServer → IsOpened x
server-opened x e h = let no : TheServer ≡ Nobody = sym e ∙ h in absurd (cc)

pub device-opened : (x : Line) → x.opener ≡ TheDevice → IsOpened x
device-opened x e h = let no : TheDevice ≡ Nobody = sym e ∙ h in absurd (cc)
