-- The lines of a device, part after part.
use Rattle.std.proofs.Common.{◌≡◌, ℕ, List, ◌∷◌, ◌++◌, Result, Ok, Err, OnOk, codes, sym, ap, ◌∙◌}
use Rattle.std.specs.Fmt.{decimal}
use Rattle.std.specs.List.{flat_map}
use Rattle.std.proofs.lemmas.List.{append_assoc}
use Rattle.mos_edits.specs.Texts.{Text}
use Rattle.mos_edits.specs.Entries.{Entry}
use Rattle.mos_machines.specs.Server.{PeerState}
use Rattle.mos_machines.specs.Device.{GateState}
use Rattle.ncs_core.specs.Listed.{is_viewed, IsListOf}
use Rattle.world_laws.specs.World.{Pairing}
use Rattle.world_scripts.specs.Lines.{utf8}
use Rattle.world_scripts.specs.Listing.{line, upper_words, view_words, connection_word, asked_words, phase_word, order_words, device_lines}
use Rattle.state_listing.specs.Told.{AreDeviceLines}
use Rattle.state_listing.proofs.ToldOrders.{views-listed}

abbrev pub server_part : ℕ → PeerState → List ℕ
server_part d peer = line (codes "server" ∷ decimal d ∷ upper_words peer.upper)

abbrev pub views_part : ℕ → PeerState → List Text → List ℕ
views_part d peer viewed = flat_map (λ (r : Text). line (codes "view" ∷ decimal d ∷ utf8 r ∷ view_words (peer.views r))) viewed

abbrev pub device_part : ℕ → GateState → List ℕ
device_part d gate = line (codes "device" ∷ decimal d ∷ codes "upper" ∷ connection_word gate.upper ∷ codes "dial" ∷ connection_word gate.link ∷ asked_words gate.out)

abbrev pub held_part : ℕ → GateState → (Text → ℕ) → List Text → List ℕ
held_part d gate applied known = flat_map (λ (r : Text). line (codes "held" ∷ decimal d ∷ utf8 r ∷ phase_word (gate.phase r) ∷ decimal (applied r) ∷ order_words (gate.held r))) known

abbrev parts : ℕ → PeerState → GateState → (Text → ℕ) → List Text → List ℕ
parts d peer gate applied viewed = server_part d peer ++ views_part d peer viewed ++ device_part d gate ++ held_part d gate applied gate.known

-- the lines of a pairing are those of its parts
pairing-lines : (d : ℕ) (l : Pairing) (peer : PeerState) (gate : GateState) (applied : Text → ℕ) (viewed : List Text) → l.peer ≡ peer → l.gate ≡ gate → ((r : Text) → l.applied r ≡ applied r)
    → device_lines d l viewed ≡ parts d peer gate applied viewed
pairing-lines d l peer gate applied viewed p g a =
    ap (λ (q : PeerState). parts d q l.gate l.applied viewed) p ∙ (ap (λ (h : GateState). parts d peer h l.applied viewed) g ∙ ap (λ (f : Text → ℕ). parts d peer gate f viewed) (λ i. λ r. a r i))

-- four parts, one behind the other
four : (x a b c e y z u v : List ℕ) → y ≡ x ++ a → z ≡ y ++ b → u ≡ z ++ c → v ≡ u ++ e → v ≡ x ++ (a ++ b ++ c ++ e)
four x a b c e y z u v h i j k =
    k ∙ (ap (λ w. w ++ e) (j ∙ ap (λ w. w ++ c) (i ∙ ap (λ w. w ++ b) h)) ∙ (ap (λ w. w ++ c ++ e) (append_assoc x a b) ∙ (ap (λ w. w ++ e) (append_assoc x (a ++ b) c) ∙ append_assoc x (a ++ b ++ c) e)))

pub device-told : {A E : Type 0} (o : Result A E) (journal : List Entry) (d : ℕ) (peer : PeerState) (gate : GateState) (applied : Text → ℕ) (viewed known : List Text) (x y z u v : List ℕ)
    → IsListOf (is_viewed journal peer) viewed → known ≡ gate.known → y ≡ x ++ server_part d peer → z ≡ y ++ views_part d peer viewed → u ≡ z ++ device_part d gate → OnOk o (v ≡ u ++ held_part d gate applied known)
    → OnOk o (AreDeviceLines journal d peer gate applied x v)
device-told (Err fault) journal d peer gate applied viewed known x y z u v lists ids server views device held = tt
device-told (Ok a) journal d peer gate applied viewed known x y z u v lists ids server views device held =
    let all : v ≡ u ++ held_part d gate applied gate.known = held ∙ ap (λ (rs : List Text). u ++ held_part d gate applied rs) ids in
    record {
      viewed = viewed;
      lists = λ l same. views-listed journal l peer viewed lists same;
      lines = λ l p g f.
          four x (server_part d peer) (views_part d peer viewed) (device_part d gate) (held_part d gate applied gate.known) y z u v server views device all
          ∙ ap (λ w. x ++ w) (sym (pairing-lines d l peer gate applied viewed p g f));
    }
