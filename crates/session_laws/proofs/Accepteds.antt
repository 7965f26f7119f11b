-- What is served is accepted.
use Rattle.std.proofs.Common.{◌≡◌, ℕ, Bool, true, false, ◌&&◌, cond, inl, inr, List, [], ◌∷◌, ◌++◌, map, refl, sym, ap, ◌∙◌, subst, append-nil, append_assoc}
use mathlib.Core.List.{map-append}
use Rattle.std.proofs.lemmas.Slice.Eq.{bytes_eq-Decides}
use Rattle.std.specs.Str.{bytes_eq}
use Rattle.mos_values.specs.declared.message.Envelope.{Envelope}
use Rattle.port_events.specs.declared.answer.PortAnswer.{PortAnswer}
use Rattle.port_events.specs.declared.answer.PortAnswer.TheVariants.{Done, Stale as stale, Unasked as unasked}
use Rattle.port_events.specs.declared.event.PortEvent.{PortEvent}
use Rattle.port_events.specs.declared.event.Side.{Side}
use Rattle.port_events.specs.declared.event.Side.TheVariants.{Upper, Lower, Editor}
use Rattle.port_events.specs.declared.event.What.TheVariants.{Accepted, EndedIn, Heard}
use Rattle.port_session.specs.Answering.{LastFails}
use Rattle.port_session.specs.Events.{event}
use Rattle.port_session.specs.Messages.{IsFor, IsForSide}
use Rattle.port_session.specs.Serving.{Call, Hears, Opens, Serve, Serves, Turned}
use Rattle.port_session.specs.declared.end.End.{End}
use Rattle.port_session.specs.declared.end.End.TheVariants.{Stale, Unasked, WriteFault}
use Rattle.port_session.specs.declared.port.Port.{Port}
use Rattle.port_session.proofs.Servings.{serves_more}
use Rattle.session_laws.specs.Accepted.{IsCut, accepted, after_accepted, heard, is_for, is_for_side}

abbrev first : Call → PortEvent
first c = c.0

abbrev events : List Call → List PortEvent
events calls = map first calls

-- ---- names

both_true : (a b : Bool) → a ≡ true → b ≡ true → (a && b) ≡ true
both_true true b e f = f
both_true false b e f = e

left_true : (a b : Bool) → (a && b) ≡ true → a ≡ true
left_true true b e = refl
left_true false b e = e

right_true : (a b : Bool) → (a && b) ≡ true → b ≡ true
right_true true b e = e
right_true false b e = cc

pub for_side : (side : Side) (p : Port) (e : Envelope) → (is_for_side side p e ≡ true → IsForSide side p e) × (IsForSide side p e → is_for_side side p e ≡ true)
for_side Upper p e = let m = bytes_eq-Decides e.mos p.mos in let n = bytes_eq-Decides e.ncs p.ncs in
    (λ h. (m.0 (left_true (bytes_eq e.mos p.mos) (bytes_eq e.ncs p.ncs) h), n.0 (right_true (bytes_eq e.mos p.mos) (bytes_eq e.ncs p.ncs) h)), λ h. both_true (bytes_eq e.mos p.mos) (bytes_eq e.ncs p.ncs) (m.1 h.0) (n.1 h.1))
for_side Lower p e = let m = bytes_eq-Decides e.mos p.mos in let n = bytes_eq-Decides e.ncs p.ncs in
    (λ h. (m.0 (left_true (bytes_eq e.mos p.mos) (bytes_eq e.ncs p.ncs) h), n.0 (right_true (bytes_eq e.mos p.mos) (bytes_eq e.ncs p.ncs) h)), λ h. both_true (bytes_eq e.mos p.mos) (bytes_eq e.ncs p.ncs) (m.1 h.0) (n.1 h.1))
for_side Editor p e = let n = bytes_eq-Decides e.ncs p.ncs in (λ h. n.0 h, λ h. n.1 h)

not_true : (b : Bool) → (b ≡ true → ⊥) → b ≡ false
not_true true f = absurd (f refl)
not_true false f = refl

-- ---- the events told, where Accepted was told before or not

abbrev told : Port → Bool → List PortEvent → List PortEvent
told p true xs = xs
told p false xs = after_accepted p xs

heard_one : (p : Port) (e : Envelope) (es : List Envelope) → IsFor p e → heard p (e ∷ es) ≡ event p (Heard e.message) ∷ heard p es
heard_one p e es is = ap (λ (b : Bool). cond b (event p (Heard e.message) ∷ heard p es) (heard p es)) ((for_side p.side p e).1 is)

heard_none : (p : Port) (e : Envelope) (es : List Envelope) → (IsFor p e → ⊥) → heard p (e ∷ es) ≡ heard p es
heard_none p e es ne = ap (λ (b : Bool). cond b (event p (Heard e.message) ∷ heard p es) (heard p es)) (not_true (is_for p e) (λ h. ne ((for_side p.side p e).0 h)))

opened : (p : Port) (on : Bool) (before : List Call) (x : PortEvent) (xs : List PortEvent) → Opens p on before → events before ++ (x ∷ xs) ≡ told p on (x ∷ xs)
opened p true before x xs o = ap (λ (l : List Call). events l ++ (x ∷ xs)) o
opened p false before x xs o = ap (λ (l : List Call). events l ++ (x ∷ xs)) o.2

hears_events : (p : Port) (on : Bool) (e : Envelope) (calls : List Call) (a : PortAnswer) (more : List PortEvent) → Hears p on e calls a → events calls ++ more ≡ told p on (event p (Heard e.message) ∷ more)
hears_events p on e calls a more h =
    let x : PortEvent = event p (Heard e.message) in
    let one : events calls ≡ events h.1.0 ++ x ∷ [] = ap events h.1.2 ∙ map-append first h.1.0 ((x, a) ∷ []) in
    ap (λ (l : List PortEvent). l ++ more) one ∙ (append_assoc (events h.1.0) (x ∷ []) more ∙ opened p on h.1.0 x more h.1.1)

served_events : (p : Port) (on : Bool) (es : List Envelope) (calls : List Call) (out : List ℕ) (later : Bool) → Serves p on es calls out later → events calls ≡ told p on (heard p es)
served_events p true [] calls out later s = ap events s.0
served_events p false [] calls out later s = ap events s.0
served_events p on (e ∷ es) calls out later (now, rest, front, back, mid, inl one, more, c, o) =
    let r : events rest ≡ told p on (heard p es) = subst (λ (b : Bool). events rest ≡ told p b (heard p es)) one.3 (served_events p mid es rest back later more) in
    ap events c ∙ (ap (λ (l : List Call). events (l ++ rest)) one.1 ∙ (r ∙ ap (told p on) (sym (heard_none p e es one.0))))
served_events p on (e ∷ es) calls out later (now, rest, front, back, mid, inr one, more, c, o) =
    let r : events rest ≡ heard p es = subst (λ (b : Bool). events rest ≡ told p b (heard p es)) one.0 (served_events p mid es rest back later more) in
    ap events c ∙ (map-append first now rest ∙ (ap (λ (l : List PortEvent). events now ++ l) r
    ∙ (hears_events p on e now one.1.0 (heard p es) one.1.2 ∙ ap (told p on) (sym (heard_one p e es one.1.2.0)))))

pub served : (p : Port) (es : List Envelope) (calls : List Call) (out : List ℕ) (on : Bool) → Serves p false es calls out on → events calls ++ event p EndedIn ∷ [] ≡ accepted p es
served p es calls out on s = ap (λ (l : List PortEvent). l ++ event p EndedIn ∷ []) (served_events p false es calls out on s)

-- ---- the last message

pub unwritten : (p : Port) (es : List Envelope) (calls : List Call) (out : List ℕ) (n m : ℕ) → LastFails p es calls out n m WriteFault → events calls ++ event p EndedIn ∷ [] ≡ accepted p es
unwritten p es calls out n m l =
    let last = l.fails.1 in
    let all = serves_more p false l.on last.1 l.before l.last l.first_calls l.last_calls l.first_out last.0 l.serves last.2 in
    let told : events (l.first_calls ++ l.last_calls) ++ event p EndedIn ∷ [] ≡ accepted p (l.before ++ l.last ∷ []) = served p (l.before ++ l.last ∷ []) (l.first_calls ++ l.last_calls) (l.first_out ++ last.0) last.1 all in
    ap (λ (c : List Call). events c ++ event p EndedIn ∷ []) l.calls_are ∙ (told ∙ ap (accepted p) (sym l.messages))

-- a message that was heard could have been answered otherwise
otherwise : (p : Port) (on : Bool) (e : Envelope) (calls : List Call) (a : PortAnswer) → Hears p on e calls a → (other : List Call) × (events other ≡ events calls) × Serve p on e other [] true
otherwise p on e calls a h =
    let x : PortEvent = event p (Heard e.message) in (
      h.1.0 ++ (x, Done) ∷ [],
      map-append first h.1.0 ((x, Done) ∷ []) ∙ (sym (map-append first h.1.0 ((x, a) ∷ [])) ∙ sym (ap events h.1.2)),
      inr (refl, (Done, tt, (h.0, (h.1.0, h.1.1, refl)), refl)),
    )

heard_last : (p : Port) (es : List Envelope) (calls : List Call) (n m : ℕ) (end : End) (out : List ℕ) (l : LastFails p es calls out n m end) (a : PortAnswer) → Hears p l.on l.last l.last_calls a → events calls ++ event p EndedIn ∷ [] ≡ accepted p es
heard_last p es calls n m end out l a h =
    let o = otherwise p l.on l.last l.last_calls a h in
    let all = serves_more p false l.on true l.before l.last l.first_calls o.0 l.first_out [] l.serves o.2 in
    let told : events (l.first_calls ++ o.0) ++ event p EndedIn ∷ [] ≡ accepted p (l.before ++ l.last ∷ []) = served p (l.before ++ l.last ∷ []) (l.first_calls ++ o.0) (l.first_out ++ []) true all in
    let same : events (l.first_calls ++ l.last_calls) ≡ events (l.first_calls ++ o.0) =
    map-append first l.first_calls l.last_calls ∙ (ap (λ (x : List PortEvent). events l.first_calls ++ x) (sym o.1) ∙ sym (map-append first l.first_calls o.0)) in
    ap (λ (c : List Call). events c ++ event p EndedIn ∷ []) l.calls_are ∙ (ap (λ (x : List PortEvent). x ++ event p EndedIn ∷ []) same ∙ (told ∙ ap (accepted p) (sym l.messages)))

apart : true ≡ false → ⊥
apart e = cc

stays_on : (p : Port) (on : Bool) (es : List Envelope) (calls : List Call) (out : List ℕ) (later : Bool) → on ≡ true → Serves p on es calls out later → later ≡ true
stays_on p on [] calls out later e s = s.2 ∙ e
stays_on p on (x ∷ es) calls out later e (now, rest, front, back, mid, inl one, more, c, o) = stays_on p mid es rest back later (one.3 ∙ e) more
stays_on p on (x ∷ es) calls out later e (now, rest, front, back, mid, inr one, more, c, o) = stays_on p mid es rest back later one.0 more

-- where Accepted wasn't told, nothing was
none_told : (p : Port) (on : Bool) (es : List Envelope) (calls : List Call) (out : List ℕ) (later : Bool) → later ≡ false → Serves p on es calls out later → calls ≡ []
none_told p on [] calls out later e s = s.0
none_told p on (x ∷ es) calls out later e (now, rest, front, back, mid, inl one, more, c, o) = c ∙ (ap (λ (l : List Call). l ++ rest) one.1 ∙ none_told p mid es rest back later e more)
none_told p on (x ∷ es) calls out later e (now, rest, front, back, mid, inr one, more, c, o) = absurd (apart (sym (stays_on p mid es rest back later one.0 more) ∙ e))

cut_at : (p : Port) (es : List Envelope) (calls : List Call) (n m : ℕ) (end : End) (out : List ℕ) (l : LastFails p es calls out n m end) (a : PortAnswer) → Turned p l.on l.last l.last_calls a → IsCut p es calls
cut_at p es calls n m end out l a (inl h) = inl (heard_last p es calls n m end out l a h)
cut_at p es calls n m end out l a (inr t) =
    let none = none_told p false l.before l.first_calls l.first_out l.on t.1 l.serves in
    inr (ap events l.calls_are ∙ (ap (λ (c : List Call). events (c ++ l.last_calls)) none ∙ ap events t.2))

pub cut_stale : (p : Port) (es : List Envelope) (calls : List Call) (out : List ℕ) (n m : ℕ) → LastFails p es calls out n m Stale → IsCut p es calls
cut_stale p es calls out n m l = cut_at p es calls n m Stale out l stale (l.fails).0

pub cut_unasked : (p : Port) (es : List Envelope) (calls : List Call) (out : List ℕ) (n m : ℕ) → LastFails p es calls out n m Unasked → IsCut p es calls
cut_unasked p es calls out n m l = cut_at p es calls n m Unasked out l unasked (l.fails).0
