-- A message of a connection that this end accepted is served.
use Rattle.std.proofs.Common.{◌≡◌, ℕ, inl, inr, Bool, true, List, [], ◌∷◌, ◌++◌, map, Option, Some, None, refl, sym, ap, ◌∙◌, subst, append_assoc, append-nil, Result, Ok, Err}
use mathlib.Core.List.{map-append}
use Rattle.mos_codec.specs.Codec.{encoding}
use Rattle.mos_io.specs.Bytes.{Appends, AppendsFront}
use Rattle.mos_values.specs.declared.message.Envelope.{Envelope}
use Rattle.mos_values.specs.declared.message.Message.{Message}
use Rattle.port_events.specs.declared.answer.PortAnswer.{PortAnswer}
use Rattle.port_events.specs.declared.answer.PortAnswer.TheVariants.{Done, Say, Nothing, Taken, Unasked as unasked, Stale as stale}
use Rattle.shared_machine.specs.declared.entry.Entry.{Entry}
use Rattle.shared_machine.specs.History.{StartsWith, calls_by}
use Rattle.port_session.specs.Calls.{call_of, Gained}
use Rattle.port_session.specs.Messages.{IsFor, refusal, reply}
use Rattle.port_session.specs.Serving.{Call, said, Hears, Serve, Serves, Fails, Served, Began, Responds}
use Rattle.port_session.specs.Writing.{WriteEnds}
use Rattle.port_session.specs.declared.end.End.{End}
use Rattle.port_session.specs.declared.end.End.TheVariants.{Closed, Truncated, BadMessage, ReadFault, WriteFault, Budget, Stale, Unasked, Stopped, NoMemory}
use Rattle.port_session.specs.declared.port.Port.{Port}

starts_on : {X : Type 0} (a b c : List X) → StartsWith b a → StartsWith c b → StartsWith c a
starts_on a b c s t = (s.0 ++ t.0, t.1 ∙ (ap (λ l. l ++ t.0) s.1 ∙ append_assoc a s.0 t.0))

module _ {M E A : Type 0} (steps : M → E → A → M → Type 0) (refused : M → M → Type 0) (decks_left : M → ℕ) (start : M) where
  pub gains_none : (by : ℕ) (seen : List (Entry E A)) → Gained steps refused decks_left start by seen seen []
  gains_none by seen = record { made = []; begins = ([], sym (append-nil seen)); own = sym (append-nil (calls_by by seen)); are = refl; legal = λ h. h }

  pub gains_more : (by by' : ℕ) (a b c : List (Entry E A)) (x y : List (E × A)) → by' ≡ by → Gained steps refused decks_left start by a b x → Gained steps refused decks_left start by' b c y → Gained steps refused decks_left start by a c (x ++ y)
  gains_more by by' a b c x y same g h0 = let h : Gained steps refused decks_left start by b c y = subst (λ (n : ℕ). Gained steps refused decks_left start n b c y) same h0 in record {
    made = g.made ++ h.made;
    begins = starts_on a b c g.begins h.begins;
    own = h.own ∙ (ap (λ l. l ++ h.made) g.own ∙ append_assoc (calls_by by a) g.made h.made);
    are = map-append call_of g.made h.made ∙ (ap (λ l. l ++ map call_of h.made) g.are ∙ ap (λ l. x ++ l) h.are);
    legal = λ l. h.legal (g.legal l);
  }

pub appends_none : (k : Option (List ℕ)) → Appends k k []
appends_none None = refl
appends_none (Some l) = ap Some (sym (append-nil l))

pub appends_same : (k k' : Option (List ℕ)) → k' ≡ k → Appends k k' []
appends_same k k' e = subst (λ (o : Option (List ℕ)). Appends k o []) (sym e) (appends_none k)

pub appends_more : (a b c : Option (List ℕ)) (x y : List ℕ) → Appends a b x → Appends b c y → Appends a c (x ++ y)
appends_more None b c x y e t = subst (λ (o : Option (List ℕ)). Appends o c y) e t
appends_more (Some l) b c x y e t = let u : Appends (Some (l ++ x)) c y = subst (λ (o : Option (List ℕ)). Appends o c y) e t in u ∙ ap Some (append_assoc l x y)

pub serves_more : (p : Port) (on mid later : Bool) (es : List Envelope) (e : Envelope) (c d : List Call) (x y : List ℕ) → Serves p on es c x mid → Serve p mid e d y later → Serves p on (es ++ e ∷ []) (c ++ d) (x ++ y) later
serves_more p on mid later [] e c d x y s t =
    (d, [], y, [], later, subst (λ (o : Bool). Serve p o e d y later) s.2 t, (refl, refl, refl), ap (λ l. l ++ d) s.0 ∙ sym (append-nil d), ap (λ l. l ++ y) s.1 ∙ sym (append-nil y))
serves_more p on mid later (e' ∷ es) e c d x y s t =
    (s.0, s.1 ++ d, s.2, s.3 ++ y, s.4, s.5, serves_more p s.4 mid later es e s.1 d s.3 y s.6 t, ap (λ l. l ++ d) s.7 ∙ append_assoc s.0 s.1 d, ap (λ l. l ++ y) s.8 ∙ append_assoc s.2 s.3 y)

-- an answer copies the names alone
said_rest : (e : Envelope) (m : Message) (a : PortAnswer) → said (record e { message = m }) a ≡ said e a
said_rest e m (Say w) = refl
said_rest e m Done = refl
said_rest e m Nothing = refl
said_rest e m Taken = refl
said_rest e m unasked = refl
said_rest e m stale = refl

pub responds_rest : (k k' : Option (List ℕ)) (n n' : ℕ) (e : Envelope) (m : Message) (a : PortAnswer) (result : Result Bool End) → Responds k k' n n' (record e { message = m }) a result → Responds k k' n n' e a result
responds_rest k k' n n' e m a (Ok later) r = (r.0, r.1, subst (λ (bytes : List ℕ). Appends k k' bytes) (said_rest e m a) r.2)
responds_rest k k' n n' e m a (Err WriteFault) r = (r.0, subst (λ (bytes : List ℕ). AppendsFront k k' bytes) (said_rest e m a) r.1, r.2)
responds_rest k k' n n' e m a (Err Stale) r = r
responds_rest k k' n n' e m a (Err Unasked) r = r
responds_rest k k' n n' e m a (Err NoMemory) r = r
responds_rest k k' n n' e m a (Err Closed) r = absurd r
responds_rest k k' n n' e m a (Err (Truncated z)) r = absurd r
responds_rest k k' n n' e m a (Err (BadMessage z c)) r = absurd r
responds_rest k k' n n' e m a (Err ReadFault) r = absurd r
responds_rest k k' n n' e m a (Err Budget) r = absurd r
responds_rest k k' n n' e m a (Err Stopped) r = absurd r

-- a message for another end, where its refusal couldn't be written
pub turned_away : (p : Port) (on : Bool) (e : Envelope) (k k' : Option (List ℕ)) (n n' : ℕ) (end : End) → (IsFor p e → ⊥) → WriteEnds k k' n n' (encoding (reply e (refusal p.side e.message))) end
    → (out : List ℕ) × Appends k k' out × Fails p on e [] out n n' end
turned_away p on e k k' n n' WriteFault ne w = (w.0.0, w.0.3, (w.1, (encoding (reply e (refusal p.side e.message)), on, inl (ne, refl, refl, refl), (w.0.1, w.0.2))))
turned_away p on e k k' n n' NoMemory ne w = ([], appends_same k k' w, (inl refl, refl))
turned_away p on e k k' n n' Closed ne w = absurd w
turned_away p on e k k' n n' (Truncated m) ne w = absurd w
turned_away p on e k k' n n' (BadMessage m c) ne w = absurd w
turned_away p on e k k' n n' ReadFault ne w = absurd w
turned_away p on e k k' n n' Budget ne w = absurd w
turned_away p on e k k' n n' Stale ne w = absurd w
turned_away p on e k k' n n' Unasked ne w = absurd w
turned_away p on e k k' n n' Stopped ne w = absurd w

pub not_accepted : (p : Port) (on : Bool) (e : Envelope) (calls : List Call) (n n' : ℕ) (end : End) → IsFor p e → Began p on calls (Err end) → Fails p on e calls [] n n' end
not_accepted p on e calls n n' Stale is o = (inr (is, o.0, o.1), refl)
not_accepted p on e calls n n' Unasked is o = (inr (is, o.0, o.1), refl)
not_accepted p on e calls n n' NoMemory is o = (inl o, refl)
not_accepted p on e calls n n' Closed is o = absurd o
not_accepted p on e calls n n' (Truncated m) is o = absurd o
not_accepted p on e calls n n' (BadMessage m c) is o = absurd o
not_accepted p on e calls n n' ReadFault is o = absurd o
not_accepted p on e calls n n' WriteFault is o = absurd o
not_accepted p on e calls n n' Budget is o = absurd o
not_accepted p on e calls n n' Stopped is o = absurd o

pub responded : (p : Port) (on : Bool) (e : Envelope) (calls : List Call) (a : PortAnswer) (k k' : Option (List ℕ)) (n n' : ℕ) (result : Result Bool End) → Hears p on e calls a → Responds k k' n n' e a result
    → (out : List ℕ) × Appends k k' out × Served p on e calls out n n' result
responded p on e calls a k k' n n' (Ok later) h r = (said e a, r.2, inr (r.0, (a, r.1, h, refl)))
responded p on e calls a k k' n n' (Err WriteFault) h r = (r.1.0, r.1.3, (r.2, (said e a, true, inr (refl, (a, r.0, h, refl)), (r.1.1, r.1.2))))
responded p on e calls a k k' n n' (Err Stale) h r = ([], appends_same k k' r.1, (inl (subst (λ (b : PortAnswer). Hears p on e calls b) r.0 h), refl))
responded p on e calls a k k' n n' (Err Unasked) h r = ([], appends_same k k' r.1, (inl (subst (λ (b : PortAnswer). Hears p on e calls b) r.0 h), refl))
responded p on e calls a k k' n n' (Err NoMemory) h r = ([], appends_same k k' r.1, (inr (inr (a, r.0, h)), refl))
responded p on e calls a k k' n n' (Err Closed) h r = absurd r
responded p on e calls a k k' n n' (Err (Truncated m)) h r = absurd r
responded p on e calls a k k' n n' (Err (BadMessage m c)) h r = absurd r
responded p on e calls a k k' n n' (Err ReadFault) h r = absurd r
responded p on e calls a k k' n n' (Err Budget) h r = absurd r
responded p on e calls a k k' n n' (Err Stopped) h r = absurd r
