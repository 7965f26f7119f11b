-- The laws of messages as tokens.
use Rattle.std.proofs.Common.{◌≡◌, [], ◌∷◌, ◌++◌, Result, Ok, Err, sym, ap, ◌∙◌}
use Rattle.mos_grammar.specs.declared.fault.Fault.{Fault}
use Rattle.mos_grammar.specs.Streams.{Position, before_message, message_step, then_position, message_run}
use Rattle.mos_grammar.specs.Laws.{MessagesAreRead, BeginningsAreRead, RejectedBeginsNone, MessagesAreApart}
use Rattle.mos_grammar.proofs.StreamProofs.{message_runs, runs_message, message_runs_begin, message_begins_run, message_run_append, one_form}

pub messages_read : MessagesAreRead
messages_read g v ts = (message_runs g v ts, runs_message g v ts)

pub beginnings_read : BeginningsAreRead
beginnings_read g ts = (message_begins_run g ts, λ h. message_runs_begin g ts h.0 h.1)

pub rejected_begins_none : RejectedBeginsNone
unfolding message_run
rejected_begins_none g ts p t k run step begins =
    let r = message_begins_run g (ts ++ t ∷ []) begins in
    let e : message_run (before_message g) (ts ++ t ∷ []) ≡ then_position (message_step p t) (λ w. message_run w []) = message_run_append ts (t ∷ []) (before_message g) p run in
    clash r.0 (sym r.1 ∙ e ∙ ap (λ (o : Result Position Fault). then_position o (λ w. message_run w [])) step)
  where
    clash : (q : Position) → ◌≡◌ {A = Result Position Fault} (Ok q) (Err k) → ⊥
    clash q e = cc

pub messages_apart : MessagesAreApart
messages_apart g v w ts more a b = one_form g v w ts more a b
