-- What holds of messages as tokens and of reading them token by token.
use Rattle.std.specs.Prelude.{◌≡◌, List, [], ◌∷◌, ◌++◌, Ok, Err, ◌↔◌}
use Rattle.mos_tables.specs.Events.{Event}
use Rattle.mos_grammar.specs.Tokens.{Token}
use Rattle.mos_grammar.specs.declared.fault.Fault.{Fault}
use Rattle.mos_grammar.specs.RecordMachine.{complete}
use Rattle.mos_grammar.specs.Streams.{Stage, IsMessage, BeginsMessage, Position, before_message, inside, message_step, message_run}

-- The tokens of a message with this value, and no others, are read to its end.
abbrev pub MessagesAreRead : Type 0
MessagesAreRead = (g : Stage) (v : List Event) (ts : List Token) → IsMessage g v ts ↔ (message_run (before_message g) ts ≡ Ok (inside (complete v)))

-- Tokens are read where they begin a message, and nowhere else.
abbrev pub BeginningsAreRead : Type 0
BeginningsAreRead = (g : Stage) (ts : List Token) → BeginsMessage g ts ↔ ((p : Position) × (message_run (before_message g) ts ≡ Ok p))

-- A token that is rejected begins no message behind the tokens before it.
abbrev pub RejectedBeginsNone : Type 0
RejectedBeginsNone = (g : Stage) (ts : List Token) (p : Position) (t : Token) (k : Fault) → message_run (before_message g) ts ≡ Ok p → message_step p t ≡ Err k
    → BeginsMessage g (ts ++ t ∷ []) → ⊥

-- No message begins another one, and no tokens are messages of two values.
abbrev pub MessagesAreApart : Type 0
MessagesAreApart = (g : Stage) (v w : List Event) (ts more : List Token) → IsMessage g v ts → IsMessage g w (ts ++ more) → (more ≡ []) × (v ≡ w)
