-- What was read, and why no more is.
use Rattle.std.specs.Prelude.{◌≡◌, ℕ, ◌<◌, ◌≤◌, ◌⊎◌, true, false, List, [], ◌∷◌, ◌++◌, length, map, Option, Some, None}
use Rattle.std.specs.List.{AllByRecursion}
use Rattle.mos_codec.specs.Decoding.{DecoderState, HasTaken, IsRead, IsRejected, bytes_behind, rests, with_ready}
use Rattle.mos_decoder.specs.Bytes.{ByteStream}
use Rattle.mos_io.specs.Bytes.{IsAtEnd, Takes}
use Rattle.mos_io.specs.Counts.{Rose}
use Rattle.mos_lexer.specs.Units.{Found as FoundOf}
use Rattle.mos_lexer.specs.declared.kind.Kind.{Kind}
use Rattle.mos_message_reading.specs.Values.{IsNamed}
use Rattle.mos_values.specs.MessageViews.{envelope_events}
use Rattle.mos_values.specs.Sound.{IsSound}
use Rattle.mos_values.specs.declared.message.Envelope.{Envelope}
use Rattle.shared_machine.specs.History.{StartsWith}
use Rattle.value_laws.specs.Ranges.{IsInRange}
use Rattle.port_session.specs.declared.inlet.Inlet.{Inlet}
use Rattle.port_session.specs.declared.inlet.Rejection.{Rejection}
use Rattle.port_session.specs.declared.inlet.Next.{Next}
use Rattle.port_session.specs.declared.inlet.Next.TheVariants.{Message, More, Over}
use Rattle.port_session.specs.declared.end.End.{End}
use Rattle.port_session.specs.declared.end.End.TheVariants.{Closed, Truncated, BadMessage, ReadFault, WriteFault, Budget, Stale, Unasked, Stopped, NoMemory}

-- ---- messages

-- the envelopes have the events of these messages
abbrev pub Carries : List FoundOf → List Envelope → Type 0
Carries found given = map (λ (f : FoundOf). f.value) found ≡ map envelope_events given

-- A message as it is handed out: its events and these three facts pin it.
pub record IsWhole (e : Envelope) : Type 0 where
  pub named : IsNamed e.message
  pub in_range : IsInRange e.message
  pub sound : IsSound e.message

-- these are all the messages of the bytes, whether the stream goes on behind them or is rejected there
abbrev pub AreMessages : List ℕ → List FoundOf → Type 0
AreMessages bytes found = ((s : ByteStream) × IsRead bytes found s) ⊎ ((place : ℕ) × (kind : Kind) × IsRejected bytes found place kind)

-- these are the first messages of a front of the bytes
abbrev pub AreFirst : List ℕ → List FoundOf → Type 0
AreFirst bytes found = (front : List ℕ) × (all : List FoundOf) × StartsWith bytes front × StartsWith all found × AreMessages front all

-- ---- reading on

-- The messages that were handed out, and behind them those that are ready, are all the messages of the bytes read. Behind
-- them the stream goes on, or is rejected.
abbrev pub Stands : Option Rejection → DecoderState → List ℕ → List FoundOf → Type 0
Stands None d read found = HasTaken d read found
Stands (Some r) d read found = IsRejected read (with_ready found d.ready) r.place r.kind

-- Since the source had `l` left, and had counted `f` faults, it gave the bytes read, of which these messages were handed
-- out.
pub record Reads (l : Option (List ℕ)) (f : ℕ) (l' : Option (List ℕ)) (f' : ℕ) (d : DecoderState) (rejection : Option Rejection) (count budget : ℕ) (given : List Envelope) : Type 0 where
  pub read : List ℕ
  pub found : List FoundOf
  pub took : Takes l l' read
  pub rises : f ≤ f'
  pub carried : Carries found given
  pub whole : AllByRecursion IsWhole given
  pub counted : length read ≡ count
  pub within : count ≤ budget
  pub stands : Stands rejection d read found

abbrev pub InletReads : Option (List ℕ) → ℕ → Option (List ℕ) → ℕ → Inlet → List Envelope → Type 0
InletReads l f l' f' inlet given = Reads l f l' f' inlet.decoder inlet.rejection inlet.count inlet.budget given

-- ---- the end

-- Why no more is read behind these messages. `l` is what the source has left then.
abbrev pub Ceased : Option (List ℕ) → ℕ → ℕ → ℕ → List ℕ → List FoundOf → End → Type 0
Ceased l f f' budget read found Closed = IsAtEnd l × (length read < budget) × ((s : ByteStream) × IsRead read found s × (rests s ≡ true))
Ceased l f f' budget read found (Truncated n) = IsAtEnd l × (length read < budget) × ((s : ByteStream) × IsRead read found s × (rests s ≡ false) × (n ≡ bytes_behind s))
Ceased l f f' budget read found (BadMessage place kind) = IsRejected read found place kind
Ceased l f f' budget read found ReadFault = Rose f f' × (length read < budget) × ((s : ByteStream) × IsRead read found s)
Ceased l f f' budget read found Budget = (length read ≡ budget) × ((s : ByteStream) × IsRead read found s)
Ceased l f f' budget read found NoMemory = AreFirst read found
Ceased l f f' budget read found WriteFault = ⊥
Ceased l f f' budget read found Stale = ⊥
Ceased l f f' budget read found Unasked = ⊥
Ceased l f f' budget read found Stopped = ⊥

-- These messages were handed out, and are all of the bytes read; where memory ran out they are the first of them.
pub record Halts (l : Option (List ℕ)) (f : ℕ) (l' : Option (List ℕ)) (f' : ℕ) (budget : ℕ) (given : List Envelope) (end : End) : Type 0 where
  pub read : List ℕ
  pub found : List FoundOf
  pub took : Takes l l' read
  pub rises : f ≤ f'
  pub carried : Carries found given
  pub whole : AllByRecursion IsWhole given
  pub within : length read ≤ budget
  pub ceased : Ceased l' f f' budget read found end

-- so many bytes were read, and no more is
abbrev pub Halted : Option (List ℕ) → ℕ → Option (List ℕ) → ℕ → ℕ → ℕ → List Envelope → End → Type 0
Halted l f l' f' budget count given end = (h : Halts l f l' f' budget given end) × (length h.read ≡ count)

-- one more message is handed out, or one read gave none, or no more is read
abbrev pub Advances : Option (List ℕ) → ℕ → Option (List ℕ) → ℕ → Inlet → List Envelope → Next → Type 0
Advances l f l' f' inlet given (Message e) = InletReads l f l' f' inlet (given ++ e ∷ [])
Advances l f l' f' inlet given More = InletReads l f l' f' inlet given
Advances l f l' f' inlet given (Over end) = Halted l f l' f' inlet.budget inlet.count given end

-- Where no message is handed out and more is to be read, bytes were read.
abbrev pub GoesOn : Next → ℕ → ℕ → Type 0
GoesOn (Message e) before after = Unit {0}
GoesOn More before after = before < after
GoesOn (Over end) before after = Unit {0}

-- what the end of a source is, by what stands behind the last message
abbrev pub EndedAt : ByteStream → End → Type 0
EndedAt s Closed = rests s ≡ true
EndedAt s (Truncated n) = (rests s ≡ false) × (n ≡ bytes_behind s)
EndedAt s (BadMessage place kind) = ⊥
EndedAt s ReadFault = ⊥
EndedAt s WriteFault = ⊥
EndedAt s Budget = ⊥
EndedAt s Stale = ⊥
EndedAt s Unasked = ⊥
EndedAt s Stopped = ⊥
EndedAt s NoMemory = ⊥
