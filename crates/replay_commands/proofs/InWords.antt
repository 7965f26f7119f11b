-- What a run told of its input, without what the machine found.
use Rattle.std.proofs.Common.{◌≡◌, ℕ, suc, List, [], ◌∷◌, ◌++◌, length, Option, refl, sym, ap, subst, ◌∙◌}
use Rattle.std.specs.List.{AllByRecursion}
use Rattle.std.proofs.lemmas.List.{append-nil}
use Rattle.mos_fields.specs.Characters.{units_in}
use Rattle.mos_io.specs.Bytes.{Appends}
use Rattle.mos_tables.specs.Events.{Event}
use Rattle.mos_lexer.specs.Units.{Found}
use Rattle.mos_rejections.specs.Laws.{values}
use Rattle.input_laws.specs.Words.{IsStream, IsRejected}
use Rattle.mos_values.specs.MessageViews.{envelope_events}
use Rattle.mos_values.specs.declared.message.Envelope.{Envelope}
use Rattle.device_answers.specs.Taking.{AreMessages, refused_text}
use Rattle.stream_commands.specs.Lines.{count_line, refused_line}
use Rattle.replay_commands.specs.Commands.{Command, RejectedBy, WholeBy}
use Rattle.replay_commands.specs.Commands.Command.{Take, Show, Check, Replay, Make}
use Rattle.replay_commands.specs.InWords.{IsPinned, values_of, ToldOfRejected, ToldOfStream}

-- the values that were found are those of the envelopes
record AreThese (found : List Found) (es : List Envelope) : Type 0 where
  pub same : values found ≡ values_of es
  pub pinned : AllByRecursion IsPinned es

are_these : (found : List Found) (es : List Envelope) → AreMessages found es → AreThese found es
are_these [] [] m = record { same = refl; pinned = tt }
are_these [] (e ∷ es) m = absurd m
are_these (f ∷ fs) [] m = absurd m
are_these (f ∷ fs) (e ∷ es) (is, named, fits, more) =
    let t = are_these fs es more in
    record {
      same = ap (λ (z : List Event). z ∷ values fs) (sym is) ∙ ap (λ (z : List (List Event)). envelope_events e ∷ z) t.same;
      pinned = (record { named = named; in_range = fits }, t.pinned);
    }

count_values : (fs : List Found) → length (values fs) ≡ length fs
count_values [] = refl
count_values (f ∷ fs) = ap suc (count_values fs)

pub stream_in_words : (c : Command) (wb wa : Option (List ℕ)) (input : List ℕ) → WholeBy c wb wa input → ToldOfStream c wb wa input
stream_in_words Take wb wa input d =
    let t = are_these d.found d.tells.0 d.tells.1 in
    record {
      envelopes = d.tells.0;
      pinned = t.pinned;
      stream = subst (IsStream input) t.same d.stream;
      writes = subst (Appends wb wa) (append-nil d.text ∙ d.tells.2) d.writes;
    }
stream_in_words Show wb wa input d = record { found = d.found; stream = d.stream; writes = subst (Appends wb wa) (append-nil d.text ∙ d.tells) d.writes }
stream_in_words Check wb wa input d = record {
  messages = values d.found;
  stream = d.stream;
  writes = subst (Appends wb wa) (ap (λ (z : List ℕ). z ++ count_line (length d.found) (length (units_in input))) d.tells ∙ ap (λ (z : ℕ). count_line z (length (units_in input))) (sym (count_values d.found))) d.writes;
}
stream_in_words Replay wb wa input d = tt
stream_in_words (Make n) wb wa input d = tt

pub rejected_in_words : (c : Command) (wb wa : Option (List ℕ)) (input : List ℕ) → RejectedBy c wb wa input → ToldOfRejected c wb wa input
rejected_in_words Take wb wa input d =
    let t = are_these d.found d.tells.0 d.tells.1 in
    record {
      envelopes = d.tells.0;
      pinned = t.pinned;
      place = d.place;
      kind = d.kind;
      rejected = subst (λ (z : List (List Event)). IsRejected input z d.place d.kind) t.same d.rejected;
      writes = subst (Appends wb wa) (ap (λ (z : List ℕ). z ++ refused_text d.place d.kind) d.tells.2) d.writes;
    }
rejected_in_words Show wb wa input d = record {
  found = d.found;
  place = d.place;
  kind = d.kind;
  rejected = d.rejected;
  writes = subst (Appends wb wa) (ap (λ (z : List ℕ). z ++ refused_line d.place d.kind) d.tells) d.writes;
}
rejected_in_words Check wb wa input d = record {
  messages = values d.found;
  place = d.place;
  kind = d.kind;
  rejected = d.rejected;
  writes = subst (Appends wb wa) (ap (λ (z : List ℕ). z ++ refused_line d.place d.kind) d.tells) d.writes;
}
rejected_in_words Replay wb wa input d = tt
rejected_in_words (Make n) wb wa input d = tt
