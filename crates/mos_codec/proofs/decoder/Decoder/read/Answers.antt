use Rattle.std.proofs.Common.{◌≡◌, [], ◌++◌, None, Err, refl, sym, subst}
use Rattle.mos_decoder.specs.Bytes.{HasHanded, behind_odd}
use Rattle.mos_fields.specs.Characters.{units_in}
use Rattle.mos_codec.specs.Decoding.{DecoderState, with_ready}
use Rattle.mos_codec.specs.Taking.{TakesFirst, Took}
use Rattle.mos_codec.proofs.Words.{words-ok, words-refused}
use Rattle.mos_codec.proofs.decoder.Decoder.read.Goals as goal

pub returns-in-Ok-clause-first : goal.returns-in-Ok-clause-first
returns-in-Ok-clause-first c = λ e us rest clean h held.
    c.in-Ok.ensures.first e us rest h (subst (λ (z : DecoderState). z.bytes.stream.fault ≡ None) (sym c.self.view_is) clean)
    (subst (λ (z : DecoderState). z.bytes.stream.held ++ units_in (behind_odd z.bytes.odd c.args.piece.now) ≡ us ++ rest) (sym c.self.view_is) held) (subst (λ (z : DecoderState). z.ready ≡ []) (sym c.self.view_is) c.requires.taken)

pub returns-in-Err-Rejected-clause-first : goal.returns-in-Err-Rejected-clause-first
returns-in-Err-Rejected-clause-first c = λ e us rest clean h held.
    subst (λ z. TakesFirst e (Err z) c.take_piece.new.ready.items) c.in-Err-Rejected.field-0-is
    (c.in-Err-Rejected.ensures.first e us rest h (subst (λ (z : DecoderState). z.bytes.stream.fault ≡ None) (sym c.self.view_is) clean)
    (subst (λ (z : DecoderState). z.bytes.stream.held ++ units_in (behind_odd z.bytes.odd c.args.piece.now) ≡ us ++ rest) (sym c.self.view_is) held) (subst (λ (z : DecoderState). z.ready ≡ []) (sym c.self.view_is) c.requires.taken))

pub returns-in-Err-Rejected-clause-tells : goal.returns-in-Err-Rejected-clause-tells
returns-in-Err-Rejected-clause-tells c = λ before found h.
    let t = subst (λ z. Took (before ++ c.args.piece.now) found (Err z) c.take_piece.new.events c.take_piece.new.ready.items) c.in-Err-Rejected.field-0-is
    (c.in-Err-Rejected.ensures.took before found (subst (λ (z : DecoderState). HasHanded z.bytes before (with_ready found z.ready)) (sym c.self.view_is) h.read.handed)) in
    (t.0, t.1)

pub returns-in-Err-Rejected-clause-words : goal.returns-in-Err-Rejected-clause-words
returns-in-Err-Rejected-clause-words c = λ before found h w.
    let t = subst (λ z. Took (before ++ c.args.piece.now) found (Err z) c.take_piece.new.events c.take_piece.new.ready.items) c.in-Err-Rejected.field-0-is
    (c.in-Err-Rejected.ensures.took before found (subst (λ (z : DecoderState). HasHanded z.bytes before (with_ready found z.ready)) (sym c.self.view_is) h.read.handed)) in
    words-refused c.refusals_are_shown.ensures (before ++ c.args.piece.now) found (record { bytes = c.take_piece.new.events; ready = c.take_piece.new.ready.items; began = 0; fault = None }) _ _ w t.0 t.2

pub returns-in-Ok-clause-words : goal.returns-in-Ok-clause-words
returns-in-Ok-clause-words c = λ before found h w.
    words-ok c.streams_go_on.ensures (before ++ c.args.piece.now) found (record { bytes = c.take_piece.new.events; ready = c.take_piece.new.ready.items; began = 0; fault = None }) w
    (record { clean = refl; read = c.in-Ok.ensures.took before found (subst (λ (z : DecoderState). HasHanded z.bytes before (with_ready found z.ready)) (sym c.self.view_is) h.read.handed) })
