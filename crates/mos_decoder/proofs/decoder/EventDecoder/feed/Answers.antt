use Rattle.std.proofs.Common.{◌≡◌, ◌+◌, ◌≤◌, ◌++◌, ◌∙◌, length, refl, sym, ap, subst, arith}
use Rattle.mos_fields.specs.Characters.{units_in}
use Rattle.mos_reader.specs.Answers.{fed, fed_on}
use Rattle.mos_decoder.specs.Bytes.{HasHanded, behind_odd, odd_in}
use Rattle.mos_decoder.proofs.PairLemmas.{few_units}
use Rattle.mos_decoder.proofs.TellingLemmas.{fed_handed}
use Rattle.mos_decoder.proofs.decoder.EventDecoder.feed.Goals as goal

pub feed-requires : goal.feed-requires
feed-requires c =
    let r = c.requires.room in
    let u = few_units c.self.inside.odd c.args.bytes.now in
    let l : length c.as_slice.result.now ≡ length (units_in (behind_odd c.self.inside.odd c.args.bytes.now)) = ap length (c.as_slice.ensures.value ∙ c.in_ok-units.ensures.units) in
    let v : fed c.self.inside.reader ≡ fed c.args.self.now.stream = ap (λ z. fed z.stream) c.self.view_is in
    record { room = omega (arith, r, u, l, v) }

pub returns-clause-handed : goal.returns-clause-handed
returns-clause-handed c = λ before found h.
    let e = c.in_ok-feed.ensures.fed ∙ ap (fed_on c.self.inside.reader.fault c.self.inside.reader) (c.as_slice.ensures.value ∙ c.in_ok-units.ensures.units) in
    subst (λ z. HasHanded (record { stream = z; odd = c.in_ok-units.odd; count = c.self.inside.count }) (before ++ c.args.bytes.now) found) (sym e)
    (subst (λ z. HasHanded (record { stream = fed_on c.self.inside.reader.fault c.self.inside.reader (units_in (behind_odd c.self.inside.odd c.args.bytes.now)); odd = z; count = c.self.inside.count }) (before ++ c.args.bytes.now) found) (sym c.in_ok-units.ensures.odd)
    (fed_handed (record { stream = c.self.inside.reader; odd = c.self.inside.odd; count = c.self.inside.count }) c.args.bytes.now before found (subst (λ z. HasHanded z before found) (sym c.self.view_is) h)))
