use Rattle.std.proofs.Common.{◌≡◌, ◌+◌, ◌*◌, ◌<◌, ◌≤◌, List, [], ◌∷◌, ◌++◌, length, drop, refl, sym, ap, ◌∙◌, arith}
use Rattle.std.specs.Prelude.{slice_index}
use Rattle.std.proofs.lemmas.List.{append-nil}
use Rattle.mos_fields.specs.Characters.{units_in}
use Rattle.mos_decoder.specs.Bytes.{odd_in}
use Rattle.mos_decoder.proofs.PairLemmas.{next_pair, last_byte, nothing_from, pair_units, pair_odd, one_odd, none_odd, append_unit}
use Rattle.mos_decoder.proofs.units.push_single_pairs.Goals as goal

pub pair-preserved : goal.pair-preserved
pair-preserved c =
    let i = c.pair.invariant in
    let w = i.within in
    let t = c.pair-test.true in
    let l : c.pair.at + 1 < length c.args.bytes.now = omega (arith, t, w) in
    let e = next_pair c.args.bytes.now c.pair.at l in
    record {
      within = omega (arith, l);
      units =
          ap (λ z. z ++ units_in (drop (c.pair.at + 2) c.args.bytes.now)) c.in_ok-push_unit.ensures
          ∙ (append_unit c.pair.units.items _ (units_in (drop (c.pair.at + 2) c.args.bytes.now))
          ∙ (ap (λ z. c.pair.units.items ++ z) (sym (ap units_in e ∙ pair_units _ _ (drop (c.pair.at + 2) c.args.bytes.now))) ∙ i.units));
      odd = sym (ap odd_in e ∙ pair_odd _ _ (drop (c.pair.at + 2) c.args.bytes.now)) ∙ i.odd;
    }

pub returns-then-at-bytes-clause-odd : goal.returns-then-at-bytes-clause-odd
returns-then-at-bytes-clause-odd c =
    let t = c.pair-test.false in
    let l = c.if-at-bytes.true in
    let e = last_byte c.args.bytes.now c.pair.at l (omega (arith, t, l)) in
    sym (ap odd_in e ∙ (one_odd _).0) ∙ c.pair.invariant.odd

pub returns-then-at-bytes-clause-units : goal.returns-then-at-bytes-clause-units
returns-then-at-bytes-clause-units c =
    let t = c.pair-test.false in
    let l = c.if-at-bytes.true in
    let e = last_byte c.args.bytes.now c.pair.at l (omega (arith, t, l)) in
    sym (append-nil c.pair.units.items) ∙ (ap (λ z. c.pair.units.items ++ z) (sym (ap units_in e ∙ (one_odd _).1)) ∙ c.pair.invariant.units)

pub returns-else-at-bytes-clause-odd : goal.returns-else-at-bytes-clause-odd
returns-else-at-bytes-clause-odd c =
    let l = c.if-at-bytes.false in
    let e = nothing_from c.args.bytes.now c.pair.at (omega (arith, l)) in
    sym (ap odd_in e ∙ none_odd.0) ∙ c.pair.invariant.odd

pub returns-else-at-bytes-clause-units : goal.returns-else-at-bytes-clause-units
returns-else-at-bytes-clause-units c =
    let l = c.if-at-bytes.false in
    let e = nothing_from c.args.bytes.now c.pair.at (omega (arith, l)) in
    sym (append-nil c.pair.units.items) ∙ (ap (λ z. c.pair.units.items ++ z) (sym (ap units_in e ∙ none_odd.1)) ∙ c.pair.invariant.units)
