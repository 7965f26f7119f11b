use Rattle.std.proofs.Common.{◌+◌, ◌*◌, [], ◌∷◌, ◌++◌, ◌-◌, length, take, drop, sym, ap, ◌∙◌}
use Rattle.std.specs.Prelude.{slice_index}
use Rattle.mos_fields.specs.Characters.{units_in}
use Rattle.mos_decoder.specs.Bytes.{odd_in}
use Rattle.mos_decoder.proofs.PairLemmas.{no_bytes, first_byte, pair_units, pair_odd, one_odd}
use Rattle.mos_decoder.proofs.units.units_behind_byte.Goals as goal

pub returns-in-empty-clause-units : goal.returns-in-empty-clause-units
returns-in-empty-clause-units c = c.new-units.ensures.items ∙ sym (ap (λ z. units_in (c.args.high ∷ z)) (no_bytes c.args.bytes.now c.in-empty.len_below) ∙ (one_odd c.args.high).1)

pub returns-in-empty-clause-odd : goal.returns-in-empty-clause-odd
returns-in-empty-clause-odd c = sym (ap (λ z. odd_in (c.args.high ∷ z)) (no_bytes c.args.bytes.now c.in-empty.len_below) ∙ (one_odd c.args.high).0)

pub returns-in_ok-odd-in-len1-up-clause-units : goal.returns-in_ok-odd-in-len1-up-clause-units
returns-in_ok-odd-in-len1-up-clause-units c =
    let l = c.in-len1-up.len_at_least in
    c.in_ok-odd-in-len1-up.ensures.units
    ∙ (ap (λ z. z ++ units_in (take (length c.args.bytes.now - 1) (drop 1 c.args.bytes.now))) (c.in_ok-push_unit-in-len1-up.ensures ∙ ap (λ z. z ++ (c.args.high * 256 + slice_index c.args.bytes.now 0) ∷ []) c.new-units.ensures.items)
    ∙ sym (ap (λ z. units_in (c.args.high ∷ z)) (first_byte c.args.bytes.now l) ∙ pair_units c.args.high _ (take (length c.args.bytes.now - 1) (drop 1 c.args.bytes.now))))

pub returns-in_ok-odd-in-len1-up-clause-odd : goal.returns-in_ok-odd-in-len1-up-clause-odd
returns-in_ok-odd-in-len1-up-clause-odd c =
    let l = c.in-len1-up.len_at_least in
    c.in_ok-odd-in-len1-up.ensures.odd ∙ sym (ap (λ z. odd_in (c.args.high ∷ z)) (first_byte c.args.bytes.now l) ∙ pair_odd c.args.high _ (take (length c.args.bytes.now - 1) (drop 1 c.args.bytes.now)))
