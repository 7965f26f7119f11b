use Rattle.std.proofs.Common.{◌≡◌, None, Some, subst, take, drop, ℕ, Option}
use Rattle.std.specs.Prelude.{MatchOption}
use Rattle.mos_tables.specs.declared.column.Column.{Column}
use Rattle.mos_grammar.specs.declared.fault.Fault.{Fault}
use Rattle.mos_grammar.specs.Records.{column_of, or_else}
use Rattle.mos_columns.specs.Counts.{head_of, head_repeated, lacking_by, place_of}
use Rattle.mos_columns.proofs.PlaceLaws.{column_is, fault_is}
use Rattle.mos_columns.proofs.counts.find_shown.Goals as goal

pub returns : goal.returns
returns c =
    let cs = c.args.columns.now in
    let ks = c.args.counts.now in
    let n = c.args.name.now in
    let by_place = subst (λ (p : ℕ). MatchOption c.shown_at.result (head_of (drop p cs) ≡ None) (λ r. (head_of (drop p cs) ≡ Some r.0) × (r.1 ≡ or_else (head_repeated (drop p cs) (drop p ks)) (lacking_by (take p cs) ks)))) c.find_place.ensures.place c.shown_at.ensures in
    let by_column = subst (λ (o : Option Column). MatchOption c.shown_at.result (o ≡ None) (λ r. (o ≡ Some r.0) × (r.1 ≡ or_else (head_repeated (drop (place_of cs n) cs) (drop (place_of cs n) ks)) (lacking_by (take (place_of cs n) cs) ks)))) (column_is cs n) by_place in
    subst (λ (f : Option Fault). MatchOption c.shown_at.result (column_of cs n ≡ None) (λ r. (column_of cs n ≡ Some r.0) × (r.1 ≡ f))) (fault_is cs ks n) by_column
