use Rattle.std.proofs.Common.{◌≡◌, None, Some, subst}
use Rattle.std.specs.Prelude.{MatchOption}
use Rattle.mos_grammar.specs.Records.{column_of}
use Rattle.mos_columns.proofs.CountLaws.{tag_fault_is}
use Rattle.mos_columns.proofs.counts.find_tag.Goals as goal

pub returns : goal.returns
returns c seen e =
    let cs = c.args.columns.now in
    let n = c.args.name.now in
    subst (λ k. MatchOption c.find_shown.result (column_of cs n ≡ None) (λ r. (column_of cs n ≡ Some r.0) × (r.1 ≡ k))) (tag_fault_is cs c.args.counts.now n seen e) c.find_shown.ensures
