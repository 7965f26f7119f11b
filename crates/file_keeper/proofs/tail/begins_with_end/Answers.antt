use Rattle.std.proofs.Common.{drop}
use Rattle.std.proofs.lemmas.Bool.Decides.{Decides-eqb}
use Rattle.std.proofs.lemmas.Slice.Eq.{starts_is}
use Rattle.file_keeper.specs.Tails.{end_tag}
use Rattle.file_keeper.proofs.tail.begins_with_end.Goals as goal

pub returns : goal.returns
returns c =
    let is = starts_is Decides-eqb c.args.bytes.now end_tag c.starts_with.result c.starts_with.ensures.value in
    ((λ t. (drop 12 c.args.bytes.now, is.0 t)), (λ b. is.1 b.0 b.1))
