use Rattle.encoding_laws.proofs.Again.{read_again}
use Rattle.encoding_laws.proofs.laws.read_is_read_again.Goals as goal

pub returns : goal.returns
returns c = read_again
