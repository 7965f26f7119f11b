use Rattle.sending_laws.proofs.Owing.{fewer-again, between-again}
use Rattle.sending_laws.proofs.readies_are_sent_again_after_lists.Goals as goal

pub returns : goal.returns
returns c = record { fewer = fewer-again; between = between-again }
