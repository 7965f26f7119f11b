use Rattle.std.proofs.Common.{sym, subst}
use Rattle.std.specs.Prelude.{None, []}
use Rattle.mos_decoder.specs.Bytes.{HasHanded}
use Rattle.mos_decoder.proofs.TellingLemmas.{nothing_handed}
use Rattle.mos_decoder.proofs.decoder.EventDecoder.new.Goals as goal

pub returns-clause-nothing : goal.returns-clause-nothing
returns-clause-nothing c = subst (λ z. HasHanded (record { stream = z; odd = None; count = 0 }) [] []) (sym c.new.ensures) nothing_handed
