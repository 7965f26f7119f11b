use Rattle.std.proofs.Common.{ap, ◌∙◌}
use Rattle.mos_decoder.specs.Bytes.{found_of}
use Rattle.mos_canonical.proofs.EncodedLemmas.{encoded_more, where_ok}
use Rattle.mos_canonical.proofs.echo.EchoTeller.tell.Goals as goal

pub returns : goal.returns
returns c = λ before text h.
    where_ok c.encoded.result (λ more b. encoded_more before text more.items (found_of c.args.found) c.in_ok-envelope.envelope h c.in_ok-envelope.ensures.events b) c.encoded.ensures
