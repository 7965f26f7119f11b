use Rattle.std.proofs.Common.{◌≡◌, [], None, refl, sym, subst}
use Rattle.mos_fields.specs.Characters.{units_in}
use Rattle.mos_lexer.specs.Units.{start_reader, stream_units}
use Rattle.mos_codec.specs.Decoding.{HasTaken}
use Rattle.mos_codec.proofs.decoder.Decoder.new.Goals as goal

pub returns-clause-nothing : goal.returns-clause-nothing
unfolding stream_units units_in
returns-clause-nothing c =
    let none : c.new-2.result.items ≡ [] = c.new-2.ensures.items in
    subst (λ ready. HasTaken (record { bytes = c.new.result; ready = ready; began = 0; fault = None }) [] []) (sym none)
    (record { clean = refl; read = record { handed = c.new.ensures.nothing; base = 0; reader = start_reader; goes_on = refl } })
