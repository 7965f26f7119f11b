use Rattle.mos_codec.proofs.decoder.Decoder.feed.Goals as goal

pub returns-in-None-clause-first : goal.returns-in-None-clause-first
returns-in-None-clause-first c = λ e us rest none clean h held. c.read.ensures.first e us rest clean h held
