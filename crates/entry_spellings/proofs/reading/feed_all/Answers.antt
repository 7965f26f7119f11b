use Rattle.std.proofs.Common.{Err, subst, ap, ◌∙◌}
use Rattle.mos_codec.proofs.Handed.{first-fed}
use Rattle.mos_codec.specs.Decoding.{ComesFirst}
use Rattle.entry_spellings.proofs.reading.feed_all.Goals as goal

pub returns-in-Ok : goal.returns-in-Ok
returns-in-Ok c = λ e h.
    subst (λ r. ComesFirst e r c.feed.new.self.ready) c.in-Ok.is (first-fed c.args.decoder.now c.args.bytes.now c.feed.result c.feed.new.self.ready c.requires c.feed.ensures.first e h)

pub returns-in-Err-Refused : goal.returns-in-Err-Refused
returns-in-Err-Refused c = λ e h.
    subst (λ r. ComesFirst e r c.feed.new.self.ready) (c.in-Err-Refused.is ∙ ap Err c.in-Err-Refused.field-0-is) (first-fed c.args.decoder.now c.args.bytes.now c.feed.result c.feed.new.self.ready c.requires c.feed.ensures.first e h)
