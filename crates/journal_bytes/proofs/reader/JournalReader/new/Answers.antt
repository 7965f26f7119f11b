use Rattle.std.proofs.Common.{[], sym, ap, subst}
use Rattle.mos_codec.specs.Decoding.{DecoderState}
use Rattle.journal_bytes.specs.Journals.{AreEntries, no_entries}
use Rattle.journal_bytes.proofs.reader.JournalReader.new.Goals as goal

pub returns-clause-nothing : goal.returns-clause-nothing
returns-clause-nothing c =
    (record { found = []; taken = c.new.ensures.nothing; are = subst (AreEntries []) (sym c.new-2.ensures.items) no_entries }, ap (λ (d : DecoderState). d.ready) c.new.ensures.start)
