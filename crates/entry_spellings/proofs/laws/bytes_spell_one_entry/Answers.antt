use Rattle.entry_spellings.proofs.SpellingLemmas.{spells_one}
use Rattle.entry_spellings.proofs.laws.bytes_spell_one_entry.Goals as goal

pub returns : goal.returns
returns c = spells_one c.encodings_pin_envelopes.ensures
