use Rattle.mos_writer.proofs.EncodedLemmas.{one_alone, two_alone, on_ok_to}
use Rattle.mos_writer.proofs.bytes.push_ascii.Goals as goal

pub returns-in-len1 : goal.returns-in-len1
returns-in-len1 c = on_ok_to c.push_character.result (one_alone c.args.text.now c.args.out.now.items c.push_character.new.out.items c.in-len1.len_at_least c.in-len1.len_below) c.push_character.ensures

pub returns-in-len2 : goal.returns-in-len2
returns-in-len2 c = on_ok_to c.push_two_characters.result (two_alone c.args.text.now c.args.out.now.items c.push_two_characters.new.out.items c.in-len2.len_at_least c.in-len2.len_below) c.push_two_characters.ensures
