use Rattle.mos_writer.proofs.EncodedLemmas.{when_empty, one_and_rest, four_and_rest, on_ok_to}
use Rattle.mos_writer.proofs.bytes.+push_characters.Goals as goal

pub returns-in-empty : goal.returns-in-empty
returns-in-empty t c = when_empty c.args.text.now c.args.out.now.items c.in-empty.len_below

pub returns-in_ok-push_character-in-len1-up : goal.returns-in_ok-push_character-in-len1-up
returns-in_ok-push_character-in-len1-up t c =
    on_ok_to c.push_characters.result (one_and_rest c.args.text.now c.args.out.now.items c.push_character.new.out.items c.push_characters.new.out.items c.in-len1-up.len_at_least (c.in_ok-push_character-in-len1-up.ensures)) c.push_characters.ensures

pub returns-in_ok-push_four_characters-in-len4-up : goal.returns-in_ok-push_four_characters-in-len4-up
returns-in_ok-push_four_characters-in-len4-up t c =
    on_ok_to c.push_characters-in-len4-up.result (four_and_rest c.args.text.now c.args.out.now.items c.push_four_characters.new.out.items c.push_characters-in-len4-up.new.out.items c.in-len4-up.len_at_least (c.in_ok-push_four_characters-in-len4-up.ensures)) c.push_characters-in-len4-up.ensures
