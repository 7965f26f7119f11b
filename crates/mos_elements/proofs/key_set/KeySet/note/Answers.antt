use Rattle.std.proofs.Common.{[], ◌∷◌, ◌++◌, sym, subst, ◌∙◌}
use Rattle.std.proofs.lemmas.Result.{on_ok_weaker}
use Rattle.mos_grammar.specs.Records.{keys}
use Rattle.mos_elements.specs.Keys.{Holds}
use Rattle.mos_elements.specs.Parts.{part_events}
use Rattle.mos_elements.proofs.KeyLemmas.{keys_more, keys_none}
use Rattle.mos_elements.proofs.key_set.KeySet.note.Goals as goal

pub returns-then-has_keys-clause-ok : goal.returns-then-has_keys-clause-ok
returns-then-has_keys-clause-ok c = on_ok_weaker c.note_key.result
    (λ g cs f h. subst (Holds c.note_key.new.self.keys) (sym (keys_more c.args.table cs (f, part_events c.args.part.now) (sym c.has_keys.ensures ∙ c.if-has_keys.true))) (g (keys c.args.table cs) h))
    c.note_key.ensures.ok

pub returns-else-has_keys-clause-ok : goal.returns-else-has_keys-clause-ok
returns-else-has_keys-clause-ok c cs f h =
    let n = sym c.has_keys.ensures ∙ c.if-has_keys.false in
    subst (Holds c.args.self.now.keys) (keys_none c.args.table cs n ∙ sym (keys_none c.args.table (cs ++ (f, part_events c.args.part.now) ∷ []) n)) h
