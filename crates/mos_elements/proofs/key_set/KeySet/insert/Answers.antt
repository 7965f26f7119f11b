use Rattle.std.proofs.Common.{ℕ, List, [], ◌∷◌, ◌++◌, subst}
use Rattle.mos_elements.specs.Keys.{Holds}
use Rattle.mos_elements.proofs.KeyLemmas.{holds_more}
use Rattle.mos_elements.proofs.key_set.KeySet.insert.Goals as goal

pub returns-clause-ok : goal.returns-clause-ok
returns-clause-ok c ks h =
    subst (λ (k : List ℕ). Holds c.put.new.keys (ks ++ k ∷ [])) c.in_ok-key.ensures (holds_more c.args.self.now.keys c.put.new.keys c.in_ok-key.key tt ks c.in_ok-put.ensures.ok h)
