use Rattle.std.proofs.Common.{subst}
use Rattle.mos_scanner.specs.References.{IsAt}
use Rattle.mos_scanner.proofs.NamedLemmas.{after_l, after_lt, after_g, after_gt, after_am, after_amp, after_ap, after_apo, after_apos, after_q, after_qu, after_quo, after_quot}
use Rattle.mos_scanner.proofs.reference.Reference.next.Goals as goal

pub returns-in-L : goal.returns-in-L
returns-in-L c m h = after_l m (subst (λ r. IsAt r m) c.in-L.is h) c.args.c c.begun.result c.begun.ensures

pub returns-in-Lt : goal.returns-in-Lt
returns-in-Lt c m h = after_lt m (subst (λ r. IsAt r m) c.in-Lt.is h) c.args.c c.found.result c.found.ensures

pub returns-in-G : goal.returns-in-G
returns-in-G c m h = after_g m (subst (λ r. IsAt r m) c.in-G.is h) c.args.c c.begun-in-G.result c.begun-in-G.ensures

pub returns-in-Gt : goal.returns-in-Gt
returns-in-Gt c m h = after_gt m (subst (λ r. IsAt r m) c.in-Gt.is h) c.args.c c.found-in-Gt.result c.found-in-Gt.ensures

pub returns-in-Am : goal.returns-in-Am
returns-in-Am c m h = after_am m (subst (λ r. IsAt r m) c.in-Am.is h) c.args.c c.begun-in-Am.result c.begun-in-Am.ensures

pub returns-in-Amp : goal.returns-in-Amp
returns-in-Amp c m h = after_amp m (subst (λ r. IsAt r m) c.in-Amp.is h) c.args.c c.found-in-Amp.result c.found-in-Amp.ensures

pub returns-in-Ap : goal.returns-in-Ap
returns-in-Ap c m h = after_ap m (subst (λ r. IsAt r m) c.in-Ap.is h) c.args.c c.begun-in-Ap.result c.begun-in-Ap.ensures

pub returns-in-Apo : goal.returns-in-Apo
returns-in-Apo c m h = after_apo m (subst (λ r. IsAt r m) c.in-Apo.is h) c.args.c c.begun-in-Apo.result c.begun-in-Apo.ensures

pub returns-in-Apos : goal.returns-in-Apos
returns-in-Apos c m h = after_apos m (subst (λ r. IsAt r m) c.in-Apos.is h) c.args.c c.found-in-Apos.result c.found-in-Apos.ensures

pub returns-in-Q : goal.returns-in-Q
returns-in-Q c m h = after_q m (subst (λ r. IsAt r m) c.in-Q.is h) c.args.c c.begun-in-Q.result c.begun-in-Q.ensures

pub returns-in-Qu : goal.returns-in-Qu
returns-in-Qu c m h = after_qu m (subst (λ r. IsAt r m) c.in-Qu.is h) c.args.c c.begun-in-Qu.result c.begun-in-Qu.ensures

pub returns-in-Quo : goal.returns-in-Quo
returns-in-Quo c m h = after_quo m (subst (λ r. IsAt r m) c.in-Quo.is h) c.args.c c.begun-in-Quo.result c.begun-in-Quo.ensures

pub returns-in-Quot : goal.returns-in-Quot
returns-in-Quot c m h = after_quot m (subst (λ r. IsAt r m) c.in-Quot.is h) c.args.c c.found-in-Quot.result c.found-in-Quot.ensures
