use Rattle.port_session.proofs.Answerings.{read_on, read_out, served_on}
use Rattle.port_session.proofs.Readings.{last_whole}
use Rattle.port_session.proofs.answering.turn.Goals as goal

pub serve-requires-clause-sound : goal.serve-requires-clause-sound
serve-requires-clause-sound g c = let w = c.requires.going.2 in (last_whole _ _ (c.in-Message.ensures.next _ _ _ w.reads).whole).sound

pub returns-in-More-clause-turn : goal.returns-in-More-clause-turn
returns-in-More-clause-turn g c seen was w = read_on _ _ _ _ _ _ _ _ _ _ _ _ _ _ _ w (c.in-More.ensures.next _ _ _ w.reads)

pub returns-in-Over-clause-turn : goal.returns-in-Over-clause-turn
returns-in-Over-clause-turn g c seen was w = read_out _ _ _ _ _ _ _ _ _ _ _ _ _ _ _ _ w (c.in-Over.ensures.next _ _ _ w.reads).0

pub returns-in-Message-clause-turn : goal.returns-in-Message-clause-turn
returns-in-Message-clause-turn g c seen was w = served_on _ _ _ _ _ _ _ _ _ _ _ _ _ _ _ _ _ w (c.in-Message.ensures.next _ _ _ w.reads) c.serve.ensures.exchanged c.serve.ensures.rises
