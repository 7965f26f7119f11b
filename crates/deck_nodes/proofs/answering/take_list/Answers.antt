use Rattle.mos_machines.specs.Tables.{gate_of}
use Rattle.gateway_core.specs.Parts.{decks_of}
use Rattle.deck_nodes.specs.DeckCalls.DeckCall.{Load}
use Rattle.deck_nodes.proofs.UpperSteps.{answered-step}
use Rattle.deck_nodes.proofs.answering.take_list.Goals as goal

pub returns-clause-ok : goal.returns-clause-ok
returns-clause-ok g c = λ is.
    answered-step g.D.Deck.view c.args.rack.now.mos (decks_of c.args.known) (gate_of c.args.gate.now) (gate_of c.answered.new.gate) c.args.link c.args.m.now (Load c.args.ro.now) c.in_ok-answer.answer
    c.args.rack.now.decks.items c.load.new.rack.decks.items is c.in_ok-answer.ensures.ok c.load.ensures.called
