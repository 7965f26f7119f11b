use Rattle.mos_machines.specs.Tables.{gate_of}
use Rattle.deck_nodes.proofs.DeckLists.{empty-lists}
use Rattle.deck_nodes.proofs.gate_node.GateNode.new.Goals as goal

pub returns-clause-stocked : goal.returns-clause-stocked
returns-clause-stocked g c = λ none tells. record {
  known = λ i. record { handed = c.state.ensures.handed i; left = c.state.ensures.left i };
  lists = empty-lists g.D.Deck.view c.args.rack.now.mos (gate_of c.args.gate) c.args.rack.now.decks.items none tells;
}
