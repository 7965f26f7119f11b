pub mod Ports
pub mod DeckCalls
pub mod Left
pub mod Telling
pub mod GatewayNodes
pub mod NodeSteps
pub mod ExactDecks
