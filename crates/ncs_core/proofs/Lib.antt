pub mod PeerRows
pub mod HeaderRows
pub mod HearSteps
pub mod AcceptedRows
pub mod CommandSteps
pub mod GivenPeers
pub mod ListSizes
pub mod AddedEntries
pub mod ListedIds
pub mod KeptUnits
pub mod KnownFronts
pub mod LookedRows
pub mod RestoredRows
mod ScriptNumbers
