pub mod Playlists
pub mod Decks
pub mod Memory
pub mod Lines
