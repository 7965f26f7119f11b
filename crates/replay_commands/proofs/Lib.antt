pub mod InWords
