pub mod Searching
pub mod Using
