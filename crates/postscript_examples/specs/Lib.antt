pub mod Glyphs
pub mod Advances
pub mod Passing
pub mod Readers
