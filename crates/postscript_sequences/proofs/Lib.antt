pub mod Finding
pub mod Collecting
pub mod Glyphs
pub mod Placing
pub mod Rising
pub mod Reading
pub mod Firsts
pub mod Kept
pub mod Keeping
pub mod Numbered
pub mod Spending
mod Sizing
