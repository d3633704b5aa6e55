pub mod Layering
pub mod Staying
pub mod Cutting
