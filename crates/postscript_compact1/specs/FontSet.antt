-- Fonts (Technical Note 5176).
pub mod Operands
pub mod Font
pub mod Layout
pub mod Parts
pub mod Value
pub mod Causes
pub mod PartCauses
