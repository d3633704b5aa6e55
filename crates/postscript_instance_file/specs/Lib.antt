pub mod Faces
pub mod Glyphs
pub mod Instances
pub mod Names
pub mod Refusals
pub mod Weights
