pub mod Characters
pub mod Parts
pub mod Jamo
pub mod Shaping
pub mod Computing
pub mod Traits
