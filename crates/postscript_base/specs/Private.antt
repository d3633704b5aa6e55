-- Definitions for private contracts and proofs only.
pub mod Nibbles
pub mod Operands
pub mod Significant
pub mod Seen
