-- Definitions for private contracts and proofs only.
pub mod Passed
