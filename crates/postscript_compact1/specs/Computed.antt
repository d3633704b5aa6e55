-- Definitions that compute, for the clauses `exact` and `value` of contracts. The other modules state the same in the words of the Note,
-- and laws connect both.
pub mod Order
pub mod Parts
pub mod Encodings
