-- The definitions that the contracts use for charstrings (Technical Note 5177). Begin with Program/Meaning. Only private contracts and
-- proofs use Private.
pub mod Number
pub mod Operation
pub mod Program
pub mod Refused
pub mod Private
