-- The definitions that the contracts use for tapes, numbers, errors and dictionaries (Technical Note 5176). Only private contracts and
-- proofs use the modules of Private.
pub mod Refusal
pub mod RefusalOf
pub mod Error
pub mod Numbers
pub mod Tape
pub mod Compact1
pub mod Index
pub mod Private
