-- Only private contracts and proofs use these names.
pub mod Working
pub mod Remaining
pub mod Machines
pub mod Numbers
pub mod Limited
pub mod Views
