pub mod Numbers
pub mod Metrics
pub mod Origins
pub mod Listed
pub mod Refusals
