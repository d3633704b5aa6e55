pub mod Scalars
pub mod OneRun
pub mod Nearness
pub mod FittingLaws
pub mod Steps
pub mod Spending
