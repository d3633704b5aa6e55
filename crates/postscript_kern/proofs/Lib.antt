pub mod Firsts
pub mod Renumbered
pub mod Collecting
pub mod Listing
pub mod Spending
