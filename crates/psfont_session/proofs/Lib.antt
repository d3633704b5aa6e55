pub mod Hearing
pub mod Limiting
mod Known
mod Places
pub mod Writing
