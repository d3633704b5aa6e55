pub mod NameTables
pub mod Places
pub mod Repetitions
