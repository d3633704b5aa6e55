pub mod Words
pub mod Headers
pub mod Records
pub mod Tables
