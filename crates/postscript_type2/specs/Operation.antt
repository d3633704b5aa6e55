-- Operators and operands of charstrings (Technical Note 5177).
pub mod Operators
pub mod Lengths
pub mod Kinds
