-- The smallest parts of the Compact Font Format (Technical Note 5176).
pub mod Offset
pub mod Header
pub mod Operators
pub mod OperatorNames
pub mod Decimal
pub mod Number
pub mod Reals
pub mod Nibbles
pub mod Integers
pub mod Operation
pub mod Dictionary
pub mod DictionaryLaw
pub mod OperationLaw
pub mod Defaults
