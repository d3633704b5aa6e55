pub mod ContourLaws
pub mod DrawsLaws
pub mod Filling
pub mod FittingLaws
pub mod FlatLaws
pub mod Flexes
pub mod Fronts
pub mod GivenLaws
pub mod GlyphSpending
pub mod Items
pub mod ListLaws
pub mod OperationLaws
pub mod Owns
pub mod ProgramLaws
pub mod Spending
pub mod UsingLaws
mod OutlineRows
mod StrokeRows
mod AccentRows
