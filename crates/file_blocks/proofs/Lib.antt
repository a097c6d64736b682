-- Laws that the checks of a file are proved with, and the filling of tables.
pub mod ByPlace
pub mod Places
pub mod PlanBounds
pub mod KindNumbers
pub mod SpareWalk
pub mod DueBlocks
pub mod ShapeOrder
pub mod RecordWords
pub mod Copies
pub mod Fields
pub mod Naming
pub mod Looked
pub mod Last
pub mod Shapes
