-- Contracts between functions, nothing that a reader must believe: the tables that the checks of a shape fill and
-- read.
pub mod ShapeContracts
