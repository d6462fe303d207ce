-- Contracts between functions, nothing that a reader must believe: the rows of a soil by direction as numbers.
pub mod PlaneContracts
