-- Contracts between functions, nothing that a reader must believe: an equality row as numbers, and its sums.
pub mod EqualityContracts
