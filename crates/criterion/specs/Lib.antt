-- Contracts between functions, nothing that a reader must believe: a polygon's sides and a pair's strength rows as
-- numbers, and the field of a claim.
pub mod StrengthContracts
pub mod PlaneContracts
pub mod FieldContracts
