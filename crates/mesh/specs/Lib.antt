-- Contracts between functions, nothing that a reader must believe: what is said of the counts and numbers of a mesh
-- that are handed around.
pub mod MeshContracts
pub mod EntryContracts
pub mod SizedOnce
pub mod PairContracts
pub mod ClaimContracts
