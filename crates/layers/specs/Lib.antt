-- Contracts between functions, nothing that a reader must believe: a table as it is handed around, where two layers
-- meet, and what a mesh must have before it is filled.
pub mod LayerContracts
