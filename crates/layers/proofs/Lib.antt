-- Laws that the proofs of the functions use.
pub mod TableLaws
pub mod LayerLaws
pub mod GapLaws
pub mod HeightLaws
pub mod NamingLaws
pub mod FillingLaws
