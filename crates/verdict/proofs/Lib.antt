-- The laws that the proofs of this crate's functions share: what a `?` hands on, a field's rows, a claim's parts, the
-- stages of the verdict, what is left of a mesh's numbers.
pub mod Handed
pub mod FieldLaws
pub mod PartLaws
pub mod TableLaws
pub mod LeftLaws
pub mod VerdictLaws
