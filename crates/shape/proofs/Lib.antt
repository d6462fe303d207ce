-- The laws that the proofs of this crate's functions share: a mesh's elements and edges, tables of bytes, of marks, of
-- sides and of pairs.
pub mod MeshLaws
pub mod Tables
pub mod MarkTables
pub mod SideTables
pub mod JointTables
pub mod PairTables
