-- Laws that the functions' proofs cite: the entries of a row, and the rows of elements, edges and jumps.
pub mod EntryLaws
pub mod EqualityLaws
