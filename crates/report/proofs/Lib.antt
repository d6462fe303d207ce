-- The proofs of the report, one file a topic. About the definitions:
-- Text: a text says the number that it was written from; Line: the line's columns say what the verdict is, each load
-- rounded in its own direction.
-- About the code: ColumnLaws: texts written into a column; DivisionLaws: a load's units by one division of
-- 128 bits; LoadLaws: a load's text in pieces; BufferLaws: how many decimals, and the line in the buffer.
pub mod Text
pub mod Line
pub mod ColumnLaws
pub mod DivisionLaws
pub mod LoadLaws
pub mod BufferLaws
