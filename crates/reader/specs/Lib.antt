-- What a reader must believe: Spelling and File, a file as columns, lines and numbers; WellFormed, TableFile,
-- WrittenBack and OnePass say the same a second time. The others are contracts between the functions of the reader.
pub mod Spelling
pub mod File
pub mod WellFormed
pub mod TableFile
pub mod WrittenBack
pub mod Listed
pub mod OnePass
pub mod ColumnState
pub mod ReadSoFar
pub mod Most
pub mod TableBytes
