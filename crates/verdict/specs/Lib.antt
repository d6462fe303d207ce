-- Contracts between functions, nothing that a reader must believe: a mesh with a table whose lines have passed, what
-- its judging leaves of its numbers, a field by the size of its numbers, and which equality rows pass at it.
pub mod JudgeContracts
pub mod NumbersLeft
pub mod FieldContracts
