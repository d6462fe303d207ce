-- The whole check, from two byte strings to the answer and the buffer, what a call of it answers, the worked sheets,
-- and what a caller may rely on, of it, of a book and of the next strength to try.
-- A reader must believe Check, Answers, Promises, NextStrength, for a book BookInC and BookPromises, and the tables of
-- Sheets, Sheets108, SheetsBeds, SheetsOrder, SheetsJoints, SheetsLimits and RunSheets; Bytes and Shipped say how a
-- table and a file of sheets/ are read, and MixedFiles is one sheet that the promises are applied to. No file is a
-- contract between functions.
pub mod Check
pub mod Answers
pub mod Bytes
pub mod Sheets
pub mod Sheets108
pub mod SheetsBeds
pub mod SheetsOrder
pub mod SheetsJoints
pub mod SheetsLimits
pub mod RunSheets
pub mod Shipped
pub mod Promises
pub mod MixedFiles
pub mod BookInC
pub mod BookPromises
pub mod NextStrength
