-- The check of numbers handed over. A reader must believe NumbersAnswer, what each case of the verdict is to C,
-- Promises, what a caller may rely on, and TablePromises, the same with a table. MixedSheet is one sheet that they are
-- applied to. No file is a contract between functions.
pub mod NumbersAnswer
pub mod Promises
pub mod TablePromises
pub mod MixedSheet
