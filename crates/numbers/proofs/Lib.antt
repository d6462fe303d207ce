-- The promises of the answer, and each applied to document 01's sheet, to sheets that have what document 02 adds, and
-- to one that has all of it.
pub mod NumbersListed
pub mod Promises
pub mod Reported
pub mod PromisesApplied
pub mod ShapesApplied
pub mod OverlapsApplied
pub mod TablePromises
pub mod Blends
pub mod PromisesAppliedBeds
pub mod MixedSays
pub mod MixedApplied
pub mod TableApplied
