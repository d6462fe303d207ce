-- Where each number of a mesh stands, and its bounds.
pub mod Places
-- How many pairs a mesh that passes has.
pub mod PairLaws
-- Counts are few, whatever mesh they are of.
pub mod FewCounts
-- A list copied over the front of another.
pub mod Copied
