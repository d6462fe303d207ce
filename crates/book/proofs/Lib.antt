-- The proofs of the book, one file a topic.
-- BookLaws: what the definitions of a book say; VerdictLaws: the loads of a verdict have denominators above 0;
-- HistoryLaws: what holds after any calls; BracketLaws: the bounds of a book on one mesh; DirectionLaws: a mesh with a
-- soil by direction.
pub mod BookLaws
pub mod VerdictLaws
pub mod HistoryLaws
pub mod BracketLaws
pub mod DirectionLaws
