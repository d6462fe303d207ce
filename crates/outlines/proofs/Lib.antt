-- CornerLaws: corners and turns. BoxLaws: boxes around elements. ApartLaws: the tests of 47, from boxes to all
-- elements.
pub mod CornerLaws
pub mod BoxLaws
pub mod ApartLaws
