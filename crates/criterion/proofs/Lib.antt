-- Laws that the functions' proofs cite: a polygon's sides, a claim's numbers, the strength rows of a pair.
pub mod RowLaws
pub mod SideLaws
pub mod ClaimLaws
pub mod StrengthLaws
pub mod PlaneLaws
