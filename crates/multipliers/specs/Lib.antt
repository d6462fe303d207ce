-- Contracts between functions, nothing that a reader must believe: a claim's rows with their multipliers, sums over
-- them, the open rows.
pub mod MultiplierContracts
pub mod PlaneSumContracts
pub mod RowContracts
pub mod OpenContracts
