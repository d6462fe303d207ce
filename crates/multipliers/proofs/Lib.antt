-- Laws that the functions' proofs cite: sums over rows, one row's and one pair's part of them, the checks.
pub mod SumLaws
pub mod MultiplierLaws
pub mod PairLaws
pub mod PlaneSumLaws
pub mod PairSumLaws
pub mod LimitLaws
pub mod OpenLaws
