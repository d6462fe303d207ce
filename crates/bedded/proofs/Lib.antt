-- Laws of the rows of planes: a soil's numbers, and the slacks of the definitions' rows.
pub mod PlaneLaws
