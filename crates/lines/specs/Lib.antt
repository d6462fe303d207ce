-- Contracts between functions, nothing that a reader must believe: the table of groups as the code has it, the checks
-- of lines, the search for the lowest place.
pub mod Table
pub mod LineContracts
pub mod SearchContracts
