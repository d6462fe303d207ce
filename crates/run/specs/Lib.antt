-- A run of claims on one mesh. A reader must believe Run; InTurn says the same a second time, with no steps.
-- NextClaim is a contract between functions.
pub mod Run
pub mod InTurn
pub mod NextClaim
