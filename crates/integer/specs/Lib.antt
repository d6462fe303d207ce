-- Definitions on whole numbers, one file a topic; their laws are in proofs/. ℤ, ≤ℤ, <ℤ, and the tests le_z and lt_z are
-- the kit's (`lib.IntN`, `lib.Signed`). Members only names the kit's membership in a list.
-- An example, `example-..`, is checked.
pub mod Members
pub mod Tests
pub mod Bounds
pub mod Sum
pub mod Fraction
pub mod Round
pub mod Decimal
