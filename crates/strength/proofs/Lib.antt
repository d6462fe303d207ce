-- The theorems of N13, each file after those that it uses. What the code's tests say (Tests). Binary64 rounds any
-- fraction to the nearest number, at a tie to even (Nearest, Even, Rounding). So each operation is rounded once
-- (Fractions, Operations, EachRounded), and the division alone for whole 64ths (OnlyRounding). Tests of floats in exact
-- fractions (Signs, Values), by which 64ths are refused (Refusals). Eq. 23 from source 001's hyperbola (Hyperbola). The
-- promises and their use (Promises, PromisesApplied).
pub mod Tests
pub mod Nearest
pub mod Even
pub mod Rounding
pub mod Fractions
pub mod Hyperbola
pub mod Operations
pub mod EachRounded
pub mod OnlyRounding
pub mod Signs
pub mod Values
pub mod Refusals
pub mod Promises
pub mod PromisesApplied
