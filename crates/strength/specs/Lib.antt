-- Document 02's N13: the next strength to try (Next), exact fractions and what it is to be rounded once (Rounded),
-- eq. 23 in exact fractions (Exact), the hyperbola that it comes from (Hyperbola), and what a caller may rely on
-- (Promises).
pub mod Next
pub mod Rounded
pub mod Exact
pub mod Hyperbola
pub mod Promises
