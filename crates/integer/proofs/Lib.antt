-- The laws of whole numbers that every other crate proves with, one file a topic, each after those that it uses.
-- At its head each says what it is for and shows an example of its use.
-- The example is a checked definition, `example-..`. A definition sees only what stands above it, so each stands
-- directly after what the head names.
-- RingLaws: ring laws of ℤ; Ring: identities by computing; TestLaws: Boolean tests; Order: ≤ and <; Linear: linear
-- consequences by `omega`;
-- RoundLaws: floor and ceiling; FractionLaws: fractions; SumLaws: sums over lists; BoundLaws: numbers within a bound;
-- Machine: 64-bit arithmetic in proofs of functions; Wide: products in 128 bits; DecimalLaws: whole numbers as text.
pub mod RingLaws
pub mod Ring
pub mod TestLaws
pub mod Order
pub mod Linear
pub mod RoundLaws
pub mod FractionLaws
pub mod SumLaws
pub mod BoundLaws
pub mod Machine
pub mod Wide
pub mod DecimalLaws
