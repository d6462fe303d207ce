-- What is answered (document 01, 'Verdict and report'), as the definitions speak of it.
pub mod Outcome
pub mod Load
pub mod OpenRows
pub mod Verdict
