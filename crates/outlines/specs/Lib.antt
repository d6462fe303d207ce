-- Contracts between functions, nothing that a reader must believe: left turns of all elements, and boxes around them.
pub mod OutlineContracts
