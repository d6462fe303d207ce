-- The law of a buffer that has room for the line and no more.
pub mod Line
