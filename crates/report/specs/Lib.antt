-- The report line, one file a topic. A reader must believe Text, how a load is spelled and what such a text says;
-- Report, the line of a verdict; and Says, what a line says of a verdict, as it is read.
-- Contracts between functions: Buffer, what the report leaves in the buffer that is lent and what it answers, of which
-- `answered` (`pechuvo/specs/Check.antt`) is the whole; Spelled, the decimals of a load's text and the side that it is
-- rounded to.
pub mod Text
pub mod Report
pub mod Says
pub mod Spelled
pub mod Buffer
