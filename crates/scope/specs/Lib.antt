-- Documents 01 and 02 as definitions on the numbers of a mesh, a table and a claim, each file after those that it uses.
-- A reader must believe the definitions: Cases to Tests, Phases, Refusals and Verdict, and for a borehole table Layers,
-- Filled, Table and TableVerdict; Bounds and RowNumbers are for contracts. The other files are statements, which say
-- the same a second time (Statements, RefusalTable, Printed, PrintedColumns, RefusedRows, RefusedColumns, Triangles,
-- Pairs, SideLimits, Overlaps, PolygonRule, Criterion, Meaning, Planes, Jumps, NumberRanges, LayerRefusals, TabledRefusals), or
-- what follows from them (Accepted, Bracket, Fractions, Parts, Blends ..). They share what a mesh's numbers are (Mesh),
-- and the steps and areas of Rows, which Meaning ties to what they mean, and no list of rows, phases or pairs.
-- Worked has the numbers of document 01's sheet. 001 and 003, where a comment names them, are sources that document 01
-- cites by these numbers.
pub mod Cases
pub mod Answer
pub mod Checks
pub mod Phases
pub mod Columns
pub mod Layout
pub mod Mesh
pub mod Polygon
pub mod Rows
pub mod Sums
pub mod Claim
pub mod Outline
pub mod Tests
pub mod Meets
pub mod Statements
pub mod Refusals
pub mod Verdict
pub mod RefusalTable
pub mod AnsweredMesh
pub mod Accepted
pub mod AnsweredClaim
pub mod NumberRanges
pub mod Bounds
pub mod Layers
pub mod Filled
pub mod LayerRefusals
pub mod Table
pub mod TableVerdict
pub mod TabledRefusals
pub mod PolygonRule
pub mod RowNumbers
pub mod Printed
pub mod PrintedColumns
pub mod RefusedRows
pub mod RefusedColumns
pub mod Triangles
pub mod Pairs
pub mod SideLimits
pub mod Overlaps
pub mod Criterion
pub mod Meaning
pub mod Planes
pub mod Jumps
pub mod AcceptedField
pub mod Bracket
pub mod Fractions
pub mod Parts
pub mod AcceptedMultipliers
pub mod AcceptedFractions
pub mod Blends
pub mod Worked
pub mod WorkedTable
