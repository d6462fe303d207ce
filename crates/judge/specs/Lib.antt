-- What a reader must believe: Judge, the verdict on a mesh file, a table file and a claim file, Form, when it is 1,
-- ClaimBytes, the length of a claim file, Handed, parts that are files or numbers handed over, and Room, the sizes of a
-- mesh. MeshLeft is a contract between functions.
pub mod Judge
pub mod Form
pub mod ClaimBytes
pub mod Handed
pub mod Room
pub mod MeshLeft
