-- The theorems about the verdict on two files.
pub mod Numbers
pub mod Form
pub mod Handed
pub mod ClaimBytes
pub mod FilesJudged
pub mod RoomLaws
