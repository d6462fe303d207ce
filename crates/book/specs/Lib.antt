-- A book of the best bracket. A reader must believe: Book, what an ask and a commit answer, Answer, the same as the
-- code answers it, and History, what holds of a book after any calls. No file is a contract between functions.
pub mod Book
pub mod Answer
pub mod History
