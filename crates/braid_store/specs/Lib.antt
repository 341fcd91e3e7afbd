pub mod Books
pub mod Answers
pub mod Reads
pub mod Cursors
pub mod Inside
