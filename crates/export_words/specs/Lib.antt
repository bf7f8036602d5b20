-- Answers as words, and what the exported search and writer return, whatever holds the slots.
pub mod Words
pub mod Replies
pub mod Searching
pub mod Writing
pub mod Laws
