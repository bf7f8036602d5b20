-- The reader's answer in document 01's terms; what the functions that make it promise, and the laws that their proofs
-- use.
pub mod Reply
pub mod Laws
