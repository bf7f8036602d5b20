-- The formula by value, the replies in document 01's terms, and the refusals that entry points share.
pub mod Limits
pub mod Problem
pub mod Reply
pub mod Reasons
pub mod Refusals
pub mod Laws
