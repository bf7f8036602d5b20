-- The text format. Definitions: Text, Input, Reader, and Accepted, which says the same as Reader without a fold. The
-- rest is laws: ReaderLaws has that the two agree, Handed what an accepted text hands to the search.
pub mod Text
pub mod Input
pub mod Reader
pub mod Accepted
pub mod Laws
