-- The rows 16, 17 and 18 of a certificate's entries.
pub mod Laws
