-- Lists, bits, numerals and counting: definitions, and their laws.
pub mod Lists
pub mod Bits
pub mod Numerals
pub mod Laws
