-- What the product promises, which files the checker accepts, and the worked cases of document 01.
pub mod Claim
pub mod StableSets
pub mod Cases
pub mod Laws
