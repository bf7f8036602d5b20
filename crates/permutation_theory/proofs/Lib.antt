pub mod ImageLaws
pub mod Images
pub mod Symmetries
