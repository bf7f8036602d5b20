-- Laws of stable sets, in both forms.
pub mod Refutation
pub mod PublishedLaws
pub mod StableLaws
