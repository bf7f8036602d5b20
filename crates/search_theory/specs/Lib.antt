-- The search: its definition as a sentence and computed, and its theory.
pub mod Walk
pub mod Filled
pub mod Laws
