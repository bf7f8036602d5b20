-- The text of a formula. Definitions: SheetText, what is written; Writer, what the writer answers; ReadBack, what the
-- text promises. The rest is laws.
pub mod SheetText
pub mod Writer
pub mod ReadBack
pub mod Laws
