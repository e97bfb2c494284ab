-- the laws that the crates above may cite
pub mod Laws
-- what bytes are read as, and that values are bodies of slots
mod ReadBack
-- rows of values, one after another
mod Rows
-- what is in its range fits its bytes, and is read again
mod ValueWidths
