-- the first choice of a kind that holds, looked for line by line
mod FirstChoices
-- the laws that the crates above may cite
pub mod Laws
-- the place of the first element that passes a test
mod PlaceLaws
