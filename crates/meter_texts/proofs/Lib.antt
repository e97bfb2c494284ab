-- the laws that the crates above may cite
pub mod Laws
-- tables and a seal that are made of two texts
mod MadeOf
