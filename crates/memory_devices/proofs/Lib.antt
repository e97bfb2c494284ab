-- the bytes of an array or a slice are below 256
mod Bytes
-- what a cut inside a call leaves
mod Cutting
-- one more call joins those that a board in memory keeps
mod OneMoreCall
-- what a call leaves of a board in memory: it is kept and done, kept and failed, or refused
mod CallEffects
-- the laws that the crates above may cite
pub mod Laws
-- what bytes that are put from a place on leave of an image
mod Overwriting
