-- a call, from the end of its command to its last line
mod Calls
-- commands of two words, and of four
mod WordCounts
