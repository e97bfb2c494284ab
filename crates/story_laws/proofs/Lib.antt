-- how moments part into stories, one for each closing
mod Stories
-- what kinds of happenings an event is told by
mod Told
-- stories end with their receipts
mod Ends
-- stories show what the run shows
mod Shown
-- what an event does to the trip
mod Turns
-- what each event does to the trip
mod Events
-- a story from the hiring to the end, event by event
mod Frame
-- what holds of an open story is carried to its end
mod Carried
-- stories begin with the hirings
mod Begins
-- each interval in Hired is charged by the line told
mod Lines
-- ticks and pulses never fall
mod Order
