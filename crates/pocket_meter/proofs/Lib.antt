-- events that a meter carries out, one behind the other
mod CarriedEvents
-- the value of an answer that went well
mod OkValues
