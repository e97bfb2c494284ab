-- the excess of weights, and what mode S charges even speeds under them
mod Excess
-- the fine constants that are found are the nearest ones
mod FineConstants
-- the first of a range of numbers that passes a test
mod Nearest
-- products in two parts
mod Products
-- the rates of a tariff, line by line
mod RateLines
-- the weights in the tables of a tariff are in scale with a rate's own
mod TableScale
