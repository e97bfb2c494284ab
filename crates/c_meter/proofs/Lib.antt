-- what a stop says, by its status
mod Stops
-- tables and a seal that are made of the texts of a tariff and of parameters, and the lines that are shown under them
mod TariffTexts
