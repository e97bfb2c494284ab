-- Rules: the commands that say something of a tariff's rates
pub mod Fineness
pub mod Rates
-- For proofs
pub mod RatesSteps
pub mod Common
