-- Rules: the command `near`, which makes a tariff that can be compiled of one whose measures have nothing in common
pub mod Nearest
pub mod NearTariff
pub mod Near
pub mod NearLaws
-- For proofs
pub mod NearSteps
pub mod Common
