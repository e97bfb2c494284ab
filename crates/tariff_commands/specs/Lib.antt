-- Rules: the commands that say something of a tariff alone
pub mod Check
pub mod Compare
pub mod Faults
pub mod Form
pub mod Lines
pub mod Tables
-- For proofs
pub mod CompareSteps
pub mod FaultsSteps
pub mod FormSteps
pub mod Common
