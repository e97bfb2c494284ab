-- two tariffs, compared, or the one of them that wasn't read
mod ComparedTariffs
-- what the command `faults` answers begins with the answer of `check`
mod FaultsLaws
-- a form is its own form
mod FormLaws
-- the printed form of a text's tariff
mod Forms
-- what the command `faults` found of a text is what it answers
mod FoundFaults
-- the commands `check` and `tables`
mod TariffAnswers
