-- Rules: in which operating positions a key may act. The law accepted_keys_act says what it does there, key by key.
use Rattle.std.specs.Prelude.{◌≡◌, ◌⊎◌}
use Rattle.taxi_units.specs.declared.event.Key.TheVariants.{Clear, Extra, Hire, Position, Stop, Zone}
use Rattle.meter_model.specs.Common.{ForHire, Hired, Key, Operating, Stopped}

-- a key may act in these operating positions: Hire in For Hire and in Stopped, Stop in Hired, Clear in Stopped, a
-- tariff position and a zone in For Hire and in Hired, and a supplement in Hired and in Stopped
abbrev pub MayAct : Key → Operating → Type 0
MayAct Hire operating = (operating ≡ ForHire) ⊎ (operating ≡ Stopped)
MayAct Stop operating = operating ≡ Hired
MayAct Clear operating = operating ≡ Stopped
MayAct (Position number) operating = (operating ≡ ForHire) ⊎ (operating ≡ Hired)
MayAct (Zone number) operating = (operating ≡ ForHire) ⊎ (operating ≡ Hired)
MayAct (Extra number) operating = (operating ≡ Hired) ⊎ (operating ≡ Stopped)
