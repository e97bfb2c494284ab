-- Rules: what acts commit.
use Rattle.std.specs.Prelude.{[], ℕ, ◌∷◌, List, suc, zero}
use Rattle.meter_run.specs.Common.{Act, Durable, Enter, Hold, IsDurable, IsShown, Receipt, Refuse, Show, after}
use Rattle.totals_record.specs.declared.change.Change.TheVariants as changes

-- the durable state after an act is the one after its commit, if it is an entry or a held trip, and is unchanged after
-- any other act
abbrev pub after_act : Durable → Act → Durable
after_act durable (Show display) = durable
after_act durable (Refuse why) = durable
after_act durable (Enter entry) = after durable (changes.Enter entry)
after_act durable (Hold trip) = after durable (changes.Hold trip)
after_act durable (Receipt receipt) = durable

-- the durable state after acts is the one after each of them in its turn
abbrev pub after_acts : Durable → List Act → Durable
after_acts durable [] = durable
after_acts durable (act ∷ acts) = after_acts (after_act durable act) acts

-- the number of commits among acts is that of their entries and held trips
abbrev pub commits_in : List Act → ℕ
commits_in [] = zero
commits_in (Show display ∷ acts) = commits_in acts
commits_in (Refuse why ∷ acts) = commits_in acts
commits_in (Enter entry ∷ acts) = suc (commits_in acts)
commits_in (Hold trip ∷ acts) = suc (commits_in acts)
commits_in (Receipt receipt ∷ acts) = commits_in acts

-- an act may be carried out at a durable state if what it shows has a text and the state after it is in its ranges
abbrev pub IsFor : Durable → Act → Type 0
IsFor durable (Show display) = IsShown display
IsFor durable (Refuse why) = Unit {0}
IsFor durable (Enter entry) = IsDurable (after durable (changes.Enter entry))
IsFor durable (Hold trip) = IsDurable (after durable (changes.Hold trip))
IsFor durable (Receipt receipt) = Unit {0}

-- acts may be carried out at a durable state if each may be at the state that the acts before it leave
abbrev pub AreFor : Durable → List Act → Type 0
AreFor durable [] = Unit {0}
AreFor durable (act ∷ acts) = IsFor durable act × AreFor (after_act durable act) acts
