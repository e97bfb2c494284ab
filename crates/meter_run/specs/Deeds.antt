-- Rules: what a run does, deed by deed: the acts of the meter, and lines that the caller prints behind them.
use Rattle.std.specs.Prelude.{[], ℕ, ◌++◌, ◌∷◌, List}
use Rattle.{meter_states.specs.Pairs.{commits_of}, receipt_text.specs.Receipts.{receipt_text}}
use Rattle.meter_run.specs.{Commits.{after_act}, Common.{part_of_seal, refusal_text}}
use Rattle.meter_run.specs.Common.{Act, Change, Durable, Enter, Hold, Receipt, Refuse, Seal, Show, display_text}

-- a deed is an act of the meter, or the print of a line
pub data Deed : Type 0 where
  Does : Act → Deed
  Prints : (line : List ℕ) → Deed

-- the text that an act prints under a seal is that of its display, its refusal or its receipt, and is empty for a
-- commit
abbrev pub act_text : Seal → Act → List ℕ
act_text seal (Show display) = display_text display
act_text seal (Refuse why) = refusal_text why
act_text seal (Enter entry) = []
act_text seal (Hold trip) = []
act_text seal (Receipt receipt) = receipt_text receipt (part_of_seal seal)

-- the text that a deed prints under a seal is that of its act, or its line
abbrev pub deed_text : Seal → Deed → List ℕ
deed_text seal (Does act) = act_text seal act
deed_text seal (Prints line) = line

-- the texts of deeds under a seal are the text of each deed, one behind the other
abbrev pub texts : Seal → List Deed → List ℕ
texts seal [] = []
texts seal (deed ∷ deeds) = deed_text seal deed ++ texts seal deeds

-- the durable state after a deed is the one after its act, and a print of a line leaves it as it is
abbrev pub after_deed : Durable → Deed → Durable
after_deed durable (Does act) = after_act durable act
after_deed durable (Prints line) = durable

-- the durable state after deeds is the one after each of them in its turn
abbrev pub after_deeds : Durable → List Deed → Durable
after_deeds durable [] = durable
after_deeds durable (deed ∷ deeds) = after_deeds (after_deed durable deed) deeds

-- the changes that a deed commits are those of its act; the print of a line commits none
abbrev pub changes_in : Deed → List Change
changes_in (Does act) = commits_of (act ∷ [])
changes_in (Prints line) = []

-- the changes that deeds commit are those of each deed, in their order
abbrev pub changes_of : List Deed → List Change
changes_of [] = []
changes_of (deed ∷ deeds) = changes_in deed ++ changes_of deeds

-- the deeds of acts are one for each act, in their order
abbrev pub deeds_of : List Act → List Deed
deeds_of [] = []
deeds_of (act ∷ acts) = Does act ∷ deeds_of acts
