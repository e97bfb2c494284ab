-- Rules: what is printed without receipts.
use Rattle.std.specs.Prelude.{[], ℕ, ◌++◌, ◌∷◌, List}
use Rattle.meter_run.specs.Common.{Act, Enter, Hold, Receipt, Refuse, Setting, Show, actions_of, display_text}
use Rattle.meter_run.specs.Common.{events_of, first_state, refusal_text}

-- the line that is shown of an act is that of its display or its refusal, and is empty for any other act
abbrev pub shown_text : Act → List ℕ
shown_text (Show display) = display_text display
shown_text (Refuse why) = refusal_text why
shown_text (Enter entry) = []
shown_text (Hold trip) = []
shown_text (Receipt receipt) = []

-- the lines that are shown of acts are those of each act, one behind the other
abbrev pub shown_texts : List Act → List ℕ
shown_texts [] = []
shown_texts (act ∷ acts) = shown_text act ++ shown_texts acts

-- a drive that begins with number 1, totals of nothing and no held trip shows the displays and refusals of its events,
-- and of the supply drop at its end
abbrev pub drive_shown : Setting → (drive : List ℕ) → List ℕ
drive_shown s drive = shown_texts (actions_of s first_state (events_of drive))
