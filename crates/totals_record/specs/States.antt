-- Rules: the durable state, and what a commit makes of it.
use Rattle.{std.specs.List.{All, fold}, totals_record.specs.Common.{Change, Durable, Enter, Entry, Hold, Totals, Trip}}
use Rattle.std.specs.Prelude.{[], ℕ, ◌++◌, ◌+◌, ◌∷◌, ◌≡◌, ◌⊎◌, List, None, Option, Some, false, if◌then◌else◌, true}
use Rattle.totals_record.specs.{Entries.{closes, no_totals, totals_with}, Ranges.{newest_layout}}

-- the first state, with which sealing begins, has number 1, the totals of no entry, no held trip, and the newest layout
abbrev pub first_state : Durable
first_state = record { number = 1; totals = no_totals; hold = None; layout = newest_layout }

-- the totals after a commit have its entry more, and stay if it holds a trip
abbrev pub totals_after : Totals → Change → Totals
totals_after totals (Enter entry) = totals_with totals entry
totals_after totals (Hold trip) = totals

-- the held trip after a commit is the one that the commit holds, or none if an entry closes a hiring, or the one held
-- before if an entry is of roaming
abbrev pub held_after : Option Trip → Change → Option Trip
held_after held (Enter entry) = if closes entry then None else held
held_after held (Hold trip) = Some trip

-- the state after a commit has the next number, the newest layout, and the totals and the held trip that the commit
-- leaves
abbrev pub after : Durable → Change → Durable
after durable change = record {
  number = durable.number + 1;
  totals = totals_after durable.totals change;
  hold = held_after durable.hold change;
  layout = newest_layout;
}

-- the state after a list of commits is the one after each of them in its turn
abbrev pub after_all : Durable → List Change → Durable
after_all durable changes = fold after durable changes

-- the entries of a list of commits stand in their order, without the trips that were held
abbrev pub entries_of : List Change → List Entry
entries_of [] = []
entries_of (Enter entry ∷ changes) = entry ∷ entries_of changes
entries_of (Hold trip ∷ changes) = entries_of changes

-- the layout after a list of commits is the opening one if the list is empty, and else the newest
abbrev pub layout_after : ℕ → List Change → ℕ
layout_after opening [] = opening
layout_after opening (change ∷ changes) = newest_layout

-- a commit is closing if it is an entry that closes a hiring
abbrev pub IsClosing : Change → Type 0
IsClosing (Enter entry) = closes entry ≡ true
IsClosing (Hold trip) = ⊥

-- a commit is one of roaming if it is an entry that closes no hiring, which leaves a held trip as it is
abbrev pub IsRoaming : Change → Type 0
IsRoaming (Enter entry) = closes entry ≡ false
IsRoaming (Hold trip) = ⊥

-- a commit is the last of a list if only entries of roaming stand behind it
pub record IsLast (changes : List Change) (last : Change) : Type 0 where
  pub earlier : List Change
  pub later : List Change
  pub split : changes ≡ earlier ++ last ∷ later
  pub roaming : All IsRoaming later

-- a trip, or none, is held after a list of commits, before which `opening` was held; the last commit that isn't of
-- roaming leaves it, or it was held before if there is no such commit
abbrev pub IsHeldAfter : Option Trip → List Change → Option Trip → Type 0
-- a trip: it was held last, and no closing entry follows, or it stood first, and there is neither
IsHeldAfter opening changes (Some trip) =
    IsLast changes (Hold trip) ⊎ (All IsRoaming changes × (opening ≡ Some trip))
-- none: a closing entry came last, or none stood first, and there is neither
IsHeldAfter opening changes None =
    ((closing : Change) × (IsClosing closing × IsLast changes closing)) ⊎ (All IsRoaming changes × (opening ≡ None))
