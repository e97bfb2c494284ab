-- For proofs: how the program makes a near tariff. NearTariff and Near say what comes of it.
use Rattle.std.specs.Prelude.{ℕ, ⊤, ◌≡◌, ◌⊎◌, Err, List, None, Ok, Option, Result, Some, min, true}
use Rattle.tariff_syntax.specs.declared.parsing.ParseFault.{ParseFault}
use Rattle.{tariff_check.specs.declared.fault.CheckFault.TheVariants.{NoMemory}, near_commands.specs.Common.{rates_of}}
use Rattle.call_ends.specs.declared.ending.Ended.{Ended, TheVariants.{BadTariff}}
use Rattle.near_commands.specs.Common.{CheckFault, Entry, Line, Measures, RateNumbers, Syntax, TooLong, Tree, rate}
use Rattle.near_commands.specs.{Near.{near_text}, NearTariff.{fit, is_moderate, with_rates}}
use Rattle.near_commands.specs.{Nearest.{near_rate}, declared.copies.Change.{Change, TheVariants.{Near, Plain}}}
use Rattle.call_ends.specs.declared.ending.Ended.TheVariants as ends
use Rattle.tariff_syntax.specs.declared.parsing.ParseFault.TheVariants as faults

-- a rate with plain measures has 1 for each that isn't 0, so that it has its other faults, and a common measure
abbrev pub plain_rate : RateNumbers → RateNumbers
plain_rate r = record { a = r.a; b = min r.b 1; c = r.c; e = min r.e 1 }

-- a change gives plain measures, or near amounts for measures
abbrev pub changed : Change → RateNumbers → RateNumbers
changed Plain r = plain_rate r
changed (Near m) r = near_rate m r

-- a tariff with changed rates
abbrev pub changed_tree : Change → Tree → Tree
changed_tree change t = record { decimals = t.decimals; lines = with_rates (changed change) t.lines }

-- a rate may be changed if its near amounts are moderate
abbrev pub MayTell : Change → RateNumbers → Type 0
MayTell Plain r = ⊤
MayTell (Near m) r = is_moderate (near_rate m r) ≡ true

-- so may a line that is a rate, and every other line
abbrev pub MayChange : Change → Entry → Type 0
MayChange change (rate a b c e when) = MayTell change (record { a = a; b = b; c = c; e = e })
MayChange change entry = ⊤

-- lines may be changed if their rates fit
abbrev pub MayChangeAll : Change → List Line → Type 0
MayChangeAll Plain lines = ⊤
MayChangeAll (Near m) lines = fit m (rates_of lines) ≡ true

-- a text is the near text of a tariff for the measures that were found
pub record IsNearText (t : Tree) (found : Result Measures CheckFault) (text : List ℕ) : Type 0 where
  pub measures : Measures
  pub has : found ≡ Ok measures
  pub text_is : text ≡ near_text measures t

-- what is answered is that there is no fault, or the fault that is there, or that memory ran out
abbrev pub IsFault : {T : Type 0} → Option CheckFault → Result T CheckFault → Type 0
IsFault there (Ok done) = there ≡ None
IsFault there (Err fault) = (fault ≡ NoMemory) ⊎ (there ≡ Some fault)

-- the end of a command whose text has no tariff
abbrev pub ended_unparsed : ParseFault → Ended
ended_unparsed faults.TooLong = BadTariff TooLong
ended_unparsed (faults.Syntax line) = BadTariff (Syntax line)
ended_unparsed faults.NoMemory = ends.NoMemory
