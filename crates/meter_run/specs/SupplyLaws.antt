-- For proofs: the supply behind events that a meter carries out on a store, one list behind another.
use Rattle.std.proofs.Common.{[], ℕ, ◌++◌, ◌∙◌, ◌∷◌, ◌≡◌, Bool, List, refl, sym}
use Rattle.meter_run.specs.Common.{CoreData, Event, Ghosts, LeavesNow, Seal, StoreMeter, TableParts, run}
use Rattle.meter_run.specs.{OnStore.{CarriesEvents, StopsAmid}, Supply.{StaysOff, is_supplied, is_supplied_after}}
use Rattle.meter_run.specs.StoreLaws.{amid_later, out_none, out_then}

-- the supply behind two lists of events is that behind the second, from that behind the first on
pub supplied_joined : (before : Bool) (es fs : List Event)
    → is_supplied before (es ++ fs) ≡ is_supplied (is_supplied before es) fs
supplied_joined before [] fs = refl
supplied_joined before (event ∷ es) fs = supplied_joined (is_supplied_after before event) es fs

pub off_then : (es fs : List Event) (a b c : CoreData) → StaysOff a es b → StaysOff b fs c → StaysOff a (es ++ fs) c
off_then es fs a b c first next =
    λ before off none. next (is_supplied before es) (first before off) (sym (supplied_joined before es fs) ∙ none)

module _ {D L : Type 0} {N : ℕ} (B : Ghosts D N L) (tables : TableParts) (seal : Seal) where
  -- a meter and a board carry events out, by the board, the tables and the seal at hand
  abbrev Carried : List Event → StoreMeter → D → StoreMeter → D → Type 0
  Carried events x a y b = CarriesEvents B tables seal events x a y b

  -- a meter and a board that is not called carry out no events
  pub carried_none : (x : StoreMeter) (a : D) → LeavesNow B a → Carried [] x a x a
  carried_none x a now = record { out = out_none B tables seal x a now; supply = λ before off. off }

  -- events that are carried out, and events behind them that are, are carried out as one list
  pub carried_then : (es fs : List Event) (x : StoreMeter) (a : D) (y : StoreMeter) (b : D) (z : StoreMeter) (c : D)
      → Carried es x a y b → Carried fs y b z c → Carried (es ++ fs) x a z c
  carried_then es fs x a y b z c first next = record {
    out = out_then B tables seal es fs x a y b z c first.out next.out;
    supply = off_then es fs x.core.state y.core.state z.core.state first.supply next.supply;
  }

  -- a board that stops amid events behind others that were carried out stops amid both, joined
  pub carried_later : (es fs : List Event) (x : StoreMeter) (a : D) (y : StoreMeter) (b c : D) → Carried es x a y b
      → StopsAmid B tables seal (λ s m. run s fs m) y b c
      → StopsAmid B tables seal (λ s m. run s (es ++ fs) m) x a c
  carried_later es fs x a y b c first next = amid_later B tables seal es fs x a y b c first.out next
