-- Rules: what a run writes in the store: its commits, one behind the other, and nothing else.
use Rattle.std.specs.Prelude.{[], ℕ, ◌∷◌, List}
use Rattle.slot_store.specs.{Sizes.{slot_size}, Writes.{WritesIn}}
use Rattle.meter_store.specs.Stored.{LeavesEither, written_at}
use Rattle.meter_run.specs.Common.{Change, Durable, Ghosts, HoldsState, KeepsStore, Place, after}

module _ {D L : Type 0} {N : ℕ} (B : Ghosts D N L) where
  -- a change is committed over a durable state if the pair of totals is settled with that state at a place, all that is
  -- written lies in the other slot, and nothing is printed; at each moment a cut leaves the state before or the state
  -- after, and outside the other slot only what it might have left at the start
  pub record Commits (durable : Durable) (change : Change) (old new : D) : Type 0 where
    pub place : Place
    pub settled : HoldsState B place old durable
    pub writes : WritesIn B (written_at place) slot_size old new
    pub leaves : LeavesEither B place durable (after durable change) old new

  -- a change is committed first if the store is kept up to a board on which its commit begins, and the board on which
  -- the commit is done is one from which the others may go on
  pub record CommitsFirst (durable : Durable) (change : Change) (old : D) (others : D → Type 0) : Type 0 where
    pub begun : D
    pub kept : KeepsStore B old begun
    pub done : D
    pub commits : Commits durable change begun done
    pub rest : others done

  -- changes are committed in turn, from a durable state on, if each is committed over the state that those before it
  -- leave; before the first commit, between two of them and behind the last one the store is kept, so nothing of it is
  -- written there, and nothing at all if there is no change
  abbrev pub CommitsInTurn : Durable → List Change → D → D → Type 0
  CommitsInTurn durable [] old new = KeepsStore B old new
  CommitsInTurn durable (change ∷ changes) old new =
      CommitsFirst durable change old (λ done. CommitsInTurn (after durable change) changes done new)
