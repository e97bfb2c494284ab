-- The ends by which a store bars a command, case by case.
use Rattle.std.proofs.Common.{ℕ, ◌∙◌, ◌≡◌, ◌≢◌, inl, inr, refl, subst, sym}
use Rattle.{call_ends.{specs.Ending.{IsRefusal}, proofs.Laws.{refusal_by}}, store_commands.specs.Opening.{store_ended}}
use Rattle.store_commands.specs.{Common.{Ended, StoreFault}, Opened.{IsBarred}}
use Rattle.call_ends.specs.declared.ending.Ended.TheVariants as ended
use Rattle.store_commands.specs.declared.opening.StoreFault.TheVariants as stores

-- a fault of the store is no other end
pub not_read-store : (fault : StoreFault) → store_ended fault ≢ ended.ReadFault
not_read-store (stores.BadSlot slot) = λ e. absurd cc
not_read-store (stores.SameNumber first second) = λ e. absurd cc
not_read-store stores.BoardFault = λ e. absurd cc

pub board_fault-store : (fault : StoreFault) → store_ended fault ≡ ended.BoardFault → fault ≡ stores.BoardFault
board_fault-store (stores.BadSlot slot) e = absurd cc
board_fault-store (stores.SameNumber first second) e = absurd cc
board_fault-store stores.BoardFault e = refl

-- nor want of memory
not_memory-store : (fault : StoreFault) → store_ended fault ≢ ended.NoMemory
not_memory-store (stores.BadSlot slot) = λ e. absurd cc
not_memory-store (stores.SameNumber first second) = λ e. absurd cc
not_memory-store stores.BoardFault = λ e. absurd cc

pub not_memory-barred : (end : Ended) → IsBarred end → end ≢ ended.NoMemory
not_memory-barred end (inl is) = λ e. absurd (let same : ended.NotSealed ≡ ended.NoMemory = sym is ∙ e in cc)
not_memory-barred end (inr (fault, is)) = λ e. not_memory-store fault (sym is ∙ e)

-- what is `Owed` of each of these ends holds of the one that came, if the store `Refuses` by it or the board
module _ (Refuses Owed : Ended → Type 0) (failed : Type 0) (not_sealed : Refuses ended.NotSealed → Owed ended.NotSealed)
    (bad_slot : (slot : ℕ) → Refuses (ended.BadSlot slot) → Owed (ended.BadSlot slot))
    (same_number : (first second : ℕ) → Refuses (ended.SameNumber first second) → Owed (ended.SameNumber first second))
    (board : failed → Owed ended.BoardFault) where
  by_fault : (fault : StoreFault) → (store_ended fault ≢ ended.BoardFault → Refuses (store_ended fault))
      → (store_ended fault ≡ ended.BoardFault → failed) → Owed (store_ended fault)
  by_fault (stores.BadSlot slot) refused cause = bad_slot slot (refused (λ e. absurd cc))
  by_fault (stores.SameNumber first second) refused cause = same_number first second (refused (λ e. absurd cc))
  by_fault stores.BoardFault refused cause = board (cause refl)

  pub owed-barred : (end : Ended) → IsBarred end → (end ≢ ended.BoardFault → Refuses end)
      → (end ≡ ended.BoardFault → failed) → Owed end
  owed-barred end (inl e) refused cause =
      subst (λ (w : Ended). Owed w) (sym e) (not_sealed (subst (λ (w : Ended). Refuses w) e (refused (λ f. absurd cc))))
  owed-barred end (inr (fault, e)) refused cause =
      subst (λ (w : Ended). Owed w) (sym e)
      (by_fault fault (λ good. subst (λ (w : Ended). Refuses w) e (refused (λ f. good (sym e ∙ f))))
      (λ is. cause (e ∙ is)))

-- the same, if what is owed of each refusal is that it `Refuses` and is none of the ends that a command comes to by
module _ (Refuses Owed : Ended → Type 0) (failed : Type 0)
    (not_sealed : Refuses ended.NotSealed × IsRefusal ended.NotSealed → Owed ended.NotSealed)
    (bad_slot : (slot : ℕ) → Refuses (ended.BadSlot slot) × IsRefusal (ended.BadSlot slot) → Owed (ended.BadSlot slot))
    (same_number : (first second : ℕ) → Refuses (ended.SameNumber first second)
    × IsRefusal (ended.SameNumber first second) → Owed (ended.SameNumber first second))
    (board : failed → Owed ended.BoardFault) where
  pub owed-refused : (end : Ended) → IsBarred end → (end ≢ ended.BoardFault → Refuses end)
      → (end ≡ ended.BoardFault → failed) → Owed end
  owed-refused =
      owed-barred Refuses Owed failed
      (λ e. not_sealed (e, refusal_by ended.NotSealed refl refl refl))
      (λ slot e. bad_slot slot (e, refusal_by (ended.BadSlot slot) refl refl refl))
      (λ first second e. same_number first second
      (e, refusal_by (ended.SameNumber first second) refl refl refl))
      board
