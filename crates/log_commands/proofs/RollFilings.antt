-- How the filing of a roll goes on and ends.
use Rattle.std.{specs.Prelude.{IsErrAnd, OnErr}, proofs.lemmas.List.{append-nil}}
use Rattle.std.proofs.Common.{[], ℕ, ◌*◌, ◌++◌, ◌+◌, ◌∙◌, ◌∷◌, ◌≡◌, ◌≢◌, ◌≤◌, ◌⊎◌, Err, List, None, Ok, Option, Result}
use Rattle.std.proofs.Common.{Some, ap, arith, inl, inr, length, length-append, refl, subst, sym}
use Rattle.{outside.specs.declared.fault.Failed.{Failed}, log_commands.specs.{Filings.{MayHaveFailed}, Record.{Record}}}
use Rattle.log_commands.specs.Common.{FileEnd, Ghosts, MayRise, RisesOnlyIf, Rose, stream_limit}
use Rattle.log_commands.{specs.Filed.{Files, IsFiledOf, IsNewer, IsOther}, proofs.Causes.{may_rise_for, rose_later}}
use Rattle.log_commands.specs.Filings.{EndsAs, FailsInRoll, FilesRoll, FilesTo, IsFiling, IsTold, LeavesSome}
use Rattle.log_commands.{specs.Reading.{EndsBy, FailsNow, GoesOn, HasRead, Place}, proofs.FiledLaws.{files_one_more}}
use Rattle.log_commands.specs.declared.filing.Filing.{Filing, TheVariants.{Appended, OtherTaxi, Passed}}
use Rattle.log_commands.specs.declared.roll.RollEnd.{RollEnd, TheVariants.{ReadFault, TooLong, Whole}}
use Rattle.log_commands.{specs.declared.tail.Tail.{Tail}, proofs.Tails.{files_then, moments_then}}
use Rattle.log_commands.proofs.{RollLaws.{read_first}, WholeRolls.{receipts_of_all, receipts_so_far, receipts_taken}}
use Rattle.log_commands.specs.declared.file_roll.FileEnd.TheVariants as ends

-- what holds is said of a failure
pub err_says : {T E P : Type 0} (r : Result T E) → P → OnErr r P
err_says (Ok x) p = tt
err_says (Err e) p = p

fault_or_not : (end : Option RollEnd) → (end ≡ Some ReadFault) ⊎ (end ≢ Some ReadFault)
fault_or_not None = inr (λ e. absurd cc)
fault_or_not (Some Whole) = inr (λ e. absurd cc)
fault_or_not (Some TooLong) = inr (λ e. absurd cc)
fault_or_not (Some ReadFault) = inl refl

-- the end of an answer
pub same_end : (a b : FileEnd) → ◌≡◌ {A = Result FileEnd Failed} (Ok a) (Ok b) → a ≡ b
same_end a b e = cc

-- ---- the counts of faults

-- a read may have failed if the board did
pub failed_err : (Q : Failed → Type 0) (r : Result FileEnd Failed) → IsErrAnd r Q → MayHaveFailed r
failed_err Q (Ok end) never = absurd never
failed_err Q (Err failed) is = tt

-- a reader that failed has failed, and takes no more
module _ (old new : Place) (first then now : ℕ) (stays : old.end ≡ Some ReadFault → new.end ≡ Some ReadFault) where
  -- so its count of faults rose before or in this call
  pub rises_since : RisesOnlyIf (old.end ≡ Some ReadFault) first then → RisesOnlyIf (FailsNow old new) then now
      → RisesOnlyIf (new.end ≡ Some ReadFault) first now
  rises_since before here = elim (fault_or_not old.end) [
    | inl was ↦ record {
      kept = λ no. absurd (no (stays was));
      rose = λ _. subst (λ (n : ℕ). Rose first n) (sym (here.kept (λ fails. fails.1 was))) (before.rose was);
    }
    | inr not ↦ record {
      kept = λ no. here.kept (λ fails. no fails.0) ∙ before.kept not;
      rose = λ yes. rose_later first then now (before.kept not) (here.rose (yes, not));
    }
  ]

  -- and another count by one at most
  pub may_since : MayRise (old.end ≡ Some ReadFault) first then → MayRise (FailsNow old new) then now
      → MayRise (new.end ≡ Some ReadFault) first now
  may_since before here = elim (fault_or_not old.end) [
    | inl was ↦ record {
      kept = λ no. absurd (no (stays was));
      most = subst (λ (n : ℕ). (n ≡ first) ⊎ Rose first n) (sym (here.kept (λ fails. fails.1 was))) before.most;
    }
    | inr not ↦ record {
      kept = λ no. here.kept (λ fails. no fails.0) ∙ before.kept not;
      most = subst (λ (n : ℕ). (now ≡ n) ⊎ Rose n now) (before.kept not) here.most;
    }
  ]

module _ {D L : Type 0} {N : ℕ} (B : Ghosts D N L) (tl tf : Type 0) where
  -- ---- a receipt more

  pub filing_by : (f : Filing) (mid new : D) (then last : Tail) (it : Record) (steps steps' : ℕ) → f ≢ OtherTaxi
      → (◌≡◌ {A = Result Filing Failed} (Ok f) (Ok Passed)
      → FilesTo B tl mid new then last (it ∷ []) [] × (steps' ≡ steps))
      → (◌≡◌ {A = Result Filing Failed} (Ok f) (Ok Appended) → FilesTo B tl mid new then last (it ∷ []) (it ∷ []))
      → steps' ≤ steps + 6
      → (more : List Record) × FilesTo B tl mid new then last (it ∷ []) more × (steps' ≤ steps + 6 * length more)
  filing_by OtherTaxi mid new then last it steps steps' ne passed appended few = absurd (ne refl)
  filing_by Passed mid new then last it steps steps' ne passed appended few =
      ([], (passed refl).0, omega (arith, (passed refl).1))
  filing_by Appended mid new then last it steps steps' ne passed appended few =
      (it ∷ [], appended refl, omega (arith, few))

  pub filing_on : (old mid new : D) (first then last : Tail) (roll : List ℕ) (place place' : Place)
      (rest rest' : List ℕ) (seen steps mid_steps steps' : ℕ) (it : Record)
      → IsFiling B tl tf old mid first then roll place rest seen steps mid_steps
      → (tf → GoesOn place place' rest rest' (it ∷ []))
      → (more : List Record) × FilesTo B tl mid new then last (it ∷ []) more × (steps' ≤ mid_steps + 6 * length more)
      → IsFiling B tl tf old new first last roll place' rest' (seen + 1) steps steps'
  filing_on old mid new first
      then last roll place place' rest rest' seen steps mid_steps steps' it h goes more = record {
        receipts = h.receipts ++ it ∷ [];
        filed = h.filed ++ more.0;
        to = files_then B tl old mid new first then last h.receipts (it ∷ []) h.filed more.0 h.to more.1;
        read = λ told. goes told roll h.receipts (h.read told);
        seen_is = omega (arith, h.seen_is, length-append h.receipts (it ∷ []));
        few = omega (arith, h.few, more.2, length-append h.filed more.0);
      }

  -- ---- no more is read

  filed_of : (roll : List ℕ) (place : Place) (rest : List ℕ) (receipts filed : List Record) (newest last : Option
      Record) → HasRead roll place rest receipts → Files newest receipts filed last → IsFiledOf newest roll rest filed
  filed_of roll place rest receipts filed newest last h files = record {
    taken = h.taken;
    unread = place.ahead;
    receipts = receipts;
    last = last;
    roll_is = h.split.bytes;
    few = omega (arith, h.count);
    reads = receipts_so_far roll place rest receipts h;
    files = files;
  }

  abbrev Reason : RollEnd → FileEnd → (filed : ℕ) → Type 0
  Reason end found filed = (end ≡ Whole → found ≡ ends.Filed filed) × (end ≡ TooLong → found ≡ ends.TooLong)
      × (end ≡ ReadFault → found ≡ ends.ReadFault)

  -- a read failed if the filing says it
  read_failed : (end : RollEnd) (found : FileEnd) (filed : ℕ) → Reason end found filed → found ≡ ends.ReadFault
      → end ≡ ReadFault
  read_failed Whole found filed why is = let no = why.0 refl in absurd cc
  read_failed TooLong found filed why is = let no = why.1 refl in absurd cc
  read_failed ReadFault found filed why is = refl

  pub fault_over : (end : RollEnd) (place' : Place) (found : FileEnd) (filed first now : ℕ) → place'.end ≡ Some end
      → Reason end found filed → RisesOnlyIf (place'.end ≡ Some ReadFault) first now → found ≡ ends.ReadFault
      → Rose first now
  fault_over end place' found filed first now over why rises is =
      rises.rose (over ∙ ap (λ (e : RollEnd). Some e) (read_failed end found filed why is))

  -- and none has failed if it says that there is no more
  failed_over : (end : RollEnd) (found : FileEnd) (filed : ℕ) → Reason end found filed
      → ◌≡◌ {A = Option RollEnd} (Some end) (Some ReadFault) → MayHaveFailed (Ok found)
  failed_over end found filed why is =
      subst (λ (e : FileEnd). MayHaveFailed (Ok e)) (sym (why.2 same)) tt
    where
      same : end ≡ ReadFault
      same = cc

  pub counts_over : (end : RollEnd) (place' : Place) (found : FileEnd) (filed first now : ℕ) → place'.end ≡ Some end
      → Reason end found filed → MayRise (place'.end ≡ Some ReadFault) first now
      → MayRise (MayHaveFailed (Ok found)) first now
  counts_over end place' found filed first now over why may =
      may_rise_for first now (λ yes. failed_over end found filed why (sym over ∙ yes)) may

  ends_as : (end : RollEnd) (roll rest : List ℕ) (place : Place) (receipts filed : List Record) (newest last : Option
      Record) (count : ℕ) → HasRead roll place rest receipts → place.ahead ≡ [] → place.end ≡ Some end
      → Files newest receipts filed last → (found : FileEnd) → Reason end found count
      → EndsAs found newest roll rest filed last
  ends_as Whole roll rest place receipts filed newest last count h none is files found why =
      let over : rest ≡ [] = subst (λ (e : Option RollEnd). EndsBy e h.taken rest) is h.ends in
      subst (λ (e : FileEnd). EndsAs e newest roll rest filed last) (sym (why.0 refl))
      (over, (receipts, receipts_of_all roll place rest receipts h none is, files))
  ends_as TooLong roll rest place receipts filed newest last count h none is files found why =
      let full : length h.taken ≡ stream_limit = subst (λ (e : Option RollEnd). EndsBy e h.taken rest) is h.ends in
      subst (λ (e : FileEnd). EndsAs e newest roll rest filed last) (sym (why.1 refl))
      (h.taken, receipts, h.split.bytes, full, receipts_taken roll place rest receipts h none, files)
  ends_as ReadFault roll rest place receipts filed newest last count h none is files found why =
      subst (λ (e : FileEnd). EndsAs e newest roll rest filed last) (sym (why.2 refl))
      (h.taken, receipts, h.split.bytes, receipts_taken roll place rest receipts h none, files)

  told_as : (end : RollEnd) (filed : List Record) (count : ℕ) → count ≡ length filed → (found : FileEnd)
      → Reason end found count → IsTold found filed
  told_as Whole filed count is found why = subst (λ (e : FileEnd). IsTold e filed) (sym (why.0 refl)) is
  told_as TooLong filed count is found why = subst (λ (e : FileEnd). IsTold e filed) (sym (why.1 refl)) tt
  told_as ReadFault filed count is found why = subst (λ (e : FileEnd). IsTold e filed) (sym (why.2 refl)) tt

  pub filing_over : (end : RollEnd) (found : FileEnd) (old new : D) (first last : Tail) (roll : List ℕ)
      (place place' : Place) (rest rest' : List ℕ) (seen steps steps' : ℕ)
      → IsFiling B tl tf old new first last roll place rest seen steps steps' → first.filed ≡ 0 → (tf
      → GoesOn place place' rest rest' []) → (place'.end ≡ Some end) × (place'.ahead ≡ []) → Reason end found last.filed
      → FilesRoll B tl tf old new first last roll rest' found steps steps'
  filing_over end found old new first last roll place place' rest rest' seen steps steps' h none goes over
      why = record {
        receipts = h.receipts;
        filed = h.filed;
        to = h.to;
        ends = λ told.
            let read =
            subst (HasRead roll place' rest') (append-nil h.receipts) (goes told roll h.receipts (h.read told)) in
            ends_as end roll rest' place' h.receipts h.filed first.newest last.newest last.filed read over.1 over.0
            h.to.files found why;
        of = λ told.
            let read =
            subst (HasRead roll place' rest') (append-nil h.receipts) (goes told roll h.receipts (h.read told)) in
            filed_of roll place' rest' h.receipts h.filed first.newest last.newest read h.to.files;
        told = told_as end h.filed last.filed (omega (arith, h.to.count, none)) found why;
        few = h.few;
      }

  -- ---- a receipt of another taxi

  pub filing_other : (old new : D) (first last : Tail) (roll : List ℕ) (place place' : Place) (rest rest' : List ℕ)
      (seen steps steps' : ℕ) (it : Record)
      → IsFiling B tl tf old new first last roll place rest seen steps steps'
      → (tf → GoesOn place place' rest rest' (it ∷ [])) → IsOther last.newest it
      → FilesRoll B tl tf old new first last roll rest' (ends.OtherTaxi (seen + 1)) steps steps'
  filing_other old new first last roll place place' rest rest' seen steps steps' it h goes other = record {
    receipts = h.receipts;
    filed = h.filed;
    to = h.to;
    ends = λ told.
        let read = goes told roll h.receipts (h.read told) in (
          read.taken,
          read.split.bytes,
          record {
            before = h.receipts;
            other = it;
            rest = place'.ahead;
            reads = receipts_so_far roll place' rest' (h.receipts ++ it ∷ []) read;
            files = h.to.files;
            differs = other;
            place_is = omega (arith, h.seen_is);
          },
        );
    of = λ told.
        let read = goes told roll h.receipts (h.read told) in
        let before = read_first read.taken place'.ahead (h.receipts ++ it ∷ []) h.receipts (it ∷ [])
        (receipts_so_far roll place' rest' (h.receipts ++ it ∷ []) read) refl in
        record {
          taken = read.taken;
          unread = before.0;
          receipts = h.receipts;
          last = last.newest;
          roll_is = read.split.bytes;
          few = omega (arith, read.count);
          reads = before.1;
          files = h.to.files;
        };
    told = tt;
    few = h.few;
  }

  -- if nothing else has changed since
  pub filing_other_now : (old new now : D) (first last now_last : Tail) (roll : List ℕ) (place place' : Place)
      (rest rest' : List ℕ) (seen steps steps' now_steps : ℕ) (it : Record)
      → IsFiling B tl tf old new first last roll place rest seen steps steps' → (tf → GoesOn place place' rest rest'
      (it ∷ [])) → IsOther last.newest it → now_last ≡ last → now ≡ new → now_steps ≡ steps'
      → FilesRoll B tl tf old now first now_last roll rest' (ends.OtherTaxi (seen + 1)) steps now_steps
  filing_other_now old new now first last now_last roll place place' rest rest' seen steps steps' now_steps it h goes
      other tail log count =
      subst (λ (d : D). FilesRoll B tl tf old d first now_last roll rest' (ends.OtherTaxi (seen + 1)) steps now_steps)
      (sym log)
      (subst (λ (t : Tail). FilesRoll B tl tf old new first t roll rest' (ends.OtherTaxi (seen + 1)) steps now_steps)
      (sym tail)
      (subst
      (λ (n : ℕ). FilesRoll B tl tf old new first last roll rest' (ends.OtherTaxi (seen + 1)) steps n) (sym count)
      (filing_other old new first last roll place place' rest rest' seen steps steps' it h goes other)))

  -- ---- the board failed

  pub filing_fails : (old mid new : D) (first then : Tail) (roll : List ℕ) (place place' : Place) (rest rest' : List ℕ)
      (seen steps mid_steps steps' : ℕ) (it : Record)
      → IsFiling B tl tf old mid first then roll place rest seen steps mid_steps → (tf
      → GoesOn place place' rest rest' (it ∷ [])) → IsNewer then.newest it → LeavesSome B tl mid new then (it ∷ [])
      → steps' ≤ mid_steps + 6 → FailsInRoll B tl tf old new first roll rest' steps steps'
  filing_fails old mid new first
      then roll place place' rest rest' seen steps mid_steps steps' it h goes newer moments few = record {
        receipts = h.receipts ++ it ∷ [];
        filed = h.filed ++ it ∷ [];
        last = Some it;
        files = files_one_more first.newest then.newest it h.receipts h.filed h.to.files newer;
        moments = moments_then B tl old mid new first then h.receipts h.filed (it ∷ []) h.to moments;
        of = λ told.
            filed_of roll place' rest' (h.receipts ++ it ∷ []) (h.filed ++ it ∷ []) first.newest (Some it)
            (goes told roll h.receipts (h.read told))
            (files_one_more first.newest then.newest it h.receipts h.filed h.to.files newer);
        few = omega (arith, h.few, few, length-append h.filed (it ∷ []));
      }
