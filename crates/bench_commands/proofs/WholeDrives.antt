-- A drive that is read whole into memory, part by part.
use Rattle.{std.specs.Prelude.{OnOk}, outside.specs.{Faults.{Rose}, declared.files.Files.{Ghosts as FileGhosts}}}
use Rattle.std.proofs.Common.{[], ℕ, ◌++◌, ◌+◌, ◌<◌, ◌∙◌, ◌≡◌, ◌≢◌, Err, IfSome, List, None, Option, Result, Some, ap}
use Rattle.std.proofs.Common.{append_assoc, arith, flat_map, length, length-append, refl, subst, sym}
use Rattle.{outside.{specs.Reading.{LeavesOthers}, proofs.Laws.{rose_behind}}, drive_text.proofs.Laws.{runs_are_added}}
use Rattle.drive_text.specs.{Drive.{runs_after, runs_in}, Ending.{ReachesEnd, ShowsEnd, TellsEnd}}
use Rattle.drive_source.specs.Source.{EndsBy, GivesRuns, HasGiven, Progress, StopsBy}
use Rattle.bench_commands.specs.{BenchSteps.{IsNoDrive, IsStopped, IsWholeDrive, fault_by}, Common.{run_events}}
use Rattle.bench_commands.specs.Common.{BadAt, Ended, Endless, ReadsWord, Run, Stop, StreamEnd, Whole, drive_end}
use Rattle.drive_source.specs.declared.source.Stop.TheVariants as stops
use Rattle.call_ends.specs.declared.ending.Ended.TheVariants as ended

-- these bytes of the drive were given to the reader of lines, and these are their runs
pub record IsSoFar (told : Type 0) (progress : Progress) (drive rest : List ℕ) (runs : List Run) : Type 0 where
  pub given : List ℕ
  pub stands : HasGiven progress given
  pub split : told → drive ≡ given ++ (progress.ahead ++ rest)
  pub runs_are : runs ≡ runs_in given

same : (a b : Ended) → Some a ≡ Some b → a ≡ b
same a b e = cc

module _ (told : Type 0) (old : Progress) (drive rest rest' : List ℕ) (runs part : List Run)
    (s : IsSoFar told old drive rest runs) where
  -- the runs with those of a part more
  with_part : (fed : List ℕ) → part ≡ runs_after s.given fed → runs ++ part ≡ runs_in (s.given ++ fed)
  with_part fed is =
      ap (λ (xs : List Run). xs ++ part) s.runs_are ∙ ap (λ (xs : List Run). runs_in s.given ++ xs) is
      ∙ sym (runs_are_added s.given fed)

  pub so_far_more : (new : Progress) → GivesRuns told old new rest rest' s.given part
      → IsSoFar told new drive rest' (runs ++ part)
  so_far_more new gives = record {
    given = s.given ++ gives.fed;
    stands = gives.goes_on;
    split = λ t. s.split t ∙ ap (λ (xs : List ℕ). s.given ++ xs) (gives.passes t)
        ∙ sym (append_assoc s.given gives.fed (new.ahead ++ rest'));
    runs_are = with_part gives.fed gives.runs_are;
  }

  -- fewer bytes are left than before
  pub smaller : (new : Progress) → GivesRuns told old new rest rest' s.given part
      → length new.ahead + new.left < length old.ahead + old.left
  smaller new gives = omega (arith, s.stands.count, gives.some, gives.goes_on.count, length-append s.given gives.fed)

  -- the bytes that were taken, with those that lie ahead
  taken_more : (new : Progress) → GivesRuns told old new rest rest' s.given part → told
      → IsStopped drive rest' (λ taken. Unit {0})
  taken_more new gives t = record {
    taken = (s.given ++ gives.fed) ++ new.ahead;
    split = record {
      bytes = s.split t ∙ ap (λ (xs : List ℕ). s.given ++ xs) (gives.passes t)
          ∙ sym (append_assoc s.given gives.fed (new.ahead ++ rest'))
          ∙ sym (append_assoc (s.given ++ gives.fed) new.ahead rest');
    };
    stands = tt;
  }

  taken_last : (stop : Stop) → StopsBy told old rest rest' s.given part stop → told
      → IsStopped drive rest' (λ taken. Unit {0})
  taken_last stop stops t = record {
    taken = s.given ++ stops.fed;
    split = record { bytes = s.split t ∙ (stops.split t).bytes };
    stands = tt;
  }

  -- memory ran out
  pub no_room : (new : Progress) (stop : Option Stop) → (stop ≡ None → GivesRuns told old new rest rest' s.given part)
      → ((x : Stop) → stop ≡ Some x → StopsBy told old rest rest' s.given part x) → told
      → IsNoDrive drive rest' ended.NoMemory
  no_room new None more last t = taken_more new (more refl) t
  no_room new (Some stop) more last t = taken_last stop (last stop refl) t

  -- how it ends
  ends_by : (stop : Stop) → (stops : StopsBy told old rest rest' s.given part stop) → told
      → EndsBy drive (s.given ++ stops.fed) rest' stop
  ends_by stop stops t =
      subst (λ (d : List ℕ). EndsBy d (s.given ++ stops.fed) rest' stop) (sym (s.split t)) (stops.ends t)

  tells : (taken : List ℕ) (reached : StreamEnd) → ReachesEnd drive taken rest' reached → TellsEnd drive rest'
  tells taken reached h = record { taken = taken; split = h.ends.split; shows = h.ends.shows }

  none_left : TellsEnd drive rest' → drive_end drive ≡ Whole → rest' ≡ []
  none_left tells e = subst (λ (x : StreamEnd). ShowsEnd x tells.taken rest') e tells.shows

  pub whole_drive : (stop : Stop) → fault_by stop ≡ None → StopsBy told old rest rest' s.given part stop → told
      → IsWholeDrive drive rest' (runs ++ part)
  whole_drive stops.Whole none last t =
      let h : ReachesEnd drive (s.given ++ last.fed) rest' Whole = ends_by stops.Whole last t in
      record {
        end_is = h.ends.end_is;
        none_left = none_left (tells (s.given ++ last.fed) Whole h) h.ends.end_is;
        events = ap (flat_map run_events) (with_part last.fed last.runs_are) ∙ sym h.given_is;
      }
  whole_drive (stops.BadLine line) none last t = absurd cc
  whole_drive stops.TooLong none last t = absurd cc
  whole_drive stops.ReadFault none last t = absurd cc

  pub no_drive : (stop : Stop) (why : Ended) → fault_by stop ≡ Some why
      → StopsBy told old rest rest' s.given part stop → told → IsNoDrive drive rest' why
  no_drive stops.Whole why some last t = absurd cc
  no_drive (stops.BadLine line) why some last t =
      let h : ReachesEnd drive (s.given ++ last.fed) rest' (BadAt line) = ends_by (stops.BadLine line) last t in
      subst (λ (f : Ended). IsNoDrive drive rest' f) (same (ended.BadDrive line) why some)
      (h.ends.end_is, tells (s.given ++ last.fed) (BadAt line) h)
  no_drive stops.TooLong why some last t =
      let h : ReachesEnd drive (s.given ++ last.fed) rest' Endless = ends_by stops.TooLong last t in
      subst (λ (f : Ended). IsNoDrive drive rest' f) (same ended.EndlessDrive why some)
      (h.ends.end_is, tells (s.given ++ last.fed) Endless h)
  no_drive stops.ReadFault why some last t =
      subst (λ (f : Ended). IsNoDrive drive rest' f) (same ended.ReadFault why some) (record {
        taken = s.given ++ last.fed;
        split = record { bytes = s.split t ∙ (last.split t).bytes };
        stands = ends_by stops.ReadFault last t;
      })

-- what a clause says of the stop that came
pub stop_at : (stop : Option Stop) (P : Stop → Type 0) (x : Stop) → stop ≡ Some x → IfSome stop P → P x
stop_at None P x is h = absurd cc
stop_at (Some y) P x is h = subst P (same_stop y x is) h
  where
    same_stop : (a b : Stop) → Some a ≡ Some b → a ≡ b
    same_stop a b e = cc

-- a word was read, up to a part of its drive behind which no read failed, by the reading of that part
pub reads_part : {E T : Type 0} {F : FileGhosts E} {word : ℕ} {files new : E} {failed : Type 0} (mid : E)
    (result : Result T Ended)
    → (((other : ℕ) → other ≢ word → F.rest mid other ≡ F.rest files other)
    × ((other : ℕ) → F.faults mid other ≡ F.faults files other)) → LeavesOthers F.rest word mid new
    → (¬ failed → (other : ℕ) → F.faults new other ≡ F.faults mid other)
    → (failed → Rose (F.faults mid word) (F.faults new word)) → (result ≡ Err ended.ReadFault → failed)
    → (failed → result ≡ Err ended.ReadFault) → (F.tells → OnOk result (F.rest new word ≡ []))
    → result ≢ Err ended.BoardFault → ReadsWord F word files new result
reads_part mid result so_far others counts rose read fails whole not_board = record {
  ended = whole;
  read_fault = λ e. rose_behind _ _ _ (so_far.1 _) (rose (read e));
  others = λ other differs. others other differs ∙ so_far.0 other differs;
  counts = λ good other. counts (λ f. good (fails f)) other ∙ so_far.1 other;
  not_board = not_board;
}
