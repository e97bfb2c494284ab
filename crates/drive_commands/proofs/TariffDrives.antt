-- The drive under a tariff.
use Rattle.std.{specs.Prelude.{◌∷◌, ◌⊎◌, pos, suc, zero}, proofs.lemmas.List.{append-nil}}
use Rattle.std.proofs.Common.{[], ℕ, ◌++◌, ◌∙◌, ◌≡◌, Err, List, Ok, Result, ap, arith, inl, inr, refl, subst, sym}
use Rattle.interval_clock.specs.Offsets.{EachPlace, IsInRangeAt, IsOffsetList, RisesAt}
use Rattle.{drive_text.specs.Ending.{ShowsEnd, TellsEnd}, meter_run.specs.Drives.{RunsDrive, RunsTo}}
use Rattle.{meter_run.specs.Texts.{drive_shown}, call_ends.specs.Ending.{EndsByCourse}}
use Rattle.drive_commands.specs.Common.{Answer, Answered, BadAt, Begins, BoardFailed, Ended, Endless, IsSettingOf}
use Rattle.drive_commands.specs.Common.{ReadFailed, Refusal, RunFault, Seal, StreamEnd, TableParts, Tree, Whole}
use Rattle.drive_commands.specs.Common.{bad_tariff, drive_end, first_second, line_of, status_of, tariff_in}
use Rattle.drive_commands.specs.DriveEnds.{ended_by}
use Rattle.drive_commands.specs.Fare.{drive_answer, fare_answer, fare_command, setting_of, shown_under}
use Rattle.meter_run.specs.declared.fault.RunFault.TheVariants as faults
use Rattle.call_ends.specs.declared.ending.Ended.TheVariants as ended

-- local time that is UTC
pub is_utc : IsOffsetList ((first_second, pos 0) ∷ [])
is_utc = record { some = omega arith; few = omega arith; start = refl; in_range = in_range; rising = rising }
  where
    in_range : EachPlace ((first_second, pos 0) ∷ []) (IsInRangeAt ((first_second, pos 0) ∷ []))
    in_range zero below = ((omega arith, omega arith), (omega arith, omega arith))
    in_range (suc place) below = absurd (omega arith)

    rising : EachPlace ((first_second, pos 0) ∷ []) (RisesAt ((first_second, pos 0) ∷ []))
    rising zero below some = absurd (omega arith)
    rising (suc place) below some = absurd (omega arith)

-- without a byte nothing is shown
pub shows_nothing : (k : ℕ) (o : Result Tree Refusal) → shown_under k o [] ≡ []
shows_nothing k (Ok t) = refl
shows_nothing k (Err why) = refl

pub refused-fare : (k : ℕ) (o : Result Tree Refusal) (drive : List ℕ) (why : Refusal) → o ≡ Err why
    → fare_answer k o drive ≡ bad_tariff why
refused-fare k o drive why e = ap (λ (x : Result Tree Refusal). fare_answer k x drive) e

-- how a drive ends
pub end_of-status : (shown : List ℕ) (reached : StreamEnd) → (drive_answer shown reached).status ≡ 0 → reached ≡ Whole
end_of-status shown Whole is = refl
end_of-status shown (BadAt n) is = absurd cc
end_of-status shown Endless is = absurd cc

-- a drive that was told whole has nothing left
pub left-whole : (drive left : List ℕ) → TellsEnd drive left → drive_end drive ≡ Whole → left ≡ []
left-whole drive left t e = subst (λ (x : StreamEnd). ShowsEnd x t.taken left) e t.shows

pub one_of : (contents left : ℕ → List ℕ) (word : ℕ) → (word ≡ 1) ⊎ (word ≡ 2) → left 1 ≡ [] → left 2 ≡ []
    → left word ≡ []
one_of contents left word (inl e) one two = ap left e ∙ one
one_of contents left word (inr e) one two = ap left e ∙ two

module _ (k : ℕ) (contents left : ℕ → List ℕ) (image : List ℕ) (read_failed : ℕ → Type 0) (failed told : Type 0)
    (before now : List ℕ)
    (tables : TableParts) (seal : Seal) (t : Tree) (sound : tariff_in (contents 1) ≡ Ok t)
    (is : IsSettingOf (setting_of k t) tables seal) (read : left 1 ≡ []) where
  abbrev Here : Ended → Type 0
  Here end = EndsByCourse (fare_command k) contents left image read_failed failed (λ text. told → now ≡ before ++ text)
      (λ text. told → Begins before now text) end

  answer_is : fare_answer k (tariff_in (contents 1)) (contents 2)
      ≡ drive_answer (drive_shown (setting_of k t) (contents 2)) (drive_end (contents 2))
  answer_is = ap (λ (x : Result Tree Refusal). fare_answer k x (contents 2)) sound

  shown_is : (taken : List ℕ) → shown_under k (tariff_in (contents 1)) taken ≡ drive_shown (setting_of k t) taken
  shown_is taken = ap (λ (x : Result Tree Refusal). shown_under k x taken) sound

  -- the drive was carried out to its end
  to_end : (end : Ended) (reached : StreamEnd) → RunsTo told tables seal (contents 2) (left 2) before now reached
      → (drive_answer (drive_shown (setting_of k t) (contents 2)) reached).status ≡ status_of end
      → (drive_answer (drive_shown (setting_of k t) (contents 2)) reached).line ≡ line_of end
      → (drive_answer (drive_shown (setting_of k t) (contents 2)) reached).shown
      ≡ drive_shown (setting_of k t) (contents 2) → Here end
  to_end end reached h status line shown =
      let e = answer_is ∙ ap (drive_answer (drive_shown (setting_of k t) (contents 2))) h.end_is in
      let status_at : (fare_answer k (tariff_in (contents 1)) (contents 2)).status
      ≡ (drive_answer (drive_shown (setting_of k t) (contents 2)) reached).status = ap (λ (a : Answer). a.status) e in
      record {
        course = Answered;
        may = record {
          whole = λ zero word reads. one_of contents left word reads read
              (left-whole (contents 2) (left 2) h.tells (h.end_is ∙ end_of-status
              (drive_shown (setting_of k t) (contents 2)) reached (sym status_at ∙ zero)));
          bad = λ three. h.tells;
        };
        stands = inl (record {
          status_is = sym (status_at ∙ status);
          line_is = sym (ap (λ (a : Answer). a.line) e ∙ line);
          shown = λ tells. h.printed tells (setting_of k t) is
              ∙ ap (λ (x : List ℕ). before ++ x) (sym (ap (λ (a : Answer). a.shown) e ∙ shown));
        });
      }

  -- by how the run of the drive ended
  pub course-ran : (ran : Result (Unit {0}) RunFault) → RunsDrive told tables seal (contents 2) (left 2) before now ran
      → (ran ≡ Err faults.ReadFault → read_failed 2) → (ran ≡ Err faults.BoardFault → failed) → Here (ended_by ran)
  course-ran (Ok u) h read_cause board_cause = to_end ended.Done Whole h refl refl refl
  course-ran (Err (faults.BadDrive n)) h read_cause board_cause = to_end (ended.BadDrive n) (BadAt n) h refl refl refl
  course-ran (Err faults.TooLong) h read_cause board_cause = to_end ended.EndlessDrive Endless h refl refl refl
  course-ran (Err faults.ReadFault) h read_cause board_cause = record {
    course = ReadFailed 2 h.taken;
    may = record {
      reads = inr refl;
      comes = inr (refl, record { tree = t; sound = sound; going = h.stands });
      failed = read_cause refl;
      takes = h.split;
    };
    stands = inl (record {
      status_is = refl;
      line_is = refl;
      shown = λ tells. h.printed tells (setting_of k t) is ∙ ap (λ (x : List ℕ). before ++ x) (sym (shown_is h.taken));
    });
  }
  course-ran (Err faults.BoardFault) h read_cause board_cause = record {
    course = BoardFailed h.taken;
    may = record { failed = board_cause refl; takes = h.split };
    stands = inr (record {
      ended_is = refl;
      failed = board_cause refl;
      started = λ tells. subst (λ (x : List ℕ). Begins before now x)
          (sym (ap (λ (x : List ℕ). x ++ []) (shown_is h.taken) ∙ append-nil (drive_shown (setting_of k t) h.taken)))
          (h.printed tells (setting_of k t) is);
    });
  }

-- a run that ended so
pub read_fault-ran : (ran : Result (Unit {0}) RunFault) → ended_by ran ≡ ended.ReadFault → ran ≡ Err faults.ReadFault
read_fault-ran (Ok u) e = absurd cc
read_fault-ran (Err faults.ReadFault) e = refl
read_fault-ran (Err faults.BoardFault) e = absurd cc
read_fault-ran (Err (faults.BadDrive n)) e = absurd cc
read_fault-ran (Err faults.TooLong) e = absurd cc

pub board_fault-ran : (ran : Result (Unit {0}) RunFault) → ended_by ran ≡ ended.BoardFault → ran ≡ Err faults.BoardFault
board_fault-ran (Ok u) e = absurd cc
board_fault-ran (Err faults.ReadFault) e = absurd cc
board_fault-ran (Err faults.BoardFault) e = refl
board_fault-ran (Err (faults.BadDrive n)) e = absurd cc
board_fault-ran (Err faults.TooLong) e = absurd cc
