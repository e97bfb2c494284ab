-- Commands that end by the store: with a refusal, or with a fault of the board before their answer.
use Rattle.std.proofs.Common.{[], ℕ, ◌++◌, ◌∙◌, ◌≡◌, ◌≢◌, List, ap, inl, inr, refl, subst, sym}
use Rattle.{std.proofs.lemmas.List.{append-nil}, outside.proofs.Laws.{begins_not}, call_ends.specs.Course.{BoardFailed}}
use Rattle.{call_ends.specs.Stream.{TakesBytes, bad_status}, store_commands.proofs.BarredEnds.{owed-barred}}
use Rattle.store_commands.specs.Common.{Answer, Answered, Begins, Command, Ended, EndsByCourse, refused_as, status_of}
use Rattle.store_commands.specs.Opened.{IsBarred}
use Rattle.call_ends.specs.declared.ending.Ended.TheVariants as ended
use Rattle.call_ends.proofs.Laws as streams

module _ (c : Command) (contents left : ℕ → List ℕ) (image : List ℕ) (read_failed : ℕ → Type 0) (failed told : Type 0)
    (before now : List ℕ)
    (untouched : TakesBytes c.drive contents left []) (still : now ≡ before) where
  abbrev pub Stopped : Ended → Type 0
  Stopped end = EndsByCourse c contents left image read_failed failed (λ text. told → now ≡ before ++ text)
      (λ text. told → Begins before now text) end

  -- nothing was printed
  pub none : (text : List ℕ) → text ≡ [] → now ≡ before ++ text
  none text e = still ∙ sym (ap (λ (x : List ℕ). before ++ x) e ∙ append-nil before)

  pub course-refusal : (end : Ended) → c.answer contents image ≡ refused_as end → ¬ c.reads_all (status_of end)
      → status_of end ≢ bad_status c.drive → Stopped end
  course-refusal end e not_all not_bad =
      let status : (c.answer contents image).status ≡ status_of end = ap (λ (a : Answer). a.status) e in
      record {
        course = Answered;
        may = record {
          whole = λ all. absurd (not_all (subst (λ (n : ℕ). c.reads_all n) status all));
          bad = λ is. absurd (not_bad (sym status ∙ is));
        };
        stands = inl (record {
          status_is = sym status;
          line_is = sym (ap (λ (a : Answer). a.line) e);
          shown = λ t. none _ (ap (λ (a : Answer). a.shown) e);
        });
      }

  pub course-board : failed → Stopped ended.BoardFault
  course-board cause = record {
    course = BoardFailed [];
    may = record { failed = cause; takes = untouched };
    stands = inr (record { ended_is = refl; failed = cause; started = λ t. begins_not before now _ still });
  }

  -- the store bars the command, by its answer or by a fault of the board
  pub course-barred : ¬ c.reads_all 4 → ¬ c.reads_all 5 → (end : Ended) → IsBarred end
      → (end ≢ ended.BoardFault → c.answer contents image ≡ refused_as end)
      → (end ≡ ended.BoardFault → failed) → Stopped end
  course-barred not_4 not_5 =
      owed-barred (λ (end : Ended). c.answer contents image ≡ refused_as end) (λ (end : Ended). Stopped end) failed
      (λ e. course-refusal ended.NotSealed e not_4 (streams.not_bad 4 c.drive (λ z. absurd cc) (λ z. absurd cc)))
      (λ slot e. course-refusal (ended.BadSlot slot) e not_5
      (streams.not_bad 5 c.drive (λ z. absurd cc) (λ z. absurd cc)))
      (λ first second e. course-refusal (ended.SameNumber first second) e not_5
      (streams.not_bad 5 c.drive (λ z. absurd cc) (λ z. absurd cc)))
      course-board
