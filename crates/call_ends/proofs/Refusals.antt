-- A command that gives nothing: memory ran out, a read failed, or it refuses.
use Rattle.std.proofs.Common.{[], ℕ, ◌∙◌, ◌≡◌, List, ap, inl, refl, subst, sym, ⊎_elim}
use Rattle.call_ends.{specs.{Answer.{Answer}, Reads.{FailsOr}, Tariffs.{bad_tariff}}, proofs.Following.{fails-text}}
use Rattle.call_ends.specs.{Common.{Ended, Refusal, TextFault}, Course.{Answered, Command, NoMemory, ReadFailed}}
use Rattle.call_ends.specs.{Ending.{EndsUnprinted, ended_for}, Stream.{TakesBytes, TellsItsEnd, bad_status}}
use Rattle.call_ends.{specs.LastLine.{refused_as, status_of}, proofs.{FaultCounts.{read_fault-text}, Streams.{not_bad}}}
use Rattle.call_ends.specs.declared.ending.Ended.TheVariants as ended
use Rattle.call_ends.specs.declared.tariff.TextFault.TheVariants as texts

module _ (c : Command) (contents left : ℕ → List ℕ) (image : List ℕ) (read_failed : ℕ → Type 0) where
  -- it refuses
  pub ends-refused : (why : Ended) → c.answer contents image ≡ refused_as why → ¬ c.reads_all (status_of why)
      → (status_of why ≡ bad_status c.drive → TellsItsEnd c.drive contents left)
      → EndsUnprinted c contents left image read_failed why
  ends-refused why e not_all bad =
      let is : (c.answer contents image).status ≡ status_of why = ap (λ (a : Answer). a.status) e in
      record {
        course = Answered;
        may = record {
          whole = λ all. absurd (not_all (subst c.reads_all is all));
          bad = λ at. bad (sym is ∙ at);
        };
        stands = inl (record {
          status_is = sym is;
          line_is = sym (ap (λ (a : Answer). a.line) e);
          shown = ap (λ (a : Answer). a.shown) e;
        });
      }

  module _ (taken : List ℕ) (takes : TakesBytes c.drive contents left taken) where
    -- a read failed
    pub ends-unread : (word : ℕ) → c.shown contents image taken ≡ [] → c.reads word
        → c.comes_to contents image word taken → read_failed word
        → EndsUnprinted c contents left image read_failed ended.ReadFault
    ends-unread word quiet reads comes failed = record {
      course = ReadFailed word taken;
      may = record { reads = reads; comes = comes; failed = failed; takes = takes };
      stands = inl (record { status_is = refl; line_is = refl; shown = quiet });
    }

    module _ (may : c.may_lack contents image taken) where
      -- memory ran out
      pub ends-lacking : EndsUnprinted c contents left image read_failed ended.NoMemory
      ends-lacking = record {
        course = NoMemory;
        may = record { taken = taken; may = may; takes = takes };
        stands = inl (record { status_is = refl; line_is = refl; shown = refl });
      }

      -- a word gives nothing
      pub ends-failing : (word : ℕ) (why : Ended) → c.shown contents image taken ≡ [] → c.reads word
          → c.comes_to contents image word taken → (why ≡ ended.ReadFault → read_failed word)
          → FailsOr (EndsUnprinted c contents left image read_failed) why
          → EndsUnprinted c contents left image read_failed why
      ends-failing word why quiet reads comes failed h = ⊎_elim
          (λ (e : why ≡ ended.ReadFault). subst (EndsUnprinted c contents left image read_failed) (sym e)
          (ends-unread word quiet reads comes (failed e)))
          (⊎_elim (λ (e : why ≡ ended.NoMemory). subst (EndsUnprinted c contents left image read_failed) (sym e)
          ends-lacking)
          (λ (refused : EndsUnprinted c contents left image read_failed why). refused))
          h.how

module _ (c : Command) (contents left : ℕ → List ℕ) (image : List ℕ) (read_failed : ℕ → Type 0)
    (untouched : TakesBytes c.drive contents left []) (may : c.may_lack contents image []) where
  -- memory ran out before the drive
  pub course-no_memory : EndsUnprinted c contents left image read_failed ended.NoMemory
  course-no_memory = ends-lacking c contents left image read_failed [] untouched may

  -- a tariff was refused
  pub course-bad_tariff : ¬ c.reads_all 2 → (why : Refusal) → c.answer contents image ≡ bad_tariff why
      → EndsUnprinted c contents left image read_failed (ended.BadTariff why)
  course-bad_tariff not_2 why e = ends-refused c contents left image read_failed (ended.BadTariff why) e not_2
      (λ is. absurd (not_bad 2 c.drive (λ e. absurd cc) (λ e. absurd cc) is))

  -- the tariff of word 1 wasn't read
  pub course-refused : ¬ c.reads_all 2 → (fault : TextFault) → c.reads 1 → c.comes_to contents image 1 []
      → c.shown contents image [] ≡ []
      → (fault ≡ texts.ReadFault → read_failed 1)
      → ((why : Refusal) → fault ≡ texts.Refused why → c.answer contents image ≡ bad_tariff why)
      → EndsUnprinted c contents left image read_failed (ended_for fault)
  course-refused not_2 fault reads comes nothing failed refused =
      ends-failing c contents left image read_failed [] untouched may 1 (ended_for fault) nothing reads comes
      (λ e. failed (read_fault-text fault e))
      (fails-text fault (λ why e. course-bad_tariff not_2 why (refused why e)))
