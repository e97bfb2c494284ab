-- Commands that show a text: the whole of it, or a beginning.
use Rattle.std.proofs.{Common.{[], ℕ, ◌++◌, ◌∙◌, ◌≡◌, List, ap, inl, inr, refl, subst, sym}, lemmas.List.{append-nil}}
use Rattle.call_ends.specs.{Answer.{Answer, shows}, Common.{Begins, Ended}, Ending.{EndsByCourse}, Stream.{TakesBytes}}
use Rattle.call_ends.{specs.Call.{MayTake}, proofs.Streams.{not_bad}}
use Rattle.call_ends.specs.{Course.{Answered, Command, NoMemory, ReadFailed}, LastLine.{line_of, status_of}}
use Rattle.call_ends.specs.declared.ending.Ended.TheVariants as ended

module _ (c : Command) (contents left : ℕ → List ℕ) (image : List ℕ) (read_failed : ℕ → Type 0) (failed told : Type 0)
    (before now : List ℕ) where
  abbrev pub Here : Ended → Type 0
  Here end = EndsByCourse c contents left image read_failed failed (λ text. told → now ≡ before ++ text)
      (λ text. told → Begins before now text) end

  -- an answer of any status that has no last line
  module _ (status : ℕ) (text : List ℕ)
      (answer : c.answer contents image ≡ record { status = status; shown = text; line = [] })
      (may : MayTake c contents left image read_failed failed Answered) where
    pub course-whole : (end : Ended) → status_of end ≡ status → line_of end ≡ []
        → (told → now ≡ before ++ text) → Here end
    course-whole end status_is line_is printed = record {
      course = Answered;
      may = may;
      stands = inl (record {
        status_is = status_is ∙ sym (ap (λ (a : Answer). a.status) answer);
        line_is = line_is ∙ sym (ap (λ (a : Answer). a.line) answer);
        shown = λ tells. printed tells ∙ ap (λ (x : List ℕ). before ++ x) (sym (ap (λ (a : Answer). a.shown) answer));
      });
    }

    pub course-part : (told → Begins before now text) → failed → Here ended.BoardFault
    course-part begun cause = record {
      course = Answered;
      may = may;
      stands = inr (record {
        ended_is = refl;
        failed = cause;
        started = λ tells. subst (λ (x : List ℕ). Begins before now x)
            (sym (ap (λ (a : Answer). a.shown ++ a.line) answer ∙ append-nil text)) (begun tells);
      });
    }

module _ (c : Command) (contents left : ℕ → List ℕ) (image : List ℕ) (read_failed : ℕ → Type 0) (failed told : Type 0)
    (before now : List ℕ) where
  module _ (text : List ℕ) (answer : c.answer contents image ≡ shows text)
      (read : (word : ℕ) → c.reads word → left word ≡ []) where
    zero : (c.answer contents image).status ≡ 0
    zero = ap (λ (a : Answer). a.status) answer

    may : MayTake c contents left image read_failed failed Answered
    may = record {
      whole = λ is. read;
      bad = λ is. absurd (not_bad 0 c.drive (λ e. absurd cc) (λ e. absurd cc) (sym zero ∙ is));
    }

    pub course-shown : (told → now ≡ before ++ text)
        → Here c contents left image read_failed failed told before now ended.Done
    course-shown printed = course-whole c contents left image read_failed failed told before now 0 text answer may
        ended.Done refl refl printed

    pub course-begun : (told → Begins before now text) → failed
        → Here c contents left image read_failed failed told before now ended.BoardFault
    course-begun begun cause =
        course-part c contents left image read_failed failed told before now 0 text answer may begun cause

  -- a read failed, or memory ran out, before anything was shown
  module _ (untouched : TakesBytes c.drive contents left [])
      (still : now ≡ before) (quiet : c.shown contents image [] ≡ []) where
    nothing : (text : List ℕ) → text ≡ [] → now ≡ before ++ text
    nothing text e = still ∙ sym (ap (λ (x : List ℕ). before ++ x) e ∙ append-nil before)

    pub course-unread : (word : ℕ) → c.reads word → c.comes_to contents image word [] → read_failed word
        → Here c contents left image read_failed failed told before now ended.ReadFault
    course-unread word reads comes cause = record {
      course = ReadFailed word [];
      may = record { reads = reads; comes = comes; failed = cause; takes = untouched };
      stands = inl (record { status_is = refl; line_is = refl; shown = λ tells. nothing _ quiet });
    }

    pub course-lacking : c.may_lack contents image []
        → Here c contents left image read_failed failed told before now ended.NoMemory
    course-lacking lacks = record {
      course = NoMemory;
      may = record { taken = []; may = lacks; takes = untouched };
      stands = inl (record { status_is = refl; line_is = refl; shown = λ tells. nothing [] refl });
    }
