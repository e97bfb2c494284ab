-- How the parts of a call end together.
use Rattle.std.{specs.Prelude.{◌⊎◌}, proofs.{Common.{zero, ⊎_elim}, lemmas.List.{append-nil}}}
use Rattle.std.proofs.Common.{[], ℕ, ◌++◌, ◌∙◌, ◌≡◌, List, ap, append_assoc, inl, inr, refl, subst, suc, sym, take}
use Rattle.{outside.proofs.Laws.{begins_after}, call_ends.specs.Course.{shown_in, status_in}}
use Rattle.call_ends.specs.{Call.{IsCutShort, IsWhole, MayTake}, Common.{Begins, BoardFault, Ended}}
use Rattle.call_ends.specs.Course.{Answered, BoardFailed, Command, Course, NoMemory, ReadFailed, call_text, line_in}
use Rattle.call_ends.specs.{Ending.{EndsByCourse, EndsUnprinted, IsBrokenOff, IsDue}, LastLine.{line_of, status_of}}

-- a course stays one if more is known of the faults
pub may-then : (c : Command) (contents left : ℕ → List ℕ) (image : List ℕ) (read_failed : ℕ → Type 0)
    (failed failed' : Type 0) → (failed → failed') → (course : Course)
    → MayTake c contents left image read_failed failed course → MayTake c contents left image read_failed failed' course
may-then c contents left image read_failed failed failed' more Answered h = record { whole = h.whole; bad = h.bad }
may-then c contents left image read_failed failed failed' more (ReadFailed word taken) h =
    record { reads = h.reads; comes = h.comes; failed = h.failed; takes = h.takes }
may-then c contents left image read_failed failed failed' more NoMemory h =
    record { taken = h.taken; may = h.may; takes = h.takes }
may-then c contents left image read_failed failed failed' more (BoardFailed taken) h =
    record { failed = more h.failed; takes = h.takes }

-- a call that has printed nothing, as one that prints
pub course-unprinted : (c : Command) (contents left : ℕ → List ℕ) (image : List ℕ) (read_failed : ℕ → Type 0)
    (failed told : Type 0) (printed : List ℕ) (ended : Ended)
    → EndsUnprinted c contents left image read_failed ended
    → EndsByCourse c contents left image read_failed failed (λ text. told → printed ≡ printed ++ text)
    (λ text. told → Begins printed printed text) ended
course-unprinted c contents left image read_failed failed told printed ended h =
    record {
      course = h.course;
      may = may-then c contents left image read_failed ⊥ failed (λ none. absurd none) h.course h.may;
      stands = ⊎_elim
          (λ (d : IsDue c contents left image read_failed ⊥ (λ text. text ≡ []) (λ text. ⊥) h.course ended).
          inl (record {
            status_is = d.status_is;
            line_is = d.line_is;
            shown = λ t. sym (ap (λ (x : List ℕ). printed ++ x) d.shown ∙ append-nil printed);
          }))
          (λ (b : IsBrokenOff c contents left image read_failed ⊥ (λ text. text ≡ []) (λ text. ⊥) h.course ended).
          absurd b.failed)
          h.stands;
    }

-- two texts, one after the other
then_text : (before mid now x y : List ℕ) → mid ≡ before ++ x → now ≡ mid ++ y → now ≡ before ++ (x ++ y)
then_text before mid now x y e f = f ∙ ap (λ (t : List ℕ). t ++ y) e ∙ append_assoc before x y

-- a beginning of nothing is nothing
begins-none : (a b : List ℕ) → Begins a b [] → b ≡ a
begins-none a b h = h.printed ∙ ap (λ (t : List ℕ). a ++ t) (take-none h.count) ∙ append-nil a
  where
    take-none : (n : ℕ) → take {A = ℕ} n [] ≡ []
    take-none zero = refl
    take-none (suc n) = refl

kept_begun : (before mid now x : List ℕ) → Begins before mid x → now ≡ mid → Begins before now x
kept_begun before mid now x h e = subst (λ (t : List ℕ). Begins before t x) (sym e) h

-- what the last line and the status are
abbrev pub Finishes : Type 0 → Type 0 → Ended → ℕ → List ℕ → List ℕ → Type 0
Finishes told failed ended status mid now =
    IsWhole told (status_of ended) (line_of ended) status mid now
    ⊎ IsCutShort told failed (line_of ended) status mid now

-- how the course ends
abbrev Ends : Command → (contents : ℕ → List ℕ) → List ℕ → Type 0 → Type 0 → Course → ℕ → List ℕ → List ℕ → Type 0
Ends c contents image told failed course status before now =
    IsWhole told (status_in c contents image course) (call_text c contents image course) status before now
    ⊎ IsCutShort told failed (call_text c contents image course) status before now

module _ (c : Command) (contents left : ℕ → List ℕ) (image : List ℕ) (read_failed : ℕ → Type 0)
    (failed failed' told : Type 0) (before mid now : List ℕ) where
  abbrev whole : List ℕ → Type 0
  whole text = told → mid ≡ before ++ text

  abbrev begun : List ℕ → Type 0
  begun text = told → Begins before mid text

  ends-due : (course : Course) (ended : Ended) (status : ℕ)
      → IsDue c contents left image read_failed failed whole begun course ended
      → Finishes told failed' ended status mid now → Ends c contents image told failed' course status before now
  ends-due course ended status d (inl f) = inl (record {
    status_is = f.status_is ∙ d.status_is;
    printed =
        λ t. then_text before mid now (shown_in c contents image course) (line_in c contents image course) (d.shown t)
        (f.printed t ∙ ap (λ (x : List ℕ). mid ++ x) d.line_is);
  })
  ends-due course ended status d (inr f) = inr (record {
    status_is = f.status_is;
    failed = f.failed;
    begun = λ t. begins_after before mid now (shown_in c contents image course)
        (line_in c contents image course) (d.shown t)
        (subst (λ (x : List ℕ). Begins mid now x) d.line_is (f.begun t));
  })

  -- after a fault of the board nothing more is printed
  still : (ended : Ended) (status : ℕ) → ended ≡ BoardFault → Finishes told failed' ended status mid now
      → (status ≡ 8) × (told → now ≡ mid)
  still ended status e (inl f) =
      (f.status_is ∙ ap status_of e, λ t. f.printed t ∙ ap (λ (x : Ended). mid ++ line_of x) e ∙ append-nil mid)
  still ended status e (inr f) =
      (f.status_is, λ t. begins-none mid now (subst (λ (x : Ended). Begins mid now (line_of x)) e (f.begun t)))

  ends-broken : (course : Course) (ended : Ended) (status : ℕ)
      → IsBrokenOff c contents left image read_failed failed whole begun course ended → (failed → failed')
      → Finishes told failed' ended status mid now → Ends c contents image told failed' course status before now
  ends-broken course ended status b more f =
      let same = still ended status b.ended_is f in
      inr (record {
        status_is = same.0;
        failed = more b.failed;
        begun = λ t. kept_begun before mid now (call_text c contents image course) (b.started t) (same.1 t);
      })

  -- a command that came to its end, and its last line
  pub ends-with : (ended : Ended) (status : ℕ)
      → (h : EndsByCourse c contents left image read_failed failed whole begun ended) → (failed → failed')
      → Finishes told failed' ended status mid now → Ends c contents image told failed' h.course status before now
  ends-with ended status h more f = ⊎_elim
      (λ (d : IsDue c contents left image read_failed failed whole begun h.course ended).
      ends-due h.course ended status d f)
      (λ (b : IsBrokenOff c contents left image read_failed failed whole begun h.course ended).
      ends-broken h.course ended status b more f)
      h.stands

-- the last line of a call whose board failed earlier or later
pub finishes-later : (told failed failed' : Type 0) (ended : Ended) (status : ℕ) (mid now : List ℕ) → (failed → failed')
    → Finishes told failed ended status mid now → Finishes told failed' ended status mid now
finishes-later told failed failed' ended status mid now more (inl f) = inl f
finishes-later told failed failed' ended status mid now more (inr f) =
    inr (record { status_is = f.status_is; failed = more f.failed; begun = f.begun })
