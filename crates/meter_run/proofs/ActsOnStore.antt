-- Acts on a store, one after the other.
use Rattle.std.proofs.Common.{[], ℕ, ◌*◌, ◌++◌, ◌+◌, ◌<◌, ◌∙◌, ◌∷◌, ◌≡◌, ◌≤◌, All, List, OnOk, Result, ap, arith, drop}
use Rattle.{std.proofs.Common.{get_or, length, subst, suc, sym, take, zero}, meter_run.specs.RunLaws.{after_deeds_of}}
use Rattle.{std.proofs.lemmas.List.{append-nil, take-append-drop, take_more}, outside.proofs.Laws.{keeps_none}}
use Rattle.std.proofs.lemmas.{List.Elements.{All-cons, All-head, All-nil, All-tail}, Result.{on_ok_weaker}}
use Rattle.meter_run.{specs.Commits.{after_act, after_acts, commits_in}, proofs.CommittedStates.{commits_append}}
use Rattle.meter_run.specs.Common.{Act, Change, Durable, Ghosts, IsLawfulAct, KeepsStore, Known, Seal, TableParts}
use Rattle.meter_run.specs.{Deeds.{Deed, Does, act_text, changes_of, deeds_of, texts}, InTurn.{Commits, CommitsInTurn}}
use Rattle.meter_run.{specs.OnStore.{Agrees, MayDo}, proofs.EventLists.{on_ok}}
use Rattle.meter_run.specs.{PointLaws.{deeds_joined, keeps_longer, keeps_next, text_next, turn_next}, Points.{GoesBy}}

deeds_more : (acts : List Act) (n : ℕ) (x : Act) → n < length acts
    → deeds_of (take (n + 1) acts) ≡ deeds_of (take n acts) ++ Does (get_or acts n x) ∷ []
deeds_more acts n x lt = ap deeds_of (take_more acts n x lt) ∙ deeds_joined (take n acts) (get_or acts n x ∷ [])

deeds_whole : (acts : List Act) (n : ℕ) → deeds_of (take n acts) ++ deeds_of (drop n acts) ≡ deeds_of acts
deeds_whole acts n = sym (deeds_joined (take n acts) (drop n acts)) ∙ ap deeds_of (take-append-drop n acts)

commits_more : (acts : List Act) (n : ℕ) (x : Act) → n < length acts
    → commits_in (take (n + 1) acts) ≡ commits_in (take n acts) + commits_in (get_or acts n x ∷ [])
commits_more acts n x lt = ap commits_in (take_more acts n x lt) ∙ commits_append (take n acts) (get_or acts n x ∷ [])

commits_part : (acts : List Act) (n : ℕ) → commits_in (take n acts) ≤ commits_in acts
commits_part acts n = omega (arith, commits_append (take n acts) (drop n acts), ap commits_in (take-append-drop n acts))

-- the steps of an act more, and of all acts if it's one of them
pub steps_more : (acts : List Act) (n : ℕ) (x : Act) (a b c : ℕ) → n < length acts
    → b ≤ a + n + 5 * commits_in (take n acts) → c ≤ b + 1 + 5 * commits_in (get_or acts n x ∷ [])
    → c ≤ a + (n + 1) + 5 * commits_in (take (n + 1) acts)
steps_more acts n x a b c lt so_far next = omega (arith, so_far, next, commits_more acts n x lt)

pub steps_whole : (acts : List Act) (n : ℕ) (x : Act) (a b c : ℕ) → n < length acts
    → b ≤ a + n + 5 * commits_in (take n acts) → c ≤ b + 1 + 5 * commits_in (get_or acts n x ∷ [])
    → c ≤ a + length acts + 5 * commits_in acts
steps_whole acts n x a b c lt so_far next =
    omega (arith, lt, steps_more acts n x a b c lt so_far next, commits_part acts (n + 1))

-- what an act leaves, prints and takes, if it's known which act it is
pub leaves_as : {A E : Type 0} (r : Result A E) (d e : Durable) (act is : Act) → act ≡ is → OnOk r (e ≡ after_act d is)
    → OnOk r (e ≡ after_act d act)
leaves_as r d e act is same h = subst (λ (x : Act). OnOk r (e ≡ after_act d x)) (sym same) h

pub prints_as : {A E : Type 0} (seal : Seal) (r : Result A E) (p q : List ℕ) (act is : Act) → act ≡ is
    → OnOk r (q ≡ p ++ act_text seal is) → OnOk r (q ≡ p ++ act_text seal act)
prints_as seal r p q act is same h = subst (λ (x : Act). OnOk r (q ≡ p ++ act_text seal x)) (sym same) h

pub prints_none : (p q text : List ℕ) → text ≡ [] → q ≡ p → q ≡ p ++ text
prints_none p q text none same = same ∙ sym (append-nil p) ∙ ap (λ (t : List ℕ). p ++ t) (sym none)

pub print_steps : (act : Act) (a b : ℕ) → b ≤ a + 1 → b ≤ a + 1 + 5 * commits_in (act ∷ [])
print_steps act a b h = omega (arith, h)

pub commit_steps : (act is : Act) (a b : ℕ) → act ≡ is → commits_in (is ∷ []) ≡ 1 → b ≤ a + 6
    → b ≤ a + 1 + 5 * commits_in (act ∷ [])
commit_steps act is a b same one h =
    let commits : commits_in (act ∷ []) ≡ 1 = ap (λ (x : Act). commits_in (x ∷ [])) same ∙ one in
    omega (arith, h, commits)

-- what an act commits, if it's known which act it is
module _ {D L : Type 0} {N : ℕ} (B : Ghosts D N L) {T E : Type 0} (r : Result T E) (d : Durable) (act is : Act)
    (same : act ≡ is) (a b : D) where
  pub turn_none : changes_of (Does is ∷ []) ≡ [] → KeepsStore B a b
      → OnOk r (CommitsInTurn B d (changes_of (Does act ∷ [])) a b)
  turn_none none kept = on_ok r _ (subst (λ (l : List Change). CommitsInTurn B d l a b)
      (sym (ap (λ (x : Act). changes_of (Does x ∷ [])) same ∙ none)) kept)

  pub turn_one : (change : Change) → changes_of (Does is ∷ []) ≡ change ∷ [] → OnOk r (Commits B d change a b)
      → OnOk r (CommitsInTurn B d (changes_of (Does act ∷ [])) a b)
  turn_one change one = on_ok_weaker r (λ commits. subst (λ (l : List Change). CommitsInTurn B d l a b)
      (sym (ap (λ (x : Act). changes_of (Does x ∷ [])) same ∙ one)) (record {
        begun = a;
        kept = keeps_none B a;
        done = b;
        commits = commits;
        rest = keeps_none B b;
      }))

-- what holds of each act holds of the one at a place
pub all_at : (P : Act → Type 0) (acts : List Act) (n : ℕ) (x : Act) → n < length acts → All P acts → P (get_or acts n x)
all_at P [] n x lt all = absurd (omega arith)
all_at P (act ∷ acts) zero x lt all = All-head P act acts all
all_at P (act ∷ acts) (suc n) x lt all = all_at P acts n x (omega arith) (All-tail P act acts all)

module _ {D L : Type 0} {N : ℕ} (B : Ghosts D N L) (tables : TableParts) where
  -- the act at a place may be done if all may be done from the start, and the board agrees now
  pub may_at : (k l : Known) (a b : D) (acts : List Act) (n : ℕ) (x : Act) → n < length acts → MayDo B tables k a acts
      → Agrees B tables l b
      → MayDo B tables l b (get_or acts n x ∷ [])
  may_at k l a b acts n x lt may agrees = record {
    agrees = agrees;
    number = may.number;
    lawful = All-cons (IsLawfulAct tables may.number) (get_or acts n x) []
        (all_at (IsLawfulAct tables may.number) acts n x lt may.lawful) (All-nil (IsLawfulAct tables may.number));
  }

module _ {D L : Type 0} {N : ℕ} (B : Ghosts D N L) (tables : TableParts) (seal : Seal) where
  module _ (a b c : D) (acts : List Act) (n : ℕ) (x : Act) (lt : n < length acts)
      (text : B.tells_text → B.printed b ≡ B.printed a ++ texts seal (deeds_of (take n acts))) where
    -- an act more
    pub points_more : (d e : Durable) → e ≡ after_acts d (take n acts) → GoesBy B tables seal a b d
        (deeds_of (take n acts)) → GoesBy B tables seal b c e (Does (get_or acts n x) ∷ [])
        → GoesBy B tables seal a c d (deeds_of (take (n + 1) acts))
    points_more d e is h k =
        subst (λ (deeds : List Deed). GoesBy B tables seal a c d deeds) (sym (deeds_more acts n x lt))
        (keeps_next B tables seal a b c d (deeds_of (take n acts)) (Does (get_or acts n x) ∷ []) text h
        (subst (λ (y : Durable). GoesBy B tables seal b c y (Does (get_or acts n x) ∷ []))
        (is ∙ sym (after_deeds_of d (take n acts))) k))

    pub turn_more : (d e : Durable) → e ≡ after_acts d (take n acts)
        → CommitsInTurn B d (changes_of (deeds_of (take n acts))) a b
        → CommitsInTurn B e (changes_of (Does (get_or acts n x) ∷ [])) b c
        → CommitsInTurn B d (changes_of (deeds_of (take (n + 1) acts))) a c
    turn_more d e is h k =
        subst (λ (deeds : List Deed). CommitsInTurn B d (changes_of deeds) a c) (sym (deeds_more acts n x lt))
        (turn_next B a b c d (deeds_of (take n acts)) (Does (get_or acts n x) ∷ []) h
        (subst (λ (y : Durable). CommitsInTurn B y (changes_of (Does (get_or acts n x) ∷ [])) b c)
        (is ∙ sym (after_deeds_of d (take n acts))) k))

    pub text_more : (B.tells_text → B.printed c ≡ B.printed b ++ act_text seal (get_or acts n x)) → B.tells_text
        → B.printed c ≡ B.printed a ++ texts seal (deeds_of (take (n + 1) acts))
    text_more next = subst (λ (deeds : List Deed). B.tells_text → B.printed c ≡ B.printed a ++ texts seal deeds)
        (sym (deeds_more acts n x lt))
        (text_next B tables seal a b c (deeds_of (take n acts)) (Does (get_or acts n x) ∷ []) text
        (λ t. next t ∙ ap (λ (p : List ℕ). B.printed b ++ p) (sym (append-nil (act_text seal (get_or acts n x))))))

  pub points_whole : (a b : D) (d : Durable) (acts : List Act) (n : ℕ)
      → GoesBy B tables seal a b d (deeds_of (take n acts)) → GoesBy B tables seal a b d (deeds_of acts)
  points_whole a b d acts n h = subst (λ (deeds : List Deed). GoesBy B tables seal a b d deeds) (deeds_whole acts n)
      (keeps_longer B tables seal a b d (deeds_of (take n acts)) (deeds_of (drop n acts)) h)
