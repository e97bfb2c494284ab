-- For proofs: points of lists of deeds that are joined, and calls that carry deeds out, one behind the other.
use Rattle.{std.{specs.Option.{ForSome}, proofs.lemmas.List.{append-nil}}, slot_store.proofs.Laws.{ready_left}}
use Rattle.std.proofs.Common.{[], ℕ, ◌++◌, ◌∙◌, ◌∷◌, ◌≡◌, List, Some, ap, append_assoc, inl, inr, refl, subst, sym}
use Rattle.outside.proofs.Laws.{begins_not, keeps_then, leaves_none, leaves_then, leaves_wider}
use Rattle.{slot_store.specs.Slots.{IsSettled}, totals_record.specs.{Reading.{reads}, States.{after_all}}}
use Rattle.meter_run.specs.Common.{Act, Begins, Change, Durable, Enter, Fits, Ghosts, HasState, Hold, HoldsState}
use Rattle.meter_run.specs.Common.{KeepsStore, LeavesNow, Place, Receipt, Refuse, SameBut, Seal, Show, TableParts}
use Rattle.meter_run.specs.{Common.{after, state_number_of}, Deeds.{deeds_of, texts}, Points.{GoesBy, IsPointOfDeeds}}
use Rattle.meter_run.specs.Deeds.{Deed, Does, Prints, after_deed, after_deeds, changes_in, changes_of, deed_text}
use Rattle.meter_run.specs.InTurn.{CommitsInTurn}
use Rattle.totals_record.specs.declared.change.Change.TheVariants as changes

-- ---- lists of deeds

-- the texts of two lists of deeds that are joined are those of the first, and then those of the second
pub texts_joined : (seal : Seal) (xs ys : List Deed) → texts seal (xs ++ ys) ≡ texts seal xs ++ texts seal ys
texts_joined seal [] ys = refl
texts_joined seal (x ∷ xs) ys =
    ap (λ (t : List ℕ). deed_text seal x ++ t) (texts_joined seal xs ys)
    ∙ sym (append_assoc (deed_text seal x) (texts seal xs) (texts seal ys))

-- the state after two lists of deeds that are joined is the one after the second, from the state after the first
pub after_joined : (d : Durable) (xs ys : List Deed) → after_deeds d (xs ++ ys) ≡ after_deeds (after_deeds d xs) ys
after_joined d [] ys = refl
after_joined d (x ∷ xs) ys = after_joined (after_deed d x) xs ys

-- the deeds of two lists of acts that are joined are those of the first, and then those of the second
pub deeds_joined : (xs ys : List Act) → deeds_of (xs ++ ys) ≡ deeds_of xs ++ deeds_of ys
deeds_joined [] ys = refl
deeds_joined (x ∷ xs) ys = ap (λ (deeds : List Deed). Does x ∷ deeds) (deeds_joined xs ys)

-- the state after deeds is that after what they commit
pub after_changes : (d : Durable) (deeds : List Deed) → after_deeds d deeds ≡ after_all d (changes_of deeds)
after_changes d [] = refl
after_changes d (Prints line ∷ deeds) = after_changes d deeds
after_changes d (Does (Show display) ∷ deeds) = after_changes d deeds
after_changes d (Does (Refuse why) ∷ deeds) = after_changes d deeds
after_changes d (Does (Enter entry) ∷ deeds) = after_changes (after d (changes.Enter entry)) deeds
after_changes d (Does (Hold trip) ∷ deeds) = after_changes (after d (changes.Hold trip)) deeds
after_changes d (Does (Receipt receipt) ∷ deeds) = after_changes d deeds

-- two lists of deeds that are joined commit what the first does, and then what the second does
pub changes_joined : (xs ys : List Deed) → changes_of (xs ++ ys) ≡ changes_of xs ++ changes_of ys
changes_joined [] ys = refl
changes_joined (x ∷ xs) ys = ap (λ (l : List Change). changes_in x ++ l) (changes_joined xs ys)
    ∙ sym (append_assoc (changes_in x) (changes_of xs) (changes_of ys))

-- ---- points

module _ (tables : TableParts) (seal : Seal) (told : Type 0) where
  -- an image and a text are at a point of a list of deeds, by the tables and the seal at hand
  abbrev At : Durable → List ℕ → List Deed → List ℕ → List ℕ → Type 0
  At d p deeds i x = IsPointOfDeeds tables seal told d p deeds i x

  -- what was printed before is asked of a told text alone
  pub at_same : (d : Durable) (p q : List ℕ) (deeds : List Deed) (i x : List ℕ) → (told → p ≡ q) → At d p deeds i x
      → At d q deeds i x
  at_same d p q [] i x is h = (h.0, λ t. h.1 t ∙ is t)
  at_same d p q (deed ∷ deeds) i x is (inl amid) = inl (record {
    holds = amid.holds;
    begun = λ t. subst (λ (before : List ℕ). Begins before x (deed_text seal deed)) (is t) (amid.begun t);
  })
  at_same d p q (deed ∷ deeds) i x is (inr later) = inr (at_same (after_deed d deed) (p ++ deed_text seal deed)
      (q ++ deed_text seal deed) deeds i x (λ t. ap (λ (before : List ℕ). before ++ deed_text seal deed) (is t)) later)

  -- a point of a list is one of that list with more behind it
  pub at_longer : (d : Durable) (p : List ℕ) (xs ys : List Deed) (i x : List ℕ) → At d p xs i x → At d p (xs ++ ys) i x
  at_longer d p [] [] i x h = h
  at_longer d p [] (y ∷ ys) i x h =
      inl (record { holds = inl h.0; begun = λ t. begins_not p x (deed_text seal y) (h.1 t) })
  at_longer d p (deed ∷ xs) ys i x (inl amid) = inl amid
  at_longer d p (deed ∷ xs) ys i x (inr later) =
      inr (at_longer (after_deed d deed) (p ++ deed_text seal deed) xs ys i x later)

  -- a point of the second of two lists is one of both, joined
  pub at_later : (d : Durable) (p : List ℕ) (xs ys : List Deed) (i x : List ℕ)
      → At (after_deeds d xs) (p ++ texts seal xs) ys i x → At d p (xs ++ ys) i x
  at_later d p [] ys i x h = at_same d (p ++ []) p ys i x (λ t. append-nil p) h
  at_later d p (deed ∷ xs) ys i x h = inr (at_later (after_deed d deed) (p ++ deed_text seal deed) xs ys i x
      (at_same (after_deeds (after_deed d deed) xs) (p ++ (deed_text seal deed ++ texts seal xs))
      ((p ++ deed_text seal deed) ++ texts seal xs) ys i x
      (λ t. sym (append_assoc p (deed_text seal deed) (texts seal xs))) h))

-- ---- what a settled board has

-- a cut leaves the state of a settled pair
pub left_has : (place : Place) (d : Durable) (image : List ℕ) (flying : ℕ → Type 0) (left : List ℕ)
    → IsSettled reads state_number_of 0 place image flying d → SameBut flying image left → HasState left d
left_has place d image flying left settled same =
    ready_left reads state_number_of (record { at = 0; latest = Some place }) (Some d) image flying left settled same

-- a settled pair stands for its state in the image itself
pub settled_has : (place : Place) (d : Durable) (image : List ℕ) (flying : ℕ → Type 0)
    → IsSettled reads state_number_of 0 place image flying d → HasState image d
settled_has place d image flying settled =
    left_has place d image flying image settled (record { size = refl; rest = λ byte none. refl })

-- ---- calls that carry deeds out

module _ {D L : Type 0} {N : ℕ} (B : Ghosts D N L) (tables : TableParts) (seal : Seal) where
  -- calls of the board keep to deeds, by the tables and the seal at hand
  abbrev GoesByDeeds : D → D → Durable → List Deed → Type 0
  GoesByDeeds old new d deeds = GoesBy B tables seal old new d deeds

  -- an image and a text are at a point of deeds that began at an old board
  abbrev Point : D → Durable → List Deed → List ℕ → List ℕ → Type 0
  Point old d deeds i x = IsPointOfDeeds tables seal B.tells_text d (B.printed old) deeds i x

  -- a board that is not called keeps to no deeds
  pub keeps_still : (a : D) (place : Place) (d : Durable) → LeavesNow B a → HoldsState B place a d
      → ForSome d.hold (Fits tables) → GoesByDeeds a a d []
  keeps_still a place d now settled fits = record {
    leaves = leaves_none B (Point a d []) a
        (λ i x left. let may = now i x left in (
          record { has = left_has place d (B.image a) (B.in_flight a) i settled may.bytes; fits = fits },
          λ t. may.text,
        ));
    stops = (record { has = settled_has place d (B.image a) (B.in_flight a) settled; fits = fits }, λ t. refl);
  }

  -- calls that keep to deeds keep to them with more deeds behind them
  pub keeps_longer : (a b : D) (d : Durable) (xs ys : List Deed) → GoesByDeeds a b d xs → GoesByDeeds a b d (xs ++ ys)
  keeps_longer a b d xs ys h = record {
    leaves = leaves_wider B (Point a d xs) (Point a d (xs ++ ys)) a b
        (at_longer tables seal B.tells_text d (B.printed a) xs ys) h.leaves;
    stops = at_longer tables seal B.tells_text d (B.printed a) xs ys (B.image b) (B.printed b) h.stops;
  }

  -- calls that keep to deeds, and calls behind them that keep to more, keep to both lists, joined
  pub keeps_next : (a b c : D) (d : Durable) (xs ys : List Deed)
      → (B.tells_text → B.printed b ≡ B.printed a ++ texts seal xs)
      → GoesByDeeds a b d xs → GoesByDeeds b c (after_deeds d xs) ys → GoesByDeeds a c d (xs ++ ys)
  keeps_next a b c d xs ys text h k = record {
    leaves = leaves_then B (Point a d (xs ++ ys)) a b c (keeps_longer a b d xs ys h).leaves
        (leaves_wider B (Point b (after_deeds d xs) ys) (Point a d (xs ++ ys)) b c shifted k.leaves);
    stops = shifted (B.image c) (B.printed c) k.stops;
  }
    where
      shifted : (i x : List ℕ) → Point b (after_deeds d xs) ys i x → Point a d (xs ++ ys) i x
      shifted i x at = at_later tables seal B.tells_text d (B.printed a) xs ys i x
          (at_same tables seal B.tells_text (after_deeds d xs) (B.printed b) (B.printed a ++ texts seal xs) ys i x
          text at)

  -- the texts of two lists of deeds that are printed one behind the other are the texts of both, joined
  pub text_next : (a b c : D) (xs ys : List Deed) → (B.tells_text → B.printed b ≡ B.printed a ++ texts seal xs)
      → (B.tells_text → B.printed c ≡ B.printed b ++ texts seal ys)
      → B.tells_text → B.printed c ≡ B.printed a ++ texts seal (xs ++ ys)
  text_next a b c xs ys first second t =
      second t ∙ ap (λ (p : List ℕ). p ++ texts seal ys) (first t)
      ∙ append_assoc (B.printed a) (texts seal xs) (texts seal ys)
      ∙ ap (λ (p : List ℕ). B.printed a ++ p) (sym (texts_joined seal xs ys))

-- ---- commits in turn

module _ {D L : Type 0} {N : ℕ} (B : Ghosts D N L) where
  -- calls that keep the store, before commits in turn and behind them
  pub turn_kept : (a b c : D) (d : Durable) (xs : List Change) → KeepsStore B a b → CommitsInTurn B d xs b c
      → CommitsInTurn B d xs a c
  turn_kept a b c d [] kept h = keeps_then B a b c kept h
  turn_kept a b c d (x ∷ xs) kept h = record {
    begun = h.begun;
    kept = keeps_then B a b h.begun kept h.kept;
    done = h.done;
    commits = h.commits;
    rest = h.rest;
  }

  pub turn_behind : (a b c : D) (d : Durable) (xs : List Change) → CommitsInTurn B d xs a b → KeepsStore B b c
      → CommitsInTurn B d xs a c
  turn_behind a b c d [] h kept = keeps_then B a b c h kept
  turn_behind a b c d (x ∷ xs) h kept = record {
    begun = h.begun;
    kept = h.kept;
    done = h.done;
    commits = h.commits;
    rest = turn_behind h.done b c (after d x) xs h.rest kept;
  }

  -- commits in turn, and others behind them, are commits of both lists in turn
  turn_then : (a b c : D) (d : Durable) (xs ys : List Change) → CommitsInTurn B d xs a b
      → CommitsInTurn B (after_all d xs) ys b c → CommitsInTurn B d (xs ++ ys) a c
  turn_then a b c d [] ys h k = turn_kept a b c d ys h k
  turn_then a b c d (x ∷ xs) ys h k = record {
    begun = h.begun;
    kept = h.kept;
    done = h.done;
    commits = h.commits;
    rest = turn_then h.done b c (after d x) xs ys h.rest k;
  }

  -- the commits of two lists of deeds that are joined
  pub turn_next : (a b c : D) (d : Durable) (xs ys : List Deed) → CommitsInTurn B d (changes_of xs) a b
      → CommitsInTurn B (after_deeds d xs) (changes_of ys) b c → CommitsInTurn B d (changes_of (xs ++ ys)) a c
  turn_next a b c d xs ys h k = subst (λ (l : List Change). CommitsInTurn B d l a c) (sym (changes_joined xs ys))
      (turn_then a b c d (changes_of xs) (changes_of ys) h
      (subst (λ (e : Durable). CommitsInTurn B e (changes_of ys) b c) (after_changes d xs) k))
