-- What a point of a list of deeds says of an image that a cut leaves.
use Rattle.std.specs.Prelude.{◌⊎◌}
use Rattle.std.proofs.Common.{[], ℕ, ◌++◌, ◌+◌, ◌∙◌, ◌∷◌, ◌≡◌, ◌≤◌, List, None, Option, Some, ap, append_assoc, arith}
use Rattle.std.proofs.{Common.{inl, inr, length, length-append, refl, subst, sym, ⊎_elim}, lemmas.List.{append-nil}}
use Rattle.taxi_units.specs.declared.receipt.Kind.{Kind, TheVariants.{Aborted, Closed, Expired, Roam}}
use Rattle.{outside.proofs.Laws.{begins_whole}, slot_store.proofs.Laws.{body_found}}
use Rattle.totals_record.{specs.Reading.{reads}, proofs.Laws.{changes_add_up}}
use Rattle.{meter_states.specs.Pairs.{ArePaired, IsReceiptOf, waiting_after}, meter_run.specs.PointLaws.{after_changes}}
use Rattle.meter_run.specs.Common.{Act, Begins, Change, Durable, Enter, Entry, GrowsBy, Hold, Receipt, Refuse, Seal}
use Rattle.meter_run.specs.Common.{Show, TableParts, state_number_of}
use Rattle.meter_run.specs.Deeds.{Deed, Does, Prints, after_deed, after_deeds, changes_of, deed_text, deeds_of, texts}
use Rattle.meter_run.specs.Points.{EndsInEntryOf, HasEntries, HasFittingState, IsCutOfDeeds, IsEntered, IsPointOfDeeds}
use Rattle.taxi_units.specs.declared.receipt.Receipt as receipts
use Rattle.totals_record.specs.declared.change.Change.TheVariants as changes

-- ---- what deeds commit

pub deeds_follow : (d : Durable) (deeds : List Deed) → GrowsBy d (after_deeds d deeds) (changes_of deeds)
deeds_follow d deeds = subst (λ (e : Durable). GrowsBy d e (changes_of deeds)) (sym (after_changes d deeds))
    (changes_add_up d (changes_of deeds))

-- ---- lists

tails : (x y : Deed) (xs ys : List Deed) → x ∷ xs ≡ y ∷ ys → xs ≡ ys
tails x y xs ys is = cc

heads : (x y : Deed) (xs ys : List Deed) → x ∷ xs ≡ y ∷ ys → x ≡ y
heads x y xs ys is = cc

nothing_in : (earlier later : List Deed) (x : Deed) → [] ≡ earlier ++ x ∷ later → ⊥
nothing_in [] later x is = absurd cc
nothing_in (y ∷ earlier) later x is = absurd cc

-- a beginning that isn't longer is a beginning of the beginning
pub begins_in : (xs ys zs ws : List Deed) → xs ++ ys ≡ zs ++ ws → length zs ≤ length xs
    → (more : List Deed) × (xs ≡ zs ++ more)
begins_in xs ys [] ws is le = (xs, refl)
begins_in [] ys (z ∷ zs) ws is le = absurd (omega arith)
begins_in (x ∷ xs) ys (z ∷ zs) ws is le =
    let rest = begins_in xs ys zs ws (tails x z (xs ++ ys) (zs ++ ws) is) (omega (arith, le)) in (
      rest.0,
      ap (λ (l : List Deed). x ∷ l) rest.1 ∙ ap (λ (y : Deed). y ∷ zs ++ rest.0) (heads x z (xs ++ ys) (zs ++ ws) is),
    )

-- ---- receipts stand behind their entries

waits : (kind : Kind) (entry e : Entry) → waiting_after kind entry ≡ Some e → entry ≡ e
waits Roam entry e is = absurd cc
waits Closed entry e is = cc
waits Aborted entry e is = cc
waits Expired entry e is = cc

same_receipt : (x r : receipts.Receipt) (acts : List Act) (later : List Deed)
    → Does (Receipt x) ∷ deeds_of acts ≡ Does (Receipt r) ∷ later → x ≡ r
same_receipt x r acts later is = cc

-- a number and the commits of deeds, and of those behind one deed more
abbrev Counts : (n m : ℕ) → (y : Deed) → List Deed → Type 0
Counts n m y deeds = m + length (changes_of deeds) ≡ n + length (changes_of (y ∷ deeds))

counts_of : (n : ℕ) (x y : Deed) (deeds : List Deed) → x ≡ y
    → n + length (changes_of (x ∷ deeds)) ≡ n + length (changes_of (y ∷ deeds))
counts_of n x y deeds is = ap (λ (z : Deed). n + length (changes_of (z ∷ deeds))) is

one_more : (n : ℕ) (change : Change) (changes : List Change) → n + 1 + length changes ≡ n + length (change ∷ changes)
one_more n change changes = omega arith

alone : (n : ℕ) (change : Change) → n + 1 ≡ n + length (change ∷ [])
alone n change = omega arith

ends_later : (n m : ℕ) (y : Deed) (deeds : List Deed) (r : receipts.Receipt) → Counts n m y deeds
    → EndsInEntryOf m r deeds → EndsInEntryOf n r (y ∷ deeds)
ends_later n m y deeds r count h = record {
  before = y ∷ h.before;
  entry = h.entry;
  last = ap (λ (l : List Deed). y ∷ l) h.last;
  is = h.is;
  numbered = h.numbered ∙ count;
}

-- the receipt is that of the entry that waits, or the entry is the last of the deeds before it
abbrev Behind : ℕ → Option Entry → List Deed → receipts.Receipt → Type 0
Behind n waiting earlier r = ((earlier ≡ [])
    × ((e : Entry) × ((waiting ≡ Some e) × (IsReceiptOf e r × (r.number ≡ n))))) ⊎ EndsInEntryOf n r earlier

under : (n m : ℕ) (y : Deed) (earlier : List Deed) (r : receipts.Receipt) → Counts n m y earlier
    → Behind m None earlier r → EndsInEntryOf n r (y ∷ earlier)
under n m y earlier r count (inl first) = absurd (let bad = first.1.1.0 in cc)
under n m y earlier r count (inr ends) = ends_later n m y earlier r count ends

behind_entry : (n : ℕ) (entry : Entry) (y : Deed) (earlier : List Deed) (r : receipts.Receipt) → Does (Enter entry) ≡ y
    → Behind (n + 1) (waiting_after entry.kind entry) earlier r → EndsInEntryOf n r (y ∷ earlier)
behind_entry n entry y earlier r is (inl first) = record {
  before = [];
  entry = entry;
  last = ap (λ (l : List Deed). y ∷ l) first.0 ∙ ap (λ (z : Deed). z ∷ []) (sym is);
  is = subst (λ (e : Entry). IsReceiptOf e r) (sym (waits entry.kind entry first.1.0 first.1.1.0)) first.1.1.1.0;
  numbered = first.1.1.1.1 ∙ alone n (changes.Enter entry) ∙ counts_of n (Does (Enter entry)) y [] is
      ∙ ap (λ (l : List Deed). n + length (changes_of (y ∷ l))) (sym first.0);
}
behind_entry n entry y earlier r is (inr ends) =
    ends_later n (n + 1) y earlier r
    (one_more n (changes.Enter entry) (changes_of earlier) ∙ counts_of n (Does (Enter entry)) y earlier is) ends

behind : (n : ℕ) (waiting : Option Entry) (acts : List Act) → ArePaired n waiting acts → (earlier later : List Deed)
    (r : receipts.Receipt) → deeds_of acts ≡ earlier ++ Does (Receipt r) ∷ later → Behind n waiting earlier r
behind n waiting [] h earlier later r is = absurd (nothing_in earlier later (Does (Receipt r)) is)
behind n None (Show display ∷ acts) h [] later r is = absurd cc
behind n None (Show display ∷ acts) h (y ∷ earlier) later r is =
    let first = heads (Does (Show display)) y (deeds_of acts) (earlier ++ Does (Receipt r) ∷ later) is in
    inr (under n n y earlier r (counts_of n (Does (Show display)) y earlier first) (behind n None acts h earlier later r
    (tails (Does (Show display)) y (deeds_of acts) (earlier ++ Does (Receipt r) ∷ later) is)))
behind n None (Refuse why ∷ acts) h [] later r is = absurd cc
behind n None (Refuse why ∷ acts) h (y ∷ earlier) later r is =
    let first = heads (Does (Refuse why)) y (deeds_of acts) (earlier ++ Does (Receipt r) ∷ later) is in
    inr (under n n y earlier r (counts_of n (Does (Refuse why)) y earlier first) (behind n None acts h earlier later r
    (tails (Does (Refuse why)) y (deeds_of acts) (earlier ++ Does (Receipt r) ∷ later) is)))
behind n None (Enter entry ∷ acts) h [] later r is = absurd cc
behind n None (Enter entry ∷ acts) h (y ∷ earlier) later r is = inr (behind_entry n entry y earlier r
    (heads (Does (Enter entry)) y (deeds_of acts) (earlier ++ Does (Receipt r) ∷ later) is)
    (behind (n + 1) (waiting_after entry.kind entry) acts h earlier later r
    (tails (Does (Enter entry)) y (deeds_of acts) (earlier ++ Does (Receipt r) ∷ later) is)))
behind n None (Hold trip ∷ acts) h [] later r is = absurd cc
behind n None (Hold trip ∷ acts) h (y ∷ earlier) later r is =
    let first = heads (Does (Hold trip)) y (deeds_of acts) (earlier ++ Does (Receipt r) ∷ later) is in
    inr (under n (n + 1) y earlier r
    (one_more n (changes.Hold trip) (changes_of earlier) ∙ counts_of n (Does (Hold trip)) y earlier first)
    (behind (n + 1) None acts h earlier later r
    (tails (Does (Hold trip)) y (deeds_of acts) (earlier ++ Does (Receipt r) ∷ later) is)))
behind n None (Receipt x ∷ acts) h earlier later r is = absurd h
behind n (Some e) (Show display ∷ acts) h earlier later r is = absurd h
behind n (Some e) (Refuse why ∷ acts) h earlier later r is = absurd h
behind n (Some e) (Enter entry ∷ acts) h earlier later r is = absurd h
behind n (Some e) (Hold trip ∷ acts) h earlier later r is = absurd h
behind n (Some e) (Receipt x ∷ acts) h [] later r is =
    let same = same_receipt x r acts later is in
    inl
    (refl, (e, (refl, (subst (IsReceiptOf e) same h.0.0, sym (ap (λ (z : receipts.Receipt). z.number) same) ∙ h.0.1))))
behind n (Some e) (Receipt x ∷ acts) h (y ∷ earlier) later r is =
    let first = heads (Does (Receipt x)) y (deeds_of acts) (earlier ++ Does (Receipt r) ∷ later) is in
    inr (under n n y earlier r (counts_of n (Does (Receipt x)) y earlier first) (behind n None acts h.1 earlier later r
    (tails (Does (Receipt x)) y (deeds_of acts) (earlier ++ Does (Receipt r) ∷ later) is)))

pub acts_have_entries : (n : ℕ) (acts : List Act) → ArePaired n None acts → HasEntries n (deeds_of acts)
acts_have_entries n acts h earlier later r is = by (behind n None acts h earlier later r is)
  where
    by : Behind n None earlier r → EndsInEntryOf n r earlier
    by (inl first) = absurd (let bad = first.1.1.0 in cc)
    by (inr ends) = ends

-- with a line behind them
not_the_line : (deeds earlier later : List Deed) (r : receipts.Receipt) (line : List ℕ)
    → deeds ++ Prints line ∷ [] ≡ earlier ++ Does (Receipt r) ∷ later
    → (more : List Deed) × (deeds ≡ earlier ++ Does (Receipt r) ∷ more)
not_the_line [] [] later r line is = absurd cc
not_the_line [] (y ∷ earlier) later r line is = absurd
    (nothing_in earlier later (Does (Receipt r)) (tails (Prints line) y [] (earlier ++ Does (Receipt r) ∷ later) is))
not_the_line (x ∷ deeds) [] later r line is =
    (deeds, ap (λ (z : Deed). z ∷ deeds) (heads x (Does (Receipt r)) (deeds ++ Prints line ∷ []) later is))
not_the_line (x ∷ deeds) (y ∷ earlier) later r line is =
    let rest = not_the_line deeds earlier later r line
    (tails x y (deeds ++ Prints line ∷ []) (earlier ++ Does (Receipt r) ∷ later) is) in (
      rest.0,
      ap (λ (l : List Deed). x ∷ l) rest.1 ∙ ap (λ (z : Deed). z ∷ earlier ++ Does (Receipt r) ∷ rest.0)
          (heads x y (deeds ++ Prints line ∷ []) (earlier ++ Does (Receipt r) ∷ later) is),
    )

pub line_has_entries : (n : ℕ) (deeds : List Deed) (line : List ℕ) → HasEntries n deeds
    → HasEntries n (deeds ++ Prints line ∷ [])
line_has_entries n deeds line h earlier later r is =
    let rest = not_the_line deeds earlier later r line is in
    h earlier rest.0 r rest.1

-- the entry of a receipt that was begun is among what the image has
entered_in : (n : ℕ) (deeds done next left kept : List Deed) → HasEntries n deeds → deeds ≡ done ++ (next ++ left)
    → length next ≤ 1 → (kept ≡ done) ⊎ (kept ≡ done ++ next)
    → (earlier later : List Deed) (r : receipts.Receipt) → done ++ next ≡ earlier ++ Does (Receipt r) ∷ later
    → IsEntered n kept earlier r
entered_in n deeds done next left kept h split one kept_is earlier later r is =
    let entry = h earlier (later ++ left) r (split ∙ sym (append_assoc done next left)
    ∙ ap (λ (l : List Deed). l ++ left) is ∙ append_assoc earlier (Does (Receipt r) ∷ later) left) in
    let within = begins_in done next earlier (Does (Receipt r) ∷ later) is
    (omega (arith, one, ap length is, length-append done next, length-append earlier (Does (Receipt r) ∷ later))) in
    by entry within kept_is
  where
    by : EndsInEntryOf n r earlier → (more : List Deed) × (done ≡ earlier ++ more)
        → (kept ≡ done) ⊎ (kept ≡ done ++ next) → IsEntered n kept earlier r
    by entry within (inl same) = record { entry = entry; more = within.0; has = same ∙ within.1 }
    by entry within (inr same) = record { entry = entry; more = Does (Receipt r) ∷ later; has = same ∙ is }

-- ---- points

module _ (tables : TableParts) (seal : Seal) (told : Type 0) where
  -- how far it came, and what the image has
  record Reaches (d : Durable) (p : List ℕ) (deeds : List Deed) (i x : List ℕ) : Type 0 where
    done : List Deed
    next : List Deed
    left : List Deed
    split : deeds ≡ done ++ (next ++ left)
    one : length next ≤ 1
    begun : told → Begins (p ++ texts seal done) x (texts seal next)
    kept : List Deed
    kept_is : (kept ≡ done) ⊎ (kept ≡ done ++ next)
    holds : HasFittingState tables i (after_deeds d kept)

  amid_reaches : (d : Durable) (p : List ℕ) (deed : Deed) (deeds : List Deed) (i x : List ℕ) (kept : List Deed)
      → (kept ≡ []) ⊎ (kept ≡ [] ++ deed ∷ []) → HasFittingState tables i (after_deeds d kept)
      → (told → Begins p x (deed_text seal deed)) → Reaches d p (deed ∷ deeds) i x
  amid_reaches d p deed deeds i x kept kept_is holds begun = record {
    done = [];
    next = deed ∷ [];
    left = deeds;
    split = refl;
    one = omega arith;
    begun = λ t. subst (λ (q : List ℕ). Begins q x (deed_text seal deed ++ [])) (sym (append-nil p))
        (subst (λ (text : List ℕ). Begins p x text) (sym (append-nil (deed_text seal deed))) (begun t));
    kept = kept;
    kept_is = kept_is;
    holds = holds;
  }

  reaches : (d : Durable) (p : List ℕ) (deeds : List Deed) (i x : List ℕ)
      → IsPointOfDeeds tables seal told d p deeds i x → Reaches d p deeds i x
  reaches d p [] i x h = record {
    done = [];
    next = [];
    left = [];
    split = refl;
    one = omega arith;
    begun = λ t. begins_whole (p ++ []) x [] (h.1 t ∙ sym (append-nil p) ∙ sym (append-nil (p ++ [])));
    kept = [];
    kept_is = inl refl;
    holds = h.0;
  }
  reaches d p (deed ∷ deeds) i x (inl amid) = by amid.holds
    where
      by : HasFittingState tables i d ⊎ HasFittingState tables i (after_deed d deed) → Reaches d p (deed ∷ deeds) i x
      by (inl before) = amid_reaches d p deed deeds i x [] (inl refl) before amid.begun
      by (inr behind) = amid_reaches d p deed deeds i x (deed ∷ []) (inr refl) behind amid.begun
  reaches d p (deed ∷ deeds) i x (inr later) =
      let r = reaches (after_deed d deed) (p ++ deed_text seal deed) deeds i x later in
      record {
        done = deed ∷ r.done;
        next = r.next;
        left = r.left;
        split = ap (λ (l : List Deed). deed ∷ l) r.split;
        one = r.one;
        begun = λ t. subst (λ (q : List ℕ). Begins q x (texts seal r.next))
            (append_assoc p (deed_text seal deed) (texts seal r.done)) (r.begun t);
        kept = deed ∷ r.kept;
        kept_is = ⊎_elim (λ same. inl (ap (λ (l : List Deed). deed ∷ l) same))
            (λ same. inr (ap (λ (l : List Deed). deed ∷ l) same)) r.kept_is;
        holds = r.holds;
      }

  -- for readers
  pub cut_of : (d : Durable) (p : List ℕ) (deeds : List Deed) (i x : List ℕ) → HasEntries d.number deeds
      → IsPointOfDeeds tables seal told d p deeds i x → IsCutOfDeeds tables seal told d p deeds i x
  cut_of d p deeds i x entries at =
      let r = reaches d p deeds i x at in
      record {
        done = r.done;
        next = r.next;
        left = r.left;
        split = r.split;
        one = r.one;
        begun = r.begun;
        kept = r.kept;
        kept_is = r.kept_is;
        found = after_deeds d r.kept;
        stands = r.holds.has;
        scanned = body_found reads state_number_of 0 i (after_deeds d r.kept) r.holds.has;
        fits = r.holds.fits;
        follows = deeds_follow d r.kept;
        receipts = entered_in d.number deeds r.done r.next r.left r.kept entries r.split r.one r.kept_is;
      }

  -- with more deeds behind it
  pub cut_longer : (d : Durable) (p : List ℕ) (deeds more : List Deed) (i x : List ℕ)
      → IsCutOfDeeds tables seal told d p deeds i x → IsCutOfDeeds tables seal told d p (deeds ++ more) i x
  cut_longer d p deeds more i x cut = record {
    done = cut.done;
    next = cut.next;
    left = cut.left ++ more;
    split = ap (λ (l : List Deed). l ++ more) cut.split ∙ append_assoc cut.done (cut.next ++ cut.left) more
        ∙ ap (λ (l : List Deed). cut.done ++ l) (append_assoc cut.next cut.left more);
    one = cut.one;
    begun = cut.begun;
    kept = cut.kept;
    kept_is = cut.kept_is;
    found = cut.found;
    stands = cut.stands;
    scanned = cut.scanned;
    fits = cut.fits;
    follows = cut.follows;
    receipts = cut.receipts;
  }

  -- amid a line behind all of them
  pub cut_in_line : (d : Durable) (p : List ℕ) (deeds : List Deed) (line : List ℕ) (i x : List ℕ) → HasEntries d.number
      deeds → HasFittingState tables i (after_deeds d deeds) → (told → Begins (p ++ texts seal deeds) x line)
      → IsCutOfDeeds tables seal told d p (deeds ++ Prints line ∷ []) i x
  cut_in_line d p deeds line i x entries holds begun = record {
    done = deeds;
    next = Prints line ∷ [];
    left = [];
    split = refl;
    one = omega arith;
    begun = λ t. subst (λ (text : List ℕ). Begins (p ++ texts seal deeds) x text) (sym (append-nil line)) (begun t);
    kept = deeds;
    kept_is = inl refl;
    found = after_deeds d deeds;
    stands = holds.has;
    scanned = body_found reads state_number_of 0 i (after_deeds d deeds) holds.has;
    fits = holds.fits;
    follows = deeds_follow d deeds;
    receipts = entered_in d.number (deeds ++ Prints line ∷ []) deeds (Prints line ∷ []) [] deeds
        (line_has_entries d.number deeds line entries) refl (omega arith) (inl refl);
  }
