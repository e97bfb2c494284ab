-- Places in the list of what a run does, with the last line behind it.
use Rattle.{std.{specs.Option.{ForSome}, proofs.lemmas.List.{append-nil}}, slot_store.proofs.Laws.{body_found}}
use Rattle.std.proofs.Common.{[], ℕ, ◌++◌, ◌∙◌, ◌∷◌, ◌≡◌, List, ap, append_assoc, arith, inl, refl, subst, sym}
use Rattle.{outside.proofs.Laws.{begins_after, begins_more, begins_not}, totals_record.proofs.Laws.{changes_add_up}}
use Rattle.{totals_record.specs.{Reading.{reads}, Sums.{GrowsBy}}, meter_store.specs.Stored.{state_number_of}}
use Rattle.{meter_model.specs.declared.act.Act.TheVariants.{Receipt}, meter_run.proofs.Laws.{texts_joined}}
use Rattle.meter_run.specs.{Deeds.{Does}, Points.{HasEntries}}
use Rattle.drive_commands.specs.Common.{Begins, Deed, Durable, Fits, HasState, IsCutOfDeeds, Prints, Seal, TableParts}
use Rattle.drive_commands.specs.Common.{after_deeds, changes_of, texts}
use Rattle.taxi_units.specs.declared.receipt.Receipt as receipts

-- ---- lists

nothing_in : (earlier later : List Deed) (deed : Deed) → [] ≡ earlier ++ deed ∷ later → ⊥
nothing_in [] later deed e = cc
nothing_in (x ∷ earlier) later deed e = cc

both_parts : (x y : Deed) (xs ys : List Deed) → x ∷ xs ≡ y ∷ ys → (x ≡ y) × (xs ≡ ys)
both_parts x y xs ys e = (cc, cc)

-- a receipt is not the last line
before_last : (xs earlier later : List Deed) (line : List ℕ) (receipt : receipts.Receipt)
    → xs ++ Prints line ∷ [] ≡ earlier ++ Does (Receipt receipt) ∷ later
    → (more : List Deed) × (xs ≡ earlier ++ Does (Receipt receipt) ∷ more)
before_last [] [] later line receipt e = let heads =
    (both_parts (Prints line) (Does (Receipt receipt)) [] later e).0 in absurd cc
before_last [] (x ∷ earlier) later line receipt e =
    absurd (nothing_in earlier later (Does (Receipt receipt))
    (both_parts (Prints line) x [] (earlier ++ Does (Receipt receipt) ∷ later) e).1)
before_last (y ∷ ys) [] later line receipt e =
    let both = both_parts y (Does (Receipt receipt)) (ys ++ Prints line ∷ []) later e in
    (ys, ap (λ (deed : Deed). deed ∷ ys) both.0)
before_last (y ∷ ys) (x ∷ earlier) later line receipt e =
    let both = both_parts y x (ys ++ Prints line ∷ []) (earlier ++ Does (Receipt receipt) ∷ later) e in
    let rest = before_last ys earlier later line receipt both.1 in
    (rest.0, ap (λ (deed : Deed). deed ∷ ys) both.0 ∙ ap (λ (deeds : List Deed). x ∷ deeds) rest.1)

-- ---- places

module _ (tables : TableParts) (seal : Seal) (told : Type 0) (d : Durable) (printed : List ℕ) where
  abbrev Cut : List Deed → List ℕ → List ℕ → Type 0
  Cut deeds i x = IsCutOfDeeds tables seal told d printed deeds i x

  -- nothing was done yet
  pub first_cut : (deeds : List Deed) (i x : List ℕ) → HasState i d → ForSome d.hold (Fits tables)
      → (told → x ≡ printed) → Cut deeds i x
  first_cut deeds i x has fits text = record {
    done = [];
    next = [];
    left = deeds;
    split = refl;
    one = omega arith;
    begun = λ t. begins_not (printed ++ []) x [] (text t ∙ sym (append-nil printed));
    kept = [];
    kept_is = inl refl;
    found = d;
    stands = has;
    scanned = body_found reads state_number_of 0 i d has;
    fits = fits;
    follows = changes_add_up d [];
    receipts = λ earlier later receipt e. absurd (nothing_in earlier later (Does (Receipt receipt)) e);
  }

  -- a place in a list is one in that list with more behind it
  pub longer_cut : (deeds more : List Deed) (i x : List ℕ) → Cut deeds i x → Cut (deeds ++ more) i x
  longer_cut deeds more i x h = record {
    done = h.done;
    next = h.next;
    left = h.left ++ more;
    split = ap (λ (l : List Deed). l ++ more) h.split ∙ append_assoc h.done (h.next ++ h.left) more
        ∙ ap (λ (l : List Deed). h.done ++ l) (append_assoc h.next h.left more);
    one = h.one;
    begun = h.begun;
    kept = h.kept;
    kept_is = h.kept_is;
    found = h.found;
    stands = h.stands;
    scanned = h.scanned;
    fits = h.fits;
    follows = h.follows;
    receipts = h.receipts;
  }

  -- all was done, and the last line may have begun
  pub last_cut : (deeds : List Deed) (line i x : List ℕ) → HasState i (after_deeds d deeds)
      → ForSome (after_deeds d deeds).hold (Fits tables) → GrowsBy d (after_deeds d deeds) (changes_of deeds)
      → HasEntries d.number deeds → (told → Begins (printed ++ texts seal deeds) x line)
      → Cut (deeds ++ Prints line ∷ []) i x
  last_cut deeds line i x has fits follows entries text = record {
    done = deeds;
    next = Prints line ∷ [];
    left = [];
    split = refl;
    one = omega arith;
    begun = λ t. subst (λ (l : List ℕ). Begins (printed ++ texts seal deeds) x l) (sym (append-nil line)) (text t);
    kept = deeds;
    kept_is = inl refl;
    found = after_deeds d deeds;
    stands = has;
    scanned = body_found reads state_number_of 0 i (after_deeds d deeds) has;
    fits = fits;
    follows = follows;
    receipts = λ earlier later receipt e.
        let here = before_last deeds earlier later line receipt e in
        record { entry = entries earlier here.0 receipt here.1; more = Does (Receipt receipt) ∷ here.0; has = here.1 };
  }

  -- what was printed at a place begins the texts of the list
  pub cut_begins : (deeds : List Deed) (i x : List ℕ) → Cut deeds i x → told → Begins printed x (texts seal deeds)
  cut_begins deeds i x h t =
      let joined : texts seal deeds ≡ (texts seal h.done ++ texts seal h.next) ++ texts seal h.left =
      ap (texts seal) h.split ∙ texts_joined seal h.done (h.next ++ h.left)
      ∙ ap (λ (l : List ℕ). texts seal h.done ++ l) (texts_joined seal h.next h.left)
      ∙ sym (append_assoc (texts seal h.done) (texts seal h.next) (texts seal h.left)) in
      subst (λ (l : List ℕ). Begins printed x l) (sym joined)
      (begins_more printed x (texts seal h.done ++ texts seal h.next) (texts seal h.left)
      (begins_after printed (printed ++ texts seal h.done) x (texts seal h.done) (texts seal h.next) refl (h.begun t)))
