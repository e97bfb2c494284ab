-- For proofs: events that a meter carries out on a store, one behind the other.
use Rattle.std.proofs.Common.{[], ℕ, ◌++◌, ◌∙◌, ◌≡◌, List, None, Option, Some, ap, inl, inr, refl, subst, sym, ⊎_elim}
use Rattle.{std.proofs.lemmas.List.{append-nil}, slot_store.specs.Writes.{OrWithin}}
use Rattle.outside.proofs.Laws.{keeps_none, leaves_none, leaves_then, leaves_wider}
use Rattle.meter_run.specs.Common.{Durable, Event, Ghosts, HoldsState, Known, LeavesNow, Meter, Place, SameBut, Seal}
use Rattle.meter_run.specs.{Common.{Setting, StoreMeter, TableParts, run}, Deeds.{Deed, changes_of, deeds_of, texts}}
use Rattle.meter_run.specs.{InTurn.{CommitsInTurn}, RunLaws.{run_acts, run_durable, run_next}}
use Rattle.meter_run.specs.{OnStore.{CarriesOut, Has, HasBeside, StandsOn, StopsAmid, WritesTotals}, Points.{GoesBy}}
use Rattle.meter_run.specs.PointLaws.{deeds_joined, keeps_longer, keeps_next, keeps_still, text_next, turn_next}

-- the deeds of a run over two lists of events that are joined are those over the first, and then those over the second
run_deeds : (s : Setting) (m : Meter) (es fs : List Event)
    → deeds_of (run s (es ++ fs) m).acts ≡ deeds_of (run s es m).acts ++ deeds_of (run s fs (run s es m).next).acts
run_deeds s m es fs =
    ap deeds_of (run_acts s m es fs) ∙ deeds_joined (run s es m).acts (run s fs (run s es m).next).acts

-- what changed beside the pair of totals up to one board, and then up to a later one, is what might change there from
-- the first one on
pub beside_more : (flown flying : ℕ → Type 0) (a b c : List ℕ)
    → ((place : ℕ) → flying place → OrWithin flown 0 1024 place)
    → SameBut (OrWithin flown 0 1024) a b → SameBut (OrWithin flying 0 1024) b c → SameBut (OrWithin flown 0 1024) a c
beside_more flown flying a b c flight h k = record {
  size = k.size ∙ h.size;
  rest = λ place none.
      k.rest place (⊎_elim (λ flies. none (flight place flies)) (λ within. none (inr within))) ∙ h.rest place none;
}

module _ {D L : Type 0} {N : ℕ} (B : Ghosts D N L) where
  -- the state that the store has is settled somewhere
  pub has_settled : (known : Option Known) (a : D) (d : Durable) → Has B known a d
      → (place : Place) × HoldsState B place a d
  has_settled None a d h = h
  has_settled (Some known) a d h =
      (known.place, subst (λ (x : Durable). HoldsState B known.place a x) (sym h.0) h.1)

  -- ---- outside the pair of totals

  -- a board that is not called writes totals alone
  pub beside_none : (a : D) → LeavesNow B a → WritesTotals B a a
  beside_none a now = record {
    rest = record { size = refl; rest = λ place none. refl };
    flight = λ place flies. inl flies;
    leaves = leaves_none B (λ i x. HasBeside B a i) a (λ i x left. let may = now i x left in record {
      bytes = record { size = may.bytes.size; rest = λ place none. may.bytes.rest place (λ flies. none (inl flies)) };
      small = may.small;
    });
  }

  -- calls that write totals alone, one behind the other, write totals alone together
  pub beside_then : (a b c : D) → WritesTotals B a b → WritesTotals B b c → WritesTotals B a c
  beside_then a b c h k = record {
    rest = beside_more (B.in_flight a) (B.in_flight b) (B.image a) (B.image b) (B.image c) h.flight h.rest k.rest;
    flight = λ place flies. ⊎_elim (h.flight place) inr (k.flight place flies);
    leaves = leaves_then B (λ i x. HasBeside B a i) a b c h.leaves
        (leaves_wider B (λ i x. HasBeside B b i) (λ i x. HasBeside B a i) b c (λ i x left. record {
          bytes = beside_more (B.in_flight a) (B.in_flight b) (B.image a) (B.image b) i h.flight h.rest left.bytes;
          small = left.small;
        }) k.leaves);
  }

module _ {D L : Type 0} {N : ℕ} (B : Ghosts D N L) (tables : TableParts) (seal : Seal) where
  -- a meter and a board carry out a list of events
  abbrev Out : List Event → StoreMeter → D → StoreMeter → D → Type 0
  Out events x a y b = CarriesOut B tables seal (λ s m. run s events m) x a y b

  -- a board stops amid a list of events
  abbrev Amid : List Event → StoreMeter → D → D → Type 0
  Amid events x a b = StopsAmid B tables seal (λ s m. run s events m) x a b

  -- calls of the board keep to deeds, by the tables and the seal at hand
  abbrev GoesByDeeds : D → D → Durable → List Deed → Type 0
  GoesByDeeds a b d deeds = GoesBy B tables seal a b d deeds

  -- a meter and a board that is not called carry out no events
  pub out_none : (x : StoreMeter) (a : D) → LeavesNow B a → Out [] x a x a
  out_none x a now = record {
    stands = λ told s m is h. h;
    printed = λ told s m is h t. sym (append-nil (B.printed a));
    points = λ told s m is h. let at = has_settled B x.known a m.durable h.has in
        keeps_still B tables seal a at.0 m.durable now at.1 h.fits;
    turn = λ told s m is h. keeps_none B a;
    beside = λ told. beside_none B a now;
  }

  -- events that are carried out, and events behind them that are, are carried out as one list
  pub out_then : (es fs : List Event) (x : StoreMeter) (a : D) (y : StoreMeter) (b : D) (z : StoreMeter) (c : D)
      → Out es x a y b → Out fs y b z c → Out (es ++ fs) x a z c
  out_then es fs x a y b z c first next = record {
    stands = λ told s m is h. subst (λ (n : Meter). StandsOn B tables s z c n) (sym (run_next s m es fs))
        (next.stands told s (run s es m).next is (first.stands told s m is h));
    printed = λ told s m is h t. subst (λ (deeds : List Deed). B.printed c ≡ B.printed a ++ texts seal deeds)
        (sym (run_deeds s m es fs))
        (text_next B tables seal a b c (deeds_of (run s es m).acts) (deeds_of (run s fs (run s es m).next).acts)
        (first.printed told s m is h) (next.printed told s (run s es m).next is (first.stands told s m is h)) t);
    points =
        λ told s m is h. subst (λ (deeds : List Deed). GoesByDeeds a c m.durable deeds) (sym (run_deeds s m es fs))
        (keeps_next B tables seal a b c m.durable (deeds_of (run s es m).acts)
        (deeds_of (run s fs (run s es m).next).acts) (first.printed told s m is h) (first.points told s m is h)
        (subst (λ (d : Durable). GoesByDeeds b c d (deeds_of (run s fs (run s es m).next).acts)) (run_durable s es m)
        (next.points told s (run s es m).next is (first.stands told s m is h))));
    turn = λ told s m is h. subst (λ (deeds : List Deed). CommitsInTurn B m.durable (changes_of deeds) a c)
        (sym (run_deeds s m es fs))
        (turn_next B a b c m.durable (deeds_of (run s es m).acts) (deeds_of (run s fs (run s es m).next).acts)
        (first.turn told s m is h)
        (subst (λ (d : Durable). CommitsInTurn B d (changes_of (deeds_of (run s fs (run s es m).next).acts)) b c)
        (run_durable s es m) (next.turn told s (run s es m).next is (first.stands told s m is h))));
    beside = λ told. beside_then B a b c (first.beside told) (next.beside told);
  }

  -- a board that stops amid the second of two lists of events, when the first was carried out, stops amid both, joined
  pub amid_later : (es fs : List Event) (x : StoreMeter) (a : D) (y : StoreMeter) (b c : D)
      → Out es x a y b → Amid fs y b c → Amid (es ++ fs) x a c
  amid_later es fs x a y b c first next = record {
    points =
        λ told s m is h. subst (λ (deeds : List Deed). GoesByDeeds a c m.durable deeds) (sym (run_deeds s m es fs))
        (keeps_next B tables seal a b c m.durable (deeds_of (run s es m).acts)
        (deeds_of (run s fs (run s es m).next).acts) (first.printed told s m is h) (first.points told s m is h)
        (subst (λ (d : Durable). GoesByDeeds b c d (deeds_of (run s fs (run s es m).next).acts)) (run_durable s es m)
        (next.points told s (run s es m).next is (first.stands told s m is h))));
    beside = λ told. beside_then B a b c (first.beside told) (next.beside told);
  }

  -- a board that stops amid the first of two lists of events stops amid both, joined
  pub amid_sooner : (es fs : List Event) (x : StoreMeter) (a c : D) → Amid es x a c → Amid (es ++ fs) x a c
  amid_sooner es fs x a c h = record {
    points =
        λ told s m is st. subst (λ (deeds : List Deed). GoesByDeeds a c m.durable deeds) (sym (run_deeds s m es fs))
        (keeps_longer B tables seal a c m.durable (deeds_of (run s es m).acts)
        (deeds_of (run s fs (run s es m).next).acts) (h.points told s m is st));
    beside = h.beside;
  }
