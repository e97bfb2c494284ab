-- Equal intervals that the core carries out at once.
use Rattle.std.{specs.Option.{ForSome}, proofs.lemmas.{Bool.{ne_eqb}, List.{append-nil}}}
use Rattle.std.proofs.Common.{[], ℕ, ◌++◌, ◌∙◌, ◌≡◌, List, None, Option, Some, ap, refl, subst, suc, sym, zero}
use Rattle.{outside.proofs.Laws.{keeps_none}, meter_states.proofs.Laws.{the_store_keeps_the_trip-run}}
use Rattle.{meter_states.specs.Equals.{interval_of}, meter_run.specs.Deeds.{after_deeds, changes_of, deeds_of, texts}}
use Rattle.meter_run.specs.{BetweenEvents.{StandsWith}, Common.{interval_events, intervals_events, intervals_of, run}}
use Rattle.meter_run.specs.Common.{Act, CachedCore, Durable, Event, Fits, Ghosts, IsLawful, IsSettingOf, Known}
use Rattle.meter_run.specs.Common.{LeavesNow, Meets, Meter, Seal, Setting, Stands, StoreMeter, TableParts}
use Rattle.meter_run.specs.{Dry.{CarriesEvents, IsMeterReady}, Points.{GoesBy}, StoreLaws.{beside_none, has_settled}}
use Rattle.meter_run.specs.{InTurn.{CommitsInTurn}, RunLaws.{run_durable}, Texts.{shown_texts}}
use Rattle.meter_run.specs.{OnStore.{CarriesOut, Has, Knows}, PointLaws.{keeps_still}, declared.dry.DryMeter.{DryMeter}}

-- ---- the events of equal intervals

interval_is : (p : ℕ) → interval_of p ≡ interval_events p
interval_is zero = refl
interval_is (suc p) = rw (ne_eqb (suc p) 0 (λ none. absurd cc)) refl

pub intervals_are : (p n : ℕ) → intervals_of p n ≡ intervals_events p n
intervals_are p zero = refl
intervals_are p (suc n) =
    ap (λ (es : List Event). es ++ intervals_of p n) (interval_is p)
    ∙ ap (λ (es : List Event). interval_events p ++ es) (intervals_are p n)

-- ---- events at which nothing is done

-- they commit nothing
same_durable : (s : Setting) (es : List Event) (m : Meter) → [] ≡ (run s es m).acts
    → m.durable ≡ (run s es m).next.durable
same_durable s es m none =
    ap (λ (acts : List Act). after_deeds m.durable (deeds_of acts)) none ∙ sym (run_durable s es m)

pub stands_still : (s : Setting) (es : List Event) (core core' : CachedCore) (d : Durable) (m : Meter)
    → StandsWith s core.state d m → Meets s core'.state [] (run s es m) → StandsWith s core'.state d (run s es m).next
stands_still s es core core' d m st meets = record {
  core = meets.state;
  durable = st.durable ∙ same_durable s es m meets.done;
  kept = the_store_keeps_the_trip-run s es m st.kept;
}

module _ (tables : TableParts) (seal : Seal) (es : List Event) (core core' : CachedCore)
    (meets : (s : Setting) (m : Meter) → IsSettingOf s tables seal → Stands s core.state m
    → Meets s core'.state [] (run s es m)) (lawful : IsLawful tables seal core') where
  pub ready_still : (d : Durable) → IsMeterReady tables seal core d → IsMeterReady tables seal core' d
  ready_still d ready = let way = ready.way in record {
    lawful = lawful;
    range = ready.range;
    fits = ready.fits;
    way = record {
      setting = way.setting;
      meter = (run way.setting es way.meter).next;
      is = way.is;
      stands = stands_still way.setting es core core' d way.meter way.stands
          (meets way.setting way.meter way.is way.stands.core);
    };
  }

  module _ {D L : Type 0} {N : ℕ} (B : Ghosts D N L) where
    pub knows_still : (known : Option Known) (a : D) → core'.state.operating ≡ core.state.operating
        → Knows B tables seal core known a → Knows B tables seal core' known a
    knows_still None a same off = same ∙ off
    knows_still (Some known) a same knows = (ready_still known.durable knows.0, knows.1)

module _ {D L : Type 0} {N : ℕ} (B : Ghosts D N L) (tables : TableParts) (seal : Seal) (es : List Event) where
  pub carries_still : (x : DryMeter) (core' : CachedCore) (b : D) → ((s : Setting) (m : Meter)
      → IsSettingOf s tables seal → Stands s x.core.state m → Meets s core'.state [] (run s es m))
      → CarriesEvents B tables seal x b es (record x { core = core' }) b
  carries_still x core' b meets = record {
    stands = λ s m is st. stands_still s es x.core core' x.durable m st (meets s m is st.core);
    printed = λ told s m is st. sym (append-nil (B.printed b))
        ∙ ap (λ (acts : List Act). B.printed b ++ shown_texts acts) (meets s m is st.core).done;
    store = keeps_none B b;
  }

  pub out_still : (x : StoreMeter) (core' : CachedCore) (a : D) → LeavesNow B a → ((s : Setting) (m : Meter)
      → IsSettingOf s tables seal → Stands s x.core.state m → Meets s core'.state [] (run s es m))
      → CarriesOut B tables seal (λ s m. run s es m) x a (record x { core = core' }) a
  out_still x core' a now meets = record {
    stands = λ told s m is h.
        let done = meets s m is h.stands.core in
        let same = same_durable s es m done.done in
        let after = stands_still s es x.core core' m.durable m h.stands done in
        record {
          stands = record { core = after.core; durable = refl; kept = after.kept };
          has = subst (λ (d : Durable). Has B x.known a d) same h.has;
          fits = subst (λ (d : Durable). ForSome d.hold (Fits tables)) same h.fits;
        };
    printed = λ told s m is h t. sym (append-nil (B.printed a))
        ∙ ap (λ (acts : List Act). B.printed a ++ texts seal (deeds_of acts)) (meets s m is h.stands.core).done;
    points = λ told s m is h. let at = has_settled B x.known a m.durable h.has in
        subst (λ (acts : List Act). GoesBy B tables seal a a m.durable (deeds_of acts))
        (meets s m is h.stands.core).done
        (keeps_still B tables seal a at.0 m.durable now at.1 h.fits);
    turn = λ told s m is h. subst (λ (acts : List Act). CommitsInTurn B m.durable (changes_of (deeds_of acts)) a a)
        (meets s m is h.stands.core).done (keeps_none B a);
    beside = λ told. beside_none B a now;
  }
