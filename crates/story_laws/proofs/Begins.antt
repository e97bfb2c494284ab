-- Stories begin with the hirings.
use Rattle.{std.specs.List.{AllZip}, meter_model.specs.{Trip.{fees_of}, declared.core_trip.Fees.{Fees}}}
use Rattle.std.proofs.Common.{[], ℕ, ◌++◌, ◌∙◌, ◌∷◌, ◌≡◌, List, None, Option, Some, ap, refl, sym}
use Rattle.{verify_bench.specs.Story.{hiring_told}, story_laws.proofs.Carried.{carried, hired_moment, seen_told}}
use Rattle.story_laws.specs.{ClosedStories.{BeginsWith}, Common.{rate_told, stamp_at, stories_of, with_parts}}
use Rattle.story_laws.{specs.Closings.{closings_of}, proofs.{Told.{Each, Plain}, Turns.{IsOf}}}
use Rattle.story_laws.specs.Common.{Display, Event, Happening, Meter, MeterTrip, Moment, Receipt, Setting, Stamp, begun}
use Rattle.story_laws.specs.Common.{context_now, end_of, fees_in_force, fees_of_hiring, line_by, moments_at, parts_by}

module _ (s : Setting) where
  -- an open story has begun with the hiring of its trip
  record Begun (t : MeterTrip) (line : Option ℕ) (moments : List Moment) : Type 0 where
    pub m : Meter
    pub free : m.trip ≡ None
    pub others : List Moment
    pub begins : moments ≡ hired_moment s m ∷ others
    pub started : t.started ≡ m.clock
    pub fees : t.fees ≡ fees_of (fees_in_force s.tariff (context_now s m))

  hire : (m n : Meter) (roam : ℕ) (list : List Display) → m.trip ≡ None
      → n.trip ≡ Some (begun s (fees_in_force s.tariff (context_now s m)) m.clock roam)
      → Begun (begun s (fees_in_force s.tariff (context_now s m)) m.clock roam) None
      (hired_moment s m ∷ seen_told s n list)
  hire m n roam list free there = record {
    m = m;
    free = free;
    others = seen_told s n list;
    begins = refl;
    started = refl;
    fees = refl;
  }

  go_on : (event : Event) (m n : Meter) (line : Option ℕ) (so_far : List Moment) (u : MeterTrip) (extras : List ℕ)
      (told : List Happening) (list : List Display) → m.trip ≡ Some u
      → n.trip ≡ Some (record (with_parts (parts_by s event m) u) { extras = extras }) → Each Plain told
      → Begun u line so_far
      → Begun (record (with_parts (parts_by s event m) u) { extras = extras }) (line_by s event m line)
      (so_far ++ (rate_told s event line m ++ (moments_at s n told ++ seen_told s n list)))
  go_on event m n line so_far u extras told list there behind plain b =
      let more = rate_told s event line m ++ (moments_at s n told ++ seen_told s n list) in
      record {
        m = b.m;
        free = b.free;
        others = b.others ++ more;
        begins = ap (λ (l : List Moment). l ++ more) b.begins;
        started = b.started;
        fees = b.fees;
      }

  close : (event : Event) (m : Meter) (line : Option ℕ) (so_far : List Moment) (u : MeterTrip) (r : Receipt)
      → m.trip ≡ Some u → IsOf s (with_parts (parts_by s event m) u) r → Begun u line so_far
      → BeginsWith s (record { trip = Some (with_parts (parts_by s event m) u); receipt = r }) (record {
        kind = r.kind;
        moments = (so_far ++ rate_told s event line m) ++ end_of (Some (with_parts (parts_by s event m) u)) r ∷ [];
      })
  close event m line so_far u r there of b =
      let rate = rate_told s event line m in
      let end = end_of (Some (with_parts (parts_by s event m) u)) r in
      let start : r.start ≡ stamp_at s b.m.clock = of.start ∙ ap (stamp_at s) b.started in
      let others = (b.others ++ rate) ++ end ∷ [] in
      record {
        trip = with_parts (parts_by s event m) u;
        there = refl;
        m = b.m;
        free = b.free;
        others = others;
        begins = ap (λ (l : List Moment). (l ++ rate) ++ end ∷ []) b.begins
            ∙ ap (λ (at : Stamp). record {
              ticks = 0;
              pulses = 0;
              at = at;
              happening = hiring_told b.m (fees_of_hiring s.tariff (context_now s b.m));
            } ∷ others) (sym start);
        start = start;
        initial = of.initial ∙ ap (λ (f : Fees). f.initial) b.fees;
        minimum = of.minimum ∙ ap (λ (f : Fees). f.minimum) b.fees;
        distance = of.distance;
      }

  pub stories_begin : (list : List Event) → AllZip (BeginsWith s) (closings_of s list) (stories_of s list)
  stories_begin list = carried s Begun (BeginsWith s) hire go_on close list
