-- A near tariff is sound, and has a small common measure.
use Rattle.std.specs.{List.{cons_option, list_any}, Option.{option_or}, Prelude.{Bool, nat_le, nat_lt}}
use Rattle.std.proofs.Common.{[], ℕ, ◌&&◌, ◌*◌, ◌++◌, ◌/◌, ◌<◌, ◌==◌, ◌^◌, ◌||◌, ◌∙◌, ◌∷◌, ◌≡◌, ◌≤◌, All, List, None}
use Rattle.std.proofs.Common.{Ok, Option, Some, ap, arith, cond, drop, false, refl, subst, suc, sym, true, zero}
use Rattle.std.proofs.lemmas.{Bool.{le-ltb, leb-true, ne_eqb}, List.Elements.{All-cons, All-head, All-nil, All-tail}}
use Rattle.tariff_check.{specs.{Faults.{HasNone, IsSound}, Kinds.{is_great}}, proofs.Laws.{measures_are_least-least}}
use Rattle.tariff_check.specs.Lines.{LineTest, first_after, has_great_amount, has_measure_zero, is_after_nothing}
use Rattle.tariff_check.specs.{Lines.{is_for_nothing}, Measure.{IsMultipleOfAll, measures_of}}
use Rattle.tariff_check.specs.declared.fault.CheckFault.TheVariants.{AmountTooBig, MeasureZero}
use Rattle.near_commands.specs.Common.{CheckFault, Distance, Entry, Line, Measures, Minute, MonthDay, RateNumbers, Time}
use Rattle.near_commands.specs.Common.{Tree, atoms_in, choice_in, choices, fault_at, faults_of, first_line, first_some}
use Rattle.near_commands.specs.Common.{measure_of, rate, rate_part, rates_of, values_of}
use Rattle.near_commands.specs.NearTariff.{fit, is_moderate, measures_of_rates, near_measures, near_tariff}
use Rattle.near_commands.specs.NearTariff.{numbered_rates, other_faults, with_rate, with_rates}
use Rattle.near_commands.{specs.Nearest.{measures_at, near_rate}, proofs.PlainFaults.{Same, copies_alike, told_same}}
use Rattle.near_commands.proofs.{AlikeEntries.{atoms_same}, RateNumbers.{numbers_are_rates}}
use Rattle.near_commands.proofs.NearRates.{AreFound, IsExponent, measured, positive, unless_fault}
use Rattle.near_commands.proofs.OtherFaults.{alike_after, alike_cells, alike_count, alike_date, alike_duplicate}
use Rattle.near_commands.proofs.OtherFaults.{alike_initial, alike_rate, alike_step, alike_too_many, alike_unknown}

none_first : (x : Option CheckFault) (y : Option CheckFault) → option_or x y ≡ None → (x ≡ None) × (y ≡ None)
none_first None y is = (refl, is)
none_first (Some fault) y is = absurd cc

all_none : (faults : List (Option CheckFault)) → first_some faults ≡ None → HasNone faults
all_none [] is = All-nil (λ (f : Option CheckFault). f ≡ None)
all_none (x ∷ xs) is =
    let parts = none_first x (first_some xs) is in
    All-cons (λ (f : Option CheckFault). f ≡ None) x xs parts.0 (all_none xs parts.1)

both_true : (a b : Bool) → (a && b) ≡ true → (a ≡ true) × (b ≡ true)
both_true true b e = (refl, e)
both_true false b e = absurd cc

neither : (a b : Bool) → (a || b) ≡ false → (a ≡ false) × (b ≡ false)
neither true b e = absurd cc
neither false b e = (refl, e)

not_first : (b : Bool) (n : ℕ) (rest : Option ℕ) → cond b (Some n) rest ≡ None → (b ≡ false) × (rest ≡ None)
not_first true n rest is = absurd cc
not_first false n rest is = (refl, is)

-- ---- amounts and measures

great_entry : (m : Measures) (number : ℕ) (x : Entry) (ls : List Line)
    → fit m (rates_of (record { line = number; entry = x } ∷ ls)) ≡ true → is_great x ≡ false
    → (is_great (with_rate (near_rate m) x) ≡ false) × (fit m (rates_of ls) ≡ true)
great_entry m number (rate a b c e when) ls fits small =
    let r = near_rate m (record { a = a; b = b; c = c; e = e }) in
    let parts = both_true (is_moderate r) (fit m (rates_of ls)) fits in
    let amounts = both_true (nat_le r.a (10 ^ 6)) (nat_le r.c (10 ^ 6)) parts.0 in
    let first : nat_lt (10 ^ 6) r.a ≡ false = le-ltb _ _ (leb-true _ _ amounts.0) in
    let second : nat_lt (10 ^ 6) r.c ≡ false = le-ltb _ _ (leb-true _ _ amounts.1) in
    (rw (first, second) refl, parts.1)
great_entry m number x ls fits small = (small, fits)

no_great : (m : Measures) (before before' ls : List Line) → fit m (rates_of ls) ≡ true
    → first_after has_great_amount before ls ≡ None
    → first_after has_great_amount before' (with_rates (near_rate m) ls) ≡ None
no_great m before before' [] fits none = refl
no_great m before before' (l ∷ ls) fits none =
    let near : Line = record { line = l.line; entry = with_rate (near_rate m) l.entry } in
    let parts = not_first (is_great l.entry) l.line (first_after has_great_amount (before ++ l ∷ []) ls) none in
    let here = great_entry m l.line l.entry ls fits parts.0 in
    rw here.0 (no_great m (before ++ l ∷ []) (before' ++ near ∷ []) ls here.1 parts.1)

nothing_entry : (m : Measures) (x : Entry) → 0 < m.distance → 0 < m.time
    → is_for_nothing x ≡ false → is_for_nothing (with_rate (near_rate m) x) ≡ false
nothing_entry m (rate a b c e when) way time none =
    let first : (m.distance == 0) ≡ false = ne_eqb m.distance 0 (λ e. absurd (omega (arith, e, way))) in
    let second : (m.time == 0) ≡ false = ne_eqb m.time 0 (λ e. absurd (omega (arith, e, time))) in
    rw (first, second) refl
nothing_entry m x way time none = none

no_nothing : (m : Measures) (before before' ls : List Line) → 0 < m.distance → 0 < m.time
    → first_after has_measure_zero before ls ≡ None
    → first_after has_measure_zero before' (with_rates (near_rate m) ls) ≡ None
no_nothing m before before' [] way time none = refl
no_nothing m before before' (l ∷ ls) way time none =
    let near : Line = record { line = l.line; entry = with_rate (near_rate m) l.entry } in
    let parts = not_first (is_for_nothing l.entry || list_any is_after_nothing (atoms_in l.entry)) l.line
    (first_after has_measure_zero (before ++ l ∷ []) ls) none in
    let each = neither (is_for_nothing l.entry) (list_any is_after_nothing (atoms_in l.entry)) parts.0 in
    let here = nothing_entry m l.entry way time each.0 in
    rw (here, atoms_same (near_rate m) l.entry, each.1)
    (no_nothing m (before ++ l ∷ []) (before' ++ near ∷ []) ls way time parts.1)

-- ---- the common measure

measures_all : (P : ℕ → Type 0) (m : Measures) (ls : List Line) → P m.distance → P m.time
    → All P (measures_of (with_rates (near_rate m) ls))
measures_all P m [] way time = All-nil P
measures_all P m (l ∷ ls) way time = by l.entry (measures_all P m ls way time)
  where
    by : (x : Entry) → All P (measures_of (with_rates (near_rate m) ls))
        → All P (measures_of (record { line = l.line; entry = with_rate (near_rate m) x }
        ∷ with_rates (near_rate m) ls))
    by (rate a b c e when) rest =
        let more = measures_of (with_rates (near_rate m) ls) in
        All-cons P m.distance (m.time ∷ more) way (All-cons P m.time more time rest)
    by x rest = rest

-- a common multiple of the measures of an exponent
pub record HasMultiple (m : Measures) : Type 0 where
  pub multiple : ℕ
  pub some : 0 < multiple
  pub few : multiple ≤ 90000000
  pub way : multiple / m.distance * m.distance ≡ multiple
  pub time : multiple / m.time * m.time ≡ multiple

multiple_at : (j : ℕ) → IsExponent j → HasMultiple (measures_at j)
multiple_at zero range = absurd (omega (arith, range.0))
multiple_at (suc zero) range = absurd (omega (arith, range.0))
multiple_at (suc (suc zero)) range =
    record { multiple = 900; some = omega arith; few = omega arith; way = refl; time = refl }
multiple_at (suc (suc (suc zero))) range =
    record { multiple = 9000; some = omega arith; few = omega arith; way = refl; time = refl }
multiple_at (suc (suc (suc (suc zero)))) range =
    record { multiple = 90000; some = omega arith; few = omega arith; way = refl; time = refl }
multiple_at (suc (suc (suc (suc (suc zero))))) range =
    record { multiple = 900000; some = omega arith; few = omega arith; way = refl; time = refl }
multiple_at (suc (suc (suc (suc (suc (suc zero)))))) range =
    record { multiple = 9000000; some = omega arith; few = omega arith; way = refl; time = refl }
multiple_at (suc (suc (suc (suc (suc (suc (suc zero))))))) range =
    record { multiple = 90000000; some = omega arith; few = omega arith; way = refl; time = refl }
multiple_at (suc (suc (suc (suc (suc (suc (suc (suc j)))))))) range = absurd (omega (arith, range.1))

small_measure : (m : Measures) (ls : List Line) → HasMultiple m → 0 < m.distance → 0 < m.time
    → measure_of (with_rates (near_rate m) ls) ≤ 90000000
small_measure m ls has way time =
    let lines = with_rates (near_rate m) ls in
    let some = measures_all (λ n. 0 < n) m ls way time in
    let least = measures_are_least-least lines some in
    let upto = least.least has.multiple has.some
    (measures_all (λ n. has.multiple / n * n ≡ has.multiple) m ls has.way has.time) in
    omega (arith, upto, has.few)

-- ---- all faults

-- a tariff that has measures has no other fault, fits these, and they are positive and have a small multiple
pub record IsNear (t : Tree) (m : Measures) : Type 0 where
  pub faultless : HasNone (other_faults t.lines)
  pub fits : fit m (rates_of t.lines) ≡ true
  pub way : 0 < m.distance
  pub time : 0 < m.time
  pub has : HasMultiple m

pub near_is : (t : Tree) (m : Measures) → near_measures t ≡ Ok m → IsNear t m
near_is t m is =
    let rates = numbered_rates t.lines in
    let parts = unless_fault (first_some (other_faults t.lines)) (measures_of_rates rates) m is in
    let found = measured rates m parts.1 in
    let some = positive rates m found in
    record {
      faultless = all_none (other_faults t.lines) parts.0;
      fits = ap (fit m) (sym (numbers_are_rates t.lines)) ∙ found.fits;
      way = some.0;
      time = some.1;
      has = subst HasMultiple found.is (multiple_at found.exponent found.range);
    }

pub near_measure : (t : Tree) (m : Measures) → near_measures t ≡ Ok m → measure_of (near_tariff m t).lines ≤ 90000000
near_measure t m is = let near = near_is t m is in small_measure m t.lines near.has near.way near.time

not_told : (line : Option ℕ) → fault_at AmountTooBig line ≡ None → line ≡ None
not_told None is = refl
not_told (Some n) is = absurd cc

not_zero : (line : Option ℕ) → fault_at MeasureZero line ≡ None → line ≡ None
not_zero None is = refl
not_zero (Some n) is = absurd cc

-- the faults of cuts and cells, those in front of them, and the first ones
none_from_12 : (t : Tree) (m : Measures) → IsNear t m
    → HasNone (drop 12 (faults_of (with_rates (near_rate m) t.lines)))
none_from_12 t m near zero d within =
    let f = near_rate m in
    let ls = t.lines in
    let ms = with_rates f ls in
    let alike = copies_alike f ls in
    rw (alike_count f Same ls ms alike MonthDay) (near.faultless 11 None (omega arith))
none_from_12 t m near (suc zero) d within =
    let f = near_rate m in
    let ls = t.lines in
    let ms = with_rates f ls in
    let alike = copies_alike f ls in
    rw (alike_count f Same ls ms alike Minute) (near.faultless 12 None (omega arith))
none_from_12 t m near (suc (suc zero)) d within =
    let f = near_rate m in
    let ls = t.lines in
    let ms = with_rates f ls in
    let alike = copies_alike f ls in
    rw (alike_count f Same ls ms alike Distance) (near.faultless 13 None (omega arith))
none_from_12 t m near (suc (suc (suc zero))) d within =
    let f = near_rate m in
    let ls = t.lines in
    let ms = with_rates f ls in
    let alike = copies_alike f ls in
    rw (alike_count f Same ls ms alike Time) (near.faultless 14 None (omega arith))
none_from_12 t m near (suc (suc (suc (suc zero)))) d within =
    let f = near_rate m in
    let ls = t.lines in
    let ms = with_rates f ls in
    let alike = copies_alike f ls in
    rw (alike_cells f Same ls ms alike) (near.faultless 15 None (omega arith))
none_from_12 t m near (suc (suc (suc (suc (suc k))))) d within = absurd (omega (arith, within))

none_from_6 : (t : Tree) (m : Measures) → IsNear t m
    → HasNone (drop 6 (faults_of (with_rates (near_rate m) t.lines)))
none_from_6 t m near zero d within =
    let f = near_rate m in
    let ls = t.lines in
    let ms = with_rates f ls in
    let alike = copies_alike f ls in
    rw (alike_initial f Same ls ms alike) (near.faultless 6 None (omega arith))
none_from_6 t m near (suc zero) d within =
    let f = near_rate m in
    let ls = t.lines in
    let ms = with_rates f ls in
    let alike = copies_alike f ls in
    rw (told_same f _ _ (alike_after f Same ls ms alike)) (near.faultless 7 None (omega arith))
none_from_6 t m near (suc (suc zero)) d within =
    let f = near_rate m in
    let ls = t.lines in
    let ms = with_rates f ls in
    let alike = copies_alike f ls in
    rw (told_same f _ _ (alike_date f Same ls ms alike)) (near.faultless 8 None (omega arith))
none_from_6 t m near (suc (suc (suc zero))) d within =
    let told = not_told (first_line has_great_amount t.lines) (near.faultless 9 None (omega arith)) in
    rw (no_great m [] [] t.lines near.fits told) refl
none_from_6 t m near (suc (suc (suc (suc zero)))) d within =
    let told = not_zero (first_line has_measure_zero t.lines) (near.faultless 10 None (omega arith)) in
    rw (no_nothing m [] [] t.lines near.way near.time told) refl
none_from_6 t m near (suc (suc (suc (suc (suc zero))))) d within =
    let lines = with_rates (near_rate m) t.lines in
    let upto = small_measure m t.lines near.has near.way near.time in
    let few : nat_lt (10 ^ 18) (measure_of lines) ≡ false = le-ltb _ _ (omega (arith, upto)) in
    rw few refl
none_from_6 t m near (suc (suc (suc (suc (suc (suc k)))))) d within =
    none_from_12 t m near k d (omega (arith, within))

none_of_faults : (t : Tree) (m : Measures) → IsNear t m → HasNone (faults_of (with_rates (near_rate m) t.lines))
none_of_faults t m near zero d within =
    let f = near_rate m in
    let ls = t.lines in
    let ms = with_rates f ls in
    let alike = copies_alike f ls in
    rw (alike_step f Same ls ms alike) (near.faultless 0 None (omega arith))
none_of_faults t m near (suc zero) d within =
    let f = near_rate m in
    let ls = t.lines in
    let ms = with_rates f ls in
    let alike = copies_alike f ls in
    rw (alike_step f Same ls ms alike) (near.faultless 1 None (omega arith))
none_of_faults t m near (suc (suc zero)) d within =
    let f = near_rate m in
    let ls = t.lines in
    let ms = with_rates f ls in
    let alike = copies_alike f ls in
    rw (told_same f _ _ (alike_duplicate f Same ls ms alike)) (near.faultless 2 None (omega arith))
none_of_faults t m near (suc (suc (suc zero))) d within =
    let f = near_rate m in
    let ls = t.lines in
    let ms = with_rates f ls in
    let alike = copies_alike f ls in
    rw (told_same f _ _ (alike_too_many f Same ls ms alike)) (near.faultless 3 None (omega arith))
none_of_faults t m near (suc (suc (suc (suc zero)))) d within =
    let f = near_rate m in
    let ls = t.lines in
    let ms = with_rates f ls in
    let alike = copies_alike f ls in
    rw (told_same f _ _ (alike_unknown f Same ls ms alike)) (near.faultless 4 None (omega arith))
none_of_faults t m near (suc (suc (suc (suc (suc zero))))) d within =
    let f = near_rate m in
    let ls = t.lines in
    let ms = with_rates f ls in
    let alike = copies_alike f ls in
    rw (alike_rate f Same ls ms alike) (near.faultless 5 None (omega arith))
none_of_faults t m near (suc (suc (suc (suc (suc (suc k)))))) d within =
    none_from_6 t m near k d (omega (arith, within))

pub near_sound : (t : Tree) (m : Measures) → near_measures t ≡ Ok m → IsSound (near_tariff m t)
near_sound t m is = none_of_faults t m (near_is t m is)
