-- A decimal text is read by its form.
use Rattle.std.{specs.Char.{digit_value}, proofs.{Math.Seq.{take-length}, lemmas.Bool.Decides.{eqb_tells}}}
use Rattle.std.{specs.Str.Parse.{AllDigits, IsNumeral}, proofs.lemmas.Bool.{cases_lt, le-ltb, lt-ltb, ne_eqb}}
use Rattle.std.proofs.Common.{[], ℕ, ◌++◌, ◌+◌, ◌<◌, ◌^◌, ◌↔◌, ◌∙◌, ◌∷◌, ◌≡◌, ◌≢◌, ◌≤◌, ◌⊎◌, Err, List, Ok, Result, ap}
use Rattle.std.proofs.Common.{append_assoc, arith, drop, eqb, false, inl, inr, length, length-append, refl, subst, sym}
use Rattle.std.proofs.{Common.{take, true}, lemmas.List.{append-nil, take-append-drop, take-take, take_at}}
use Rattle.taxi_units.specs.Common.{BadDigit, Empty, NumberFault, TooBig, TooManyDecimals}
use Rattle.taxi_units.specs.Decimal.{BreaksAt, EndsEarly, HasDecimalForm, IsBegun, IsDecimal, IsReadAs, IsWrongAt}
use Rattle.taxi_units.specs.Number.{NoDigitFirst, counted_parts_read, decimal_read, parts_read, units_of, units_read}
use Rattle.taxi_units.proofs.{Digits.{too_big}, Front.{Front, front, parts_front, read_front, read_none, read_other}}

-- digits, and what stands where they end, are found in one way
split_same : (xs ys us vs : List ℕ) (c d : ℕ) → AllDigits 10 xs → 10 ≤ digit_value c → AllDigits 10 us
    → 10 ≤ digit_value d → xs ++ c ∷ ys ≡ us ++ d ∷ vs → (xs ≡ us) × (c ≡ d) × (ys ≡ vs)
split_same [] ys [] vs c d hx hc ha hd e = (refl, cc, cc)
split_same [] ys (u ∷ us) vs c d hx hc ha hd e =
    let same : c ≡ u = cc in
    absurd (omega (arith, ha.0, subst (λ (n : ℕ). 10 ≤ digit_value n) same hc))
split_same (x ∷ xs) ys [] vs c d hx hc ha hd e =
    let same : x ≡ d = cc in
    absurd (omega (arith, hx.0, subst (λ (n : ℕ). 10 ≤ digit_value n) (sym same) hd))
split_same (x ∷ xs) ys (u ∷ us) vs c d hx hc ha hd e =
    let first : x ≡ u = cc in
    let rest : xs ++ c ∷ ys ≡ us ++ d ∷ vs = cc in
    let same = split_same xs ys us vs c d hx.1 hc ha.1 hd rest in
    (cc, same.1, same.2)

-- no text of digits has another byte
no_other : (xs ys : List ℕ) (c : ℕ) → 10 ≤ digit_value c → AllDigits 10 (xs ++ c ∷ ys) → ⊥
no_other [] ys c other all = omega (arith, all.0)
no_other (x ∷ xs) ys c other all = no_other xs ys c other all.1

digits_append : (xs ys : List ℕ) → AllDigits 10 xs → AllDigits 10 ys → AllDigits 10 (xs ++ ys)
digits_append [] ys hx hy = hy
digits_append (x ∷ xs) ys hx hy = (hx.0, digits_append xs ys hx.1 hy)

-- what stands where the first digits of a decimal text end is a point, and digits follow it
after_digits : (xs cs whole parts : List ℕ) (c : ℕ) → AllDigits 10 xs → 10 ≤ digit_value c
    → IsDecimal (xs ++ c ∷ cs) whole parts → (0 < length xs) × (c ≡ 46) × IsNumeral 10 cs
after_digits xs cs whole [] c all other d = absurd (no_other xs cs c other (subst (AllDigits 10) (sym d.1) d.0.1))
after_digits xs cs whole (p ∷ ps) c all other d =
    let same = split_same xs cs whole (p ∷ ps) c 46 all other d.0.1 (omega arith) d.2 in (
      subst (λ (w : List ℕ). 0 < length w) (sym same.0) d.0.0,
      same.1,
      subst (IsNumeral 10) (sym same.2) (omega arith, d.1),
    )

-- digits with a point and digits are a decimal text
pub with_point : (whole parts : List ℕ) → IsNumeral 10 whole → IsNumeral 10 parts
    → IsDecimal (whole ++ 46 ∷ parts) whole parts
with_point whole [] hw hp = absurd (omega (arith, hp.0))
with_point whole (p ∷ ps) hw hp = (hw, hp.1, refl)

-- a beginning of a beginning
begun_front : (xs ys : List ℕ) → IsBegun (xs ++ ys) → IsBegun xs
begun_front xs ys b = (ys ++ b.0, subst HasDecimalForm (append_assoc xs ys b.0) b.1)

begun_take : (text : List ℕ) (k : ℕ) → IsBegun text → IsBegun (take k text)
begun_take text k b = begun_front (take k text) (drop k text) (subst IsBegun (sym (take-append-drop k text)) b)

begun_less : (text : List ℕ) (k n : ℕ) → k ≤ n → IsBegun (take n text) → IsBegun (take k text)
begun_less text k n h b = subst IsBegun (take-take k n text h) (begun_take (take n text) k b)

decimal_begun : (text : List ℕ) → HasDecimalForm text → IsBegun text
decimal_begun text d = ([], subst HasDecimalForm (sym (append-nil text)) d)

-- a decimal text breaks nowhere
unbroken : (text : List ℕ) (place : ℕ) → HasDecimalForm text → EndsEarly text place ⊎ IsWrongAt text place → ⊥
unbroken text place d (inl early) = early.1 d
unbroken text place d (inr wrong) = wrong.1 (begun_take text (place + 1) (decimal_begun text d))

within : (text : List ℕ) (place : ℕ) → EndsEarly text place ⊎ IsWrongAt text place → place ≤ length text
within text place (inl early) = omega arith
within text place (inr wrong) = omega arith

-- what comes after the first broken place begins no decimal text
no_later : (text : List ℕ) (p q : ℕ) → p < q → q ≤ length text → EndsEarly text p ⊎ IsWrongAt text p
    → IsBegun (take q text) → ⊥
no_later text p q h most (inl early) b = omega arith
no_later text p q h most (inr wrong) b = wrong.1 (begun_less text (p + 1) q (omega arith) b)

-- a text breaks at one place
one_place : (text : List ℕ) (p q : ℕ) → BreaksAt text p → BreaksAt text q → (p < q) ⊎ (q ≤ p)
    → (q < p) ⊎ (p ≤ q) → p ≡ q
one_place text p q a b (inl less) more = absurd (no_later text p q less (within text q b.1) a.1 b.0)
one_place text p q a b (inr least) (inl more) = absurd (no_later text q p more (within text p a.1) b.1 a.0)
one_place text p q a b (inr least) (inr most) = omega arith

-- beginnings of decimal texts
begun_none : IsBegun []
begun_none = (48 ∷ [], (48 ∷ [], [], ((omega arith, (omega arith, tt)), refl)))

begun_whole : (whole : List ℕ) → IsNumeral 10 whole → IsBegun whole
begun_whole whole h = ([], (whole, [], (h, append-nil whole)))

begun_point : (whole parts : List ℕ) → IsNumeral 10 whole → AllDigits 10 parts → IsBegun (whole ++ 46 ∷ parts)
begun_point whole parts h all =
    let more : IsNumeral 10 (parts ++ 48 ∷ []) =
    (omega (arith, length-append parts (48 ∷ [])), digits_append parts (48 ∷ []) all (omega arith, tt)) in (
      48 ∷ [],
      (
        whole,
        parts ++ 48 ∷ [],
        subst (λ (text : List ℕ). IsDecimal text whole (parts ++ 48 ∷ []))
            (sym (append_assoc whole (46 ∷ parts) (48 ∷ []))) (with_point whole (parts ++ 48 ∷ []) h more),
      ),
    )

-- and no beginnings
not_begun_first : (c : ℕ) → 10 ≤ digit_value c → IsBegun (c ∷ []) → ⊥
not_begun_first c other b = omega (arith, (after_digits [] b.0 b.1.0 b.1.1 c tt other b.1.2).0)

not_begun_other : (whole : List ℕ) (c : ℕ) → AllDigits 10 whole → 10 ≤ digit_value c → c ≢ 46
    → IsBegun (whole ++ c ∷ []) → ⊥
not_begun_other whole c all other no_point b =
    let form : IsDecimal (whole ++ c ∷ b.0) b.1.0 b.1.1 =
    subst (λ (text : List ℕ). IsDecimal text b.1.0 b.1.1) (append_assoc whole (c ∷ []) b.0) b.1.2 in
    no_point (after_digits whole b.0 b.1.0 b.1.1 c all other form).1

not_begun_parts : (whole parts : List ℕ) (c : ℕ) → AllDigits 10 whole → 10 ≤ digit_value c
    → IsBegun ((whole ++ 46 ∷ parts) ++ c ∷ []) → ⊥
not_begun_parts whole parts c all other b =
    let join : ((whole ++ 46 ∷ parts) ++ c ∷ []) ++ b.0 ≡ whole ++ 46 ∷ (parts ++ c ∷ b.0) = simp append_assoc in
    let form : IsDecimal (whole ++ 46 ∷ (parts ++ c ∷ b.0)) b.1.0 b.1.1 =
    subst (λ (text : List ℕ). IsDecimal text b.1.0 b.1.1) join b.1.2 in
    no_other parts b.0 c other (after_digits whole (parts ++ c ∷ b.0) b.1.0 b.1.1 46 all (omega arith) form).2.1

no_form_point : (whole : List ℕ) → AllDigits 10 whole → HasDecimalForm (whole ++ 46 ∷ []) → ⊥
no_form_point whole all d = omega (arith, (after_digits whole [] d.0 d.1 46 all (omega arith) d.2).2.0)

-- where a text breaks
breaks_early : (text : List ℕ) (place : ℕ) → place ≡ length text → IsBegun text → (HasDecimalForm text → ⊥)
    → BreaksAt text place
breaks_early text place e b never =
    (subst IsBegun (sym (subst (λ (n : ℕ). take n text ≡ text) (sym e) (take-length text))) b, inl (e, never))

breaks_wrong : (before rest : List ℕ) (c place : ℕ) → place ≡ length before → IsBegun before
    → (IsBegun (before ++ c ∷ []) → ⊥) → BreaksAt (before ++ c ∷ rest) place
breaks_wrong before rest c place e b never =
    let first : take place (before ++ c ∷ rest) ≡ before = take_at before (c ∷ rest) place (sym e) in
    let long : length (before ++ c ∷ []) ≡ place + 1 = omega (arith, length-append before (c ∷ [])) in
    let more : take (place + 1) (before ++ c ∷ rest) ≡ before ++ c ∷ [] = ap (take (place + 1))
    (sym (append_assoc before (c ∷ []) rest)) ∙ take_at (before ++ c ∷ []) rest (place + 1) long in (
      subst IsBegun (sym first) b,
      inr (omega (arith, length-append before (c ∷ rest)), λ h. never (subst IsBegun more h)),
    )

-- the answers to a text of good form
many_decimals : (decimals : ℕ) (whole parts : List ℕ) → decimals < length parts
    → units_read decimals whole parts ≡ Err (TooManyDecimals (length whole + 1 + decimals))
many_decimals decimals whole parts h = rw (lt-ltb decimals (length parts) h) refl

pub units_good : (decimals : ℕ) (whole parts : List ℕ) → length parts ≤ decimals
    → units_of decimals whole parts ≤ 10 ^ 12 → units_read decimals whole parts ≡ Ok (units_of decimals whole parts)
units_good decimals whole parts few small =
    rw (le-ltb decimals (length parts) few, le-ltb (10 ^ 12) (units_of decimals whole parts) small) refl

units_sound : (decimals : ℕ) (text whole parts : List ℕ) → IsDecimal text whole parts → (decimals < length parts)
    ⊎ (length parts ≤ decimals) → (10 ^ 12 < units_of decimals whole parts) ⊎ (units_of decimals whole parts ≤ 10 ^ 12)
    → IsReadAs decimals text (units_read decimals whole parts)
units_sound decimals text whole parts d (inl many) size =
    subst (IsReadAs decimals text) (sym (many_decimals decimals whole parts many)) (whole, parts, d, many, refl)
units_sound decimals text whole parts d (inr few) (inl large) =
    subst (IsReadAs decimals text) (sym (too_big decimals whole parts few large)) (whole, parts, d, few, large)
units_sound decimals text whole parts d (inr few) (inr small) =
    subst (IsReadAs decimals text) (sym (units_good decimals whole parts few small)) (whole, parts, d, few, refl, small)

no_whole : (text parts : List ℕ) → IsDecimal text [] parts → ⊥
no_whole text [] d = omega (arith, d.0.0)
no_whole text (p ∷ ps) d = omega (arith, d.0.0)

-- what stands after the point
parts_good : (decimals : ℕ) (whole parts : List ℕ) → 0 < length parts
    → counted_parts_read decimals whole parts (length parts) ≡ units_read decimals whole parts
parts_good decimals whole parts some =
    let not_none : eqb (length parts) 0 ≡ false = ne_eqb _ _ (λ e. omega arith) in
    rw (not_none, le-ltb (length parts) (length parts) (omega arith)) refl

parts_short : (decimals : ℕ) (whole parts : List ℕ) (count : ℕ) → count < length parts
    → counted_parts_read decimals whole parts count ≡ Err (BadDigit (length whole + 1 + count))
parts_short decimals whole parts count h = rw (lt-ltb count (length parts) h) refl

-- the reader, at a decimal text
pub read_form : (decimals : ℕ) (text whole parts : List ℕ) → IsDecimal text whole parts
    → decimal_read decimals text ≡ units_read decimals whole parts
read_form decimals text [] parts d = absurd (no_whole text parts d)
read_form decimals text (c ∷ cs) [] d =
    ap (decimal_read decimals) (d.1 ∙ sym (append-nil (c ∷ cs))) ∙ read_front decimals c cs [] d.0.1 tt
read_form decimals text (c ∷ cs) (p ∷ ps) d =
    let counted : parts_read decimals (c ∷ cs) (p ∷ ps) ≡ counted_parts_read decimals (c ∷ cs) (p ∷ ps)
    (length (p ∷ ps)) = subst (λ (rest : List ℕ). parts_read decimals (c ∷ cs) rest ≡ counted_parts_read decimals
    (c ∷ cs) rest (length (p ∷ ps))) (append-nil (p ∷ ps)) (parts_front decimals (c ∷ cs) (p ∷ ps) [] d.1 tt) in
    ap (decimal_read decimals) d.2 ∙ (read_front decimals c cs (46 ∷ p ∷ ps) d.0.1 (omega arith)
    ∙ (counted ∙ parts_good decimals (c ∷ cs) (p ∷ ps) (omega arith)))

decimal_sound : (decimals : ℕ) (text whole parts : List ℕ) → IsDecimal text whole parts
    → IsReadAs decimals text (decimal_read decimals text)
decimal_sound decimals text whole parts d = subst (IsReadAs decimals text) (sym (read_form decimals text whole parts d))
    (units_sound decimals text whole parts d (cases_lt _ _) (cases_lt _ _))

-- and at a text that breaks at a place
broken_sound : (decimals place c : ℕ) (cs : List ℕ) → decimal_read decimals (c ∷ cs) ≡ Err (BadDigit place)
    → BreaksAt (c ∷ cs) place → IsReadAs decimals (c ∷ cs) (decimal_read decimals (c ∷ cs))
broken_sound decimals place c cs e b = subst (IsReadAs decimals (c ∷ cs)) (sym e) (λ (none : c ∷ cs ≡ []). cc, b)

-- a text of digits, a point, digits and something else
sound_point : (decimals c : ℕ) (cs digits rest : List ℕ) → AllDigits 10 (c ∷ cs) → AllDigits 10 digits
    → NoDigitFirst rest
    → IsReadAs decimals (c ∷ (cs ++ 46 ∷ (digits ++ rest))) (decimal_read decimals (c ∷ (cs ++ 46 ∷ (digits ++ rest))))
sound_point decimals c cs [] [] hw hd stops =
    let whole : IsNumeral 10 (c ∷ cs) = (omega arith, hw) in
    let place = length (c ∷ cs) + 1 + 0 in
    let read : decimal_read decimals (c ∷ (cs ++ 46 ∷ [])) ≡ Err (BadDigit place) =
    read_front decimals c cs (46 ∷ []) hw (omega arith) in
    broken_sound decimals place c (cs ++ 46 ∷ []) read (breaks_early (c ∷ (cs ++ 46 ∷ [])) place
    (omega (arith, length-append cs (46 ∷ []))) (begun_point (c ∷ cs) [] whole tt) (no_form_point (c ∷ cs) hw))
sound_point decimals c cs (d ∷ ds) [] hw hd stops =
    let whole : IsNumeral 10 (c ∷ cs) = (omega arith, hw) in
    let form : IsDecimal (c ∷ (cs ++ 46 ∷ (d ∷ ds))) (c ∷ cs) (d ∷ ds) = (whole, hd, refl) in
    subst (λ (rest : List ℕ). IsReadAs decimals (c ∷ (cs ++ 46 ∷ rest)) (decimal_read decimals (c ∷ (cs ++ 46 ∷ rest))))
    (sym (append-nil (d ∷ ds))) (decimal_sound decimals (c ∷ (cs ++ 46 ∷ (d ∷ ds))) (c ∷ cs) (d ∷ ds) form)
sound_point decimals c cs digits (x ∷ xs) hw hd stops =
    let whole : IsNumeral 10 (c ∷ cs) = (omega arith, hw) in
    let place = length (c ∷ cs) + 1 + length digits in
    let long : length digits < length (digits ++ x ∷ xs) = omega (arith, length-append digits (x ∷ xs)) in
    let read : decimal_read decimals (c ∷ (cs ++ 46 ∷ (digits ++ x ∷ xs))) ≡ Err (BadDigit place) =
    read_front decimals c cs (46 ∷ (digits ++ x ∷ xs)) hw (omega arith) ∙ (parts_front decimals (c ∷ cs) digits
    (x ∷ xs) hd stops ∙ parts_short decimals (c ∷ cs) (digits ++ x ∷ xs) (length digits) long) in
    let join : (c ∷ (cs ++ 46 ∷ digits)) ++ x ∷ xs ≡ c ∷ (cs ++ 46 ∷ (digits ++ x ∷ xs)) =
    append_assoc (c ∷ cs) (46 ∷ digits) (x ∷ xs) in
    let at : place ≡ length (c ∷ (cs ++ 46 ∷ digits)) = omega (arith, length-append cs (46 ∷ digits)) in
    broken_sound decimals place c (cs ++ 46 ∷ (digits ++ x ∷ xs)) read
    (subst (λ (text : List ℕ). BreaksAt text place) join (breaks_wrong (c ∷ (cs ++ 46 ∷ digits)) xs x place at
    (begun_point (c ∷ cs) digits whole hd) (not_begun_parts (c ∷ cs) digits x hw stops)))

sound_after : (decimals c : ℕ) (cs xs : List ℕ) (x : ℕ) → AllDigits 10 (c ∷ cs) → 10 ≤ digit_value x
    → ((eqb x 46 ≡ true) × (x ≡ 46)) ⊎ ((eqb x 46 ≡ false) × (x ≢ 46)) → Front xs
    → IsReadAs decimals (c ∷ (cs ++ x ∷ xs)) (decimal_read decimals (c ∷ (cs ++ x ∷ xs)))
sound_after decimals c cs xs x hw other (inl point) f =
    subst (λ (y : ℕ). IsReadAs decimals (c ∷ (cs ++ y ∷ xs)) (decimal_read decimals (c ∷ (cs ++ y ∷ xs)))) (sym point.1)
    (subst (λ (rest : List ℕ). IsReadAs decimals (c ∷ (cs ++ 46 ∷ rest)) (decimal_read decimals
    (c ∷ (cs ++ 46 ∷ rest)))) (sym f.text_is) (sound_point decimals c cs f.digits f.rest hw f.all f.stops))
sound_after decimals c cs xs x hw other (inr no_point) f =
    let whole : IsNumeral 10 (c ∷ cs) = (omega arith, hw) in
    let read : decimal_read decimals (c ∷ (cs ++ x ∷ xs)) ≡ Err (BadDigit (length (c ∷ cs))) =
    read_front decimals c cs (x ∷ xs) hw other ∙ read_other decimals x (c ∷ cs) xs no_point.1 in
    broken_sound decimals (length (c ∷ cs)) c (cs ++ x ∷ xs) read (breaks_wrong (c ∷ cs) xs x (length (c ∷ cs)) refl
    (begun_whole (c ∷ cs) whole) (not_begun_other (c ∷ cs) x hw other no_point.1))

sound_front : (decimals : ℕ) (digits rest : List ℕ) → AllDigits 10 digits → NoDigitFirst rest
    → IsReadAs decimals (digits ++ rest) (decimal_read decimals (digits ++ rest))
sound_front decimals [] [] all stops = refl
sound_front decimals [] (x ∷ xs) all stops = broken_sound decimals 0 x xs (read_none decimals x xs stops)
    (breaks_wrong [] xs x 0 refl begun_none (not_begun_first x stops))
sound_front decimals (c ∷ cs) [] all stops =
    decimal_sound decimals (c ∷ (cs ++ [])) (c ∷ cs) [] ((omega arith, all), append-nil (c ∷ cs))
sound_front decimals (c ∷ cs) (x ∷ xs) all stops = sound_after decimals c cs xs x all stops (eqb_tells x 46) (front xs)

sound : (decimals : ℕ) (text : List ℕ) → IsReadAs decimals text (decimal_read decimals text)
sound decimals text =
    let f = front text in
    subst (λ (t : List ℕ). IsReadAs decimals t (decimal_read decimals t)) (sym f.text_is)
    (sound_front decimals f.digits f.rest f.all f.stops)

-- a text that breaks is answered by the place
bad_digit : (decimals place : ℕ) (text : List ℕ) (answer : Result ℕ NumberFault) → text ≢ [] → BreaksAt text place
    → IsReadAs decimals text answer → answer ≡ Err (BadDigit place)
bad_digit decimals place text (Err Empty) some b h = absurd (some h)
bad_digit decimals place text (Err (BadDigit other)) some b h =
    ap (λ (p : ℕ). Err (BadDigit p)) (one_place text other place h.1 b (cases_lt other place) (cases_lt place other))
bad_digit decimals place text (Err (TooManyDecimals other)) some b h = absurd (unbroken text place (h.0, h.1, h.2) b.1)
bad_digit decimals place text (Err TooBig) some b h = absurd (unbroken text place (h.0, h.1, h.2) b.1)
bad_digit decimals place text (Ok units) some b h = absurd (unbroken text place (h.0, h.1, h.2) b.1)

complete : (decimals : ℕ) (text : List ℕ) (answer : Result ℕ NumberFault) → IsReadAs decimals text answer
    → decimal_read decimals text ≡ answer
complete decimals text (Err Empty) h = ap (decimal_read decimals) h
complete decimals text (Err (BadDigit place)) h =
    bad_digit decimals place text (decimal_read decimals text) h.0 h.1 (sound decimals text)
complete decimals text (Err (TooManyDecimals place)) h = read_form decimals text h.0 h.1 h.2
    ∙ (many_decimals decimals h.0 h.1 h.3 ∙ ap (λ (p : ℕ). Err (TooManyDecimals p)) (sym h.4))
complete decimals text (Err TooBig) h = read_form decimals text h.0 h.1 h.2 ∙ too_big decimals h.0 h.1 h.3 h.4
complete decimals text (Ok units) h =
    read_form decimals text h.0 h.1 h.2 ∙ (units_good decimals h.0 h.1 h.3 (omega (arith, h.4, h.5)) ∙ ap Ok (sym h.4))

-- the answer to a text is the one that its form has
pub decimals_are_read_by_their_form : (decimals : ℕ) (text : List ℕ) (answer : Result ℕ NumberFault)
    → (decimal_read decimals text ≡ answer) ↔ IsReadAs decimals text answer
decimals_are_read_by_their_form decimals text answer =
    (λ e. subst (IsReadAs decimals text) e (sound decimals text), complete decimals text answer)
