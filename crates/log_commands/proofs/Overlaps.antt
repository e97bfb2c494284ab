-- No receipt lies in another's text with more behind it: only the last line of a receipt is that of its end.
use Rattle.std.{specs.Char.{digit_value}, proofs.lemmas.{Bool.{and_parts, eq-eqb}, List.Elements.{recursion_from_All}}}
use Rattle.std.specs.{List.{AllByRecursion}, Prelude.{codes}, Str.Parse.{AllDigits}}
use Rattle.std.proofs.Common.{[], ℕ, ℤ, ◌&&◌, ◌++◌, ◌<◌, ◌==◌, ◌∙◌, ◌∷◌, ◌≡◌, ◌≢◌, Bool, List, ap, append_assoc, arith}
use Rattle.std.proofs.Common.{false, inl, inr, length, length-append, not, refl, subst, sym, true}
use Rattle.{taxi_units.specs.Decimal.{IsDecimal}, seal_record.specs.Ranges.{IsTaxi}}
use Rattle.taxi_units.specs.{Identifier.{IsIdentifierCharacter}, Written.{IsAmountText, IsNumberText, IsPaddedText}}
use Rattle.taxi_units.specs.declared.receipt.{Kind.{Kind, TheVariants.{Aborted, Closed, Expired, Roam}}, Stamp.{Stamp}}
use Rattle.receipt_text.specs.{AmountLines.{optional_lines, total_of}, Grammar.{IsTimeText, Line}}
use Rattle.receipt_text.specs.Grammar.{AreAmounts, AreReceiptLines, AreTripLines, HasOptional, IsCalculation}
use Rattle.receipt_text.specs.Grammar.{IsDateText, IsDayText, IsDistance, IsHexDigit, IsHexText, IsKind, IsStampText}
use Rattle.log_commands.specs.{Common.{Part, Receipt}, Record.{IsRecord, Record}}

-- ---- values have no line feed

abbrev Plain : List ℕ → Type 0
Plain [] = Unit {0}
Plain (c ∷ cs) = (c ≢ 10) × Plain cs

plain_append : (a b : List ℕ) → Plain a → Plain b → Plain (a ++ b)
plain_append [] b h k = k
plain_append (c ∷ cs) b h k = (h.0, plain_append cs b h.1 k)

-- words that begin with no E and have no line feed
abbrev is_plain : List ℕ → Bool
is_plain [] = true
is_plain (c ∷ cs) = not (c == 10) && is_plain cs

abbrev is_word : List ℕ → Bool
is_word [] = false
is_word (c ∷ cs) = not (c == 69) && is_plain (c ∷ cs)

abbrev are_words : List (List ℕ × ℕ) → Bool
are_words [] = true
are_words ((word, amount) ∷ more) = is_word word && are_words more

not_same : (c d : ℕ) → not (c == d) ≡ true → c ≢ d
not_same c d h e = let same = eq-eqb c d e in absurd cc

plain_is : (text : List ℕ) → is_plain text ≡ true → Plain text
plain_is [] h = tt
plain_is (c ∷ cs) h = let parts = and_parts _ _ h in (not_same c 10 parts.0, plain_is cs parts.1)

word_is : (c : ℕ) (cs : List ℕ) → is_word (c ∷ cs) ≡ true → (c ≢ 69) × Plain (c ∷ cs)
word_is c cs h = let parts = and_parts _ _ h in (not_same c 69 parts.0, plain_is (c ∷ cs) parts.1)

digit_plain : (c : ℕ) → digit_value c < 10 → c ≢ 10
digit_plain c small e = let value : digit_value c ≡ 36 = ap digit_value e in omega (arith, small, value)

digits_plain : (text : List ℕ) → AllDigits 10 text → Plain text
digits_plain [] h = tt
digits_plain (c ∷ cs) h = (digit_plain c h.0, digits_plain cs h.1)

number_plain : (value : ℕ) (text : List ℕ) → IsNumberText value text → Plain text
number_plain value text h = digits_plain text h.digits.1

padded_plain : (width value : ℕ) (text : List ℕ) → IsPaddedText width value text → Plain text
padded_plain width value text h = digits_plain text h.digits.1

decimal_plain : (text whole parts : List ℕ) → IsDecimal text whole parts → Plain text
decimal_plain text whole [] h = subst Plain (sym h.1) (digits_plain whole h.0.1)
decimal_plain text whole (c ∷ cs) h = subst Plain (sym h.2)
    (plain_append whole (46 ∷ c ∷ cs) (digits_plain whole h.0.1) (omega arith, digits_plain (c ∷ cs) h.1))

amount_plain : (decimals units : ℕ) (text : List ℕ) → IsAmountText decimals units text → Plain text
amount_plain decimals units text h = decimal_plain text h.whole h.parts h.form

kind_plain : (kind : Kind) (text : List ℕ) → IsKind kind text → Plain text
kind_plain Closed text h = subst Plain (sym h) (plain_is (codes "CLOSED") refl)
kind_plain Aborted text h = subst Plain (sym h) (plain_is (codes "ABORTED") refl)
kind_plain Expired text h = subst Plain (sym h) (plain_is (codes "EXPIRED") refl)
kind_plain Roam text h = absurd h

character_plain : (c : ℕ) → IsIdentifierCharacter c → c ≢ 10
character_plain c h e = omega (arith, h, e)

characters_plain : (text : List ℕ) → AllByRecursion IsIdentifierCharacter text → Plain text
characters_plain [] h = tt
characters_plain (c ∷ cs) h = (character_plain c h.0, characters_plain cs h.1)

taxi_plain : (text : List ℕ) → IsTaxi text → Plain text
taxi_plain text h = characters_plain text (recursion_from_All IsIdentifierCharacter text h.characters)

date_plain : (year month date : ℕ) (text : List ℕ) → IsDateText year month date text → Plain text
date_plain year month date text h =
    let dates = plain_append (codes "-") h.dates (omega arith, tt) (padded_plain 2 date h.dates h.dates_are) in
    let months = plain_append h.months (codes "-" ++ h.dates) (padded_plain 2 month h.months h.months_are) dates in
    subst Plain (sym h.text_is) (plain_append h.years _ (padded_plain 4 year h.years h.years_are)
    (plain_append (codes "-") _ (omega arith, tt) months))

time_plain : (second : ℕ) (text : List ℕ) → IsTimeText second text → Plain text
time_plain second text h =
    let seconds =
    plain_append (codes ":") h.seconds (omega arith, tt) (padded_plain 2 h.rest h.seconds h.seconds_are) in
    let minutes =
    plain_append h.minutes (codes ":" ++ h.seconds) (padded_plain 2 h.minute h.minutes h.minutes_are) seconds in
    subst Plain (sym h.text_is) (plain_append h.hours _ (padded_plain 2 h.hour h.hours h.hours_are)
    (plain_append (codes ":") _ (omega arith, tt) minutes))

day_plain : (day : ℤ) (text : List ℕ) → IsDayText day text → Plain text
day_plain day text h = date_plain h.year h.month h.date text h.text_is

stamp_plain : (stamp : Stamp) (text : List ℕ) → IsStampText stamp text → Plain text
stamp_plain stamp text h =
    subst Plain (sym h.text_is) (plain_append h.date _ (date_plain stamp.year stamp.month stamp.date h.date h.date_is)
    (plain_append (codes " ") h.time (omega arith, tt) (time_plain stamp.second h.time h.time_is)))

hex_plain : (value c : ℕ) → IsHexDigit value c → c ≢ 10
hex_plain value c h e = omega (arith, h, e)

digest_plain : (bytes text : List ℕ) → IsHexText bytes text → Plain text
digest_plain [] text h = subst Plain (sym h) tt
digest_plain (byte ∷ bytes) text (high, low, c, d, rest, text_is, byte_is, first, second, more) =
    subst Plain (sym text_is) (hex_plain high c first, (hex_plain low d second, digest_plain bytes rest more))

distance_plain : (millimetres : ℕ) (text : List ℕ) → IsDistance millimetres text → Plain text
distance_plain millimetres text h = subst Plain (sym h.text_is) (plain_append h.metres (codes " m")
    (amount_plain 3 millimetres h.metres h.metres_are) (omega arith, (omega arith, tt)))

calculation_plain : (receipt : Receipt) (text : List ℕ) → IsCalculation receipt text → Plain text
calculation_plain receipt text h =
    let step = plain_append (codes " x ") h.step (omega arith, (omega arith, (omega arith, tt)))
    (amount_plain receipt.decimals receipt.step h.step h.step_is) in
    let steps = plain_append h.steps (codes " x " ++ h.step) (number_plain receipt.steps h.steps h.steps_are) step in
    subst Plain (sym h.text_is) (plain_append h.initial _ (amount_plain receipt.decimals receipt.initial h.initial
    h.initial_is) (plain_append (codes " + ") _ (omega arith, (omega arith, (omega arith, tt))) steps))

-- ---- the last line alone is END

-- if a line END stands behind a line feed, nothing follows it
abbrev EndsOnce : List ℕ → Type 0
EndsOnce text = (a b : List ℕ) → 10 ∷ text ≡ a ++ 10 ∷ 69 ∷ 78 ∷ 68 ∷ 10 ∷ b → b ≡ []

none_left : (b : List ℕ) → length b ≡ 0 → b ≡ []
none_left [] e = refl
none_left (x ∷ xs) e = absurd (omega (arith, e))

last_once : (text : List ℕ) → text ≡ codes "END\n" → EndsOnce text
last_once text is a b e =
    none_left b (omega (arith, ap length e, ap length is, length-append a (10 ∷ 69 ∷ 78 ∷ 68 ∷ 10 ∷ b)))

-- what stands behind a line feed does not begin in a plain text
skip : (body rest a more : List ℕ) → Plain body → body ++ 10 ∷ rest ≡ a ++ 10 ∷ more
    → (b : List ℕ) × (10 ∷ rest ≡ b ++ 10 ∷ more)
skip [] rest a more plain e = (a, e)
skip (c ∷ cs) rest [] more plain e =
    let first : c ≡ 10 = cc in
    absurd (plain.0 first)
skip (c ∷ cs) rest (x ∷ a) more plain e =
    let tails : cs ++ 10 ∷ rest ≡ a ++ 10 ∷ more = cc in
    skip cs rest a more plain.1 tails

line_once : (c : ℕ) (cs value rest : List ℕ) → c ≢ 69 → Plain (c ∷ cs) → Plain value → EndsOnce rest
    → EndsOnce ((c ∷ cs) ++ (value ++ 10 ∷ rest))
line_once c cs value rest other word plain once [] b e =
    let first : c ≡ 69 = cc in
    absurd (other first)
line_once c cs value rest other word plain once (x ∷ a) b e =
    let tails : (c ∷ cs) ++ (value ++ 10 ∷ rest) ≡ a ++ 10 ∷ 69 ∷ 78 ∷ 68 ∷ 10 ∷ b = cc in
    let whole : ((c ∷ cs) ++ value) ++ 10 ∷ rest ≡ a ++ 10 ∷ 69 ∷ 78 ∷ 68 ∷ 10 ∷ b =
    append_assoc (c ∷ cs) value (10 ∷ rest) ∙ tails in
    let there =
    skip ((c ∷ cs) ++ value) rest a (69 ∷ 78 ∷ 68 ∷ 10 ∷ b) (plain_append (c ∷ cs) value word plain) whole in
    once there.0 b there.1

-- so it is with a text that ends with that line
pub record IsEnded (text : List ℕ) : Type 0 where
  pub front : List ℕ
  pub last : 10 ∷ text ≡ front ++ 10 ∷ codes "END\n"
  pub once : EndsOnce text

last_ended : (text : List ℕ) → text ≡ codes "END\n" → IsEnded text
last_ended text is = record { front = []; last = ap (λ (t : List ℕ). 10 ∷ t) is; once = last_once text is }

-- each text of a form ends so
abbrev Ends : (List ℕ → Type 0) → Type 0
Ends Form = (text : List ℕ) → Form text → IsEnded text

line_ended : (c : ℕ) (cs : List ℕ) (Value Rest : List ℕ → Type 0) → is_word (c ∷ cs) ≡ true
    → ((value : List ℕ) → Value value → Plain value) → Ends Rest → Ends (Line (c ∷ cs) Value Rest)
line_ended c cs Value Rest is plain ended text h =
    let word = word_is c cs is in
    let behind = ended h.rest h.rest_is in
    let body = (c ∷ cs) ++ h.value in
    record {
      front = 10 ∷ (body ++ behind.front);
      last = ap (λ (t : List ℕ). 10 ∷ t) (h.text_is ∙ (sym (append_assoc (c ∷ cs) h.value (10 ∷ h.rest))
          ∙ (ap (λ (t : List ℕ). body ++ t) behind.last ∙ sym (append_assoc body behind.front (10 ∷ codes "END\n")))));
      once = subst EndsOnce (sym h.text_is)
          (line_once c cs h.value h.rest word.0 word.1 (plain h.value h.value_is) behind.once);
    }

-- ---- the lines of a receipt, each of which begins with no E

module _ (r : Receipt) (p : Part) where
  amounts_ended : Ends (AreAmounts r)
  amounts_ended =
      line_ended 70 (codes "ARE ") _ _ refl (amount_plain r.decimals r.fare)
      (line_ended 83 (codes "UPPLEMENTS ") _ _ refl (amount_plain r.decimals r.supplements)
      (line_ended 84 (codes "OTAL ") _ _ refl (amount_plain r.decimals (total_of r)) last_ended))

  optional_ended : (lines : List (List ℕ × ℕ)) → are_words lines ≡ true → Ends (HasOptional r lines (AreAmounts r))
  optional_ended [] words text h = amounts_ended text h
  optional_ended (([], amount) ∷ more) words text h = absurd cc
  optional_ended ((c ∷ cs, amount) ∷ more) words text h =
      let first = and_parts (is_word (c ∷ cs)) (are_words more) words in
      elim h [
        | inl with ↦
            line_ended c cs _ _ first.0 (amount_plain r.decimals amount) (optional_ended more first.1) text with.1
        | inr without ↦ optional_ended more first.1 text without.1
      ]

  trip_ended : Ends (AreTripLines r)
  trip_ended =
      line_ended 83 (codes "TART ") _ _ refl (stamp_plain r.start)
      (line_ended 70 (codes "INISH ") _ _ refl (stamp_plain r.finish)
      (line_ended 80 (codes "OSITION ") _ _ refl (number_plain r.position)
      (line_ended 68 (codes "ISTANCE ") _ _ refl (distance_plain r.hired_mm)
      (line_ended 67 (codes "ALC ") _ _ refl (calculation_plain r) (optional_ended (optional_lines r) refl)))))

  -- the lines from that of the kind on
  abbrev AreKindLines : List ℕ → Type 0
  AreKindLines = Line (codes "KIND ") (IsKind r.kind) (Line (codes "TAXI ") (λ t. t ≡ p.taxi)
      (Line (codes "CONSTANT ") (IsNumberText p.constant) (Line (codes "SECURED ") (IsDayText p.secured)
      (Line (codes "TARIFF ") (IsHexText p.digest) (AreTripLines r)))))

  kind_ended : IsTaxi p.taxi → Ends AreKindLines
  kind_ended taxi =
      line_ended 75 (codes "IND ") _ _ refl (kind_plain r.kind)
      (line_ended 84 (codes "AXI ") _ _ refl (λ value is. subst Plain (sym is) (taxi_plain p.taxi taxi))
      (line_ended 67 (codes "ONSTANT ") _ _ refl (number_plain p.constant)
      (line_ended 83 (codes "ECURED ") _ _ refl (day_plain p.secured)
      (line_ended 84 (codes "ARIFF ") _ _ refl (digest_plain p.digest) trip_ended))))

  lines_ended : IsTaxi p.taxi → Ends (AreReceiptLines r p)
  lines_ended taxi = line_ended 82 (codes "ECEIPT ") _ _ refl (number_plain r.number) (kind_ended taxi)

-- a receipt's text has its last line at its end alone
record_ended : (it : Record) → IsRecord it → (front : List ℕ) × (it.text ≡ front ++ 10 ∷ codes "END\n")
record_ended it h =
    let lines = h.is.lines in
    let behind = kind_ended h.receipt h.part h.is.part_is.taxi lines.rest lines.rest_is in
    let body = codes "RECEIPT " ++ lines.value in (
      body ++ behind.front,
      lines.text_is ∙ (sym (append_assoc (codes "RECEIPT ") lines.value (10 ∷ lines.rest))
          ∙ (ap (λ (t : List ℕ). body ++ t) behind.last ∙ sym (append_assoc body behind.front (10 ∷ codes "END\n")))),
    )

-- no receipt lies in another's text with more behind it
pub none_within : (it other : Record) (before behind : List ℕ) → it.text ≡ before ++ (other.text ++ behind)
    → IsRecord it → IsRecord other → behind ≡ []
none_within it other before behind within h k =
    let once = (lines_ended h.receipt h.part h.is.part_is.taxi it.text h.is.lines).once in
    let last = record_ended other k in
    once (10 ∷ (before ++ last.0)) behind (ap (λ (t : List ℕ). 10 ∷ t) (within
    ∙ (ap (λ (t : List ℕ). before ++ (t ++ behind)) last.1
    ∙ (ap (λ (t : List ℕ). before ++ t) (append_assoc last.0 (10 ∷ codes "END\n") behind)
    ∙ sym (append_assoc before last.0 (10 ∷ (codes "END\n" ++ behind)))))))
