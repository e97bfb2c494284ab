-- The rows of a text, by the relation of csv and by its function.
use Rattle.std.{specs.Prelude.{◌&&◌, ◌==◌, if◌then◌else◌}, proofs.Common.{false, length, refl, subst, suc, true, zero}}
use Rattle.std.proofs.Common.{[], ℕ, ◌++◌, ◌+◌, ◌-◌, ◌<◌, ◌∙◌, ◌∷◌, ◌≡◌, ◌≤◌, Bool, List, None, Option, Some, ap, arith}
use Rattle.{std.proofs.lemmas.List.{append-nil}, csv.specs.declared.parser.{Action.{Action}, Terminator.{Terminator}}}
use Rattle.csv.specs.Machine.{Read, after_end, ends_at_end, ends_with, field_after, fields_after, in_field, is_byte}
use Rattle.csv.specs.{Machine.{is_end, next_record, start_field, start_record, step}, declared.parser.Config.{Config}}
use Rattle.csv.specs.{Reading.{AreRecords, Reached, records, records_from, records_next}, declared.parser.State.{State}}
use Rattle.csv.specs.declared.parser.Action.TheVariants as act
use Rattle.csv.specs.declared.parser.State.TheVariants as st
use Rattle.csv.specs.declared.parser.Terminator.TheVariants as term

-- ---- a byte that ends a row leaves a state between two rows

-- a state and an action: if the action ends a row, the state is between two rows
abbrev IsBetween : State × Action → Type 0
IsBetween next = is_end next.1 ≡ true → ends_at_end next.0 ≡ false

between-end : (t : Terminator) (c : ℕ) → ends_at_end (after_end t c) ≡ false
between-end term.CRLF c = by (c == 13)
  where
    by : (b : Bool) → ends_at_end (if b then st.AfterCr else st.StartRecord) ≡ false
    by true = refl
    by false = refl
between-end (term.Any t) c = refl

-- one of two
either : (b : Bool) (x y : State × Action) → IsBetween x → IsBetween y → IsBetween (if b then x else y)
either true x y f g = f
either false x y f g = g

between-in_field : (cfg : Config) (c : ℕ) → IsBetween (in_field cfg c)
between-in_field cfg c =
    either (c == cfg.delimiter) (st.StartField, act.EndField) (if ends_with cfg.terminator c
    then (after_end cfg.terminator c, act.EndRecord) else (st.InField, act.Copy)) (λ e. absurd cc)
    (either (ends_with cfg.terminator c) (after_end cfg.terminator c, act.EndRecord) (st.InField, act.Copy)
    (λ e. between-end cfg.terminator c) (λ e. absurd cc))

between-start_field : (cfg : Config) (c : ℕ) → IsBetween (start_field cfg c)
between-start_field cfg c = either (cfg.quoting && (c == cfg.quote)) (st.InQuoted, act.Skip) (in_field cfg c)
    (λ e. absurd cc) (between-in_field cfg c)

between-start_record : (cfg : Config) (c : ℕ) → IsBetween (start_record cfg c)
between-start_record cfg c =
    either (ends_with cfg.terminator c) (st.StartRecord, act.Skip)
    (if is_byte cfg.comment c then (st.InComment, act.Skip) else start_field cfg c) (λ e. absurd cc)
    (either (is_byte cfg.comment c) (st.InComment, act.Skip) (start_field cfg c) (λ e. absurd cc)
    (between-start_field cfg c))

between : (cfg : Config) (s : State) (c : ℕ) → IsBetween (step cfg s c)
between cfg st.StartRecord c = between-start_record cfg c
between cfg st.StartField c = between-start_field cfg c
between cfg st.InField c = between-in_field cfg c
between cfg st.InQuoted c =
    either (cfg.quoting && (c == cfg.quote)) (st.AfterQuote, act.Skip)
    (if cfg.quoting && is_byte cfg.escape c then (st.InEscape, act.Skip) else (st.InQuoted, act.Copy)) (λ e. absurd cc)
    (either (cfg.quoting && is_byte cfg.escape c) (st.InEscape, act.Skip) (st.InQuoted, act.Copy) (λ e. absurd cc)
    (λ e. absurd cc))
between cfg st.InEscape c = λ e. absurd cc
between cfg st.AfterQuote c = either (cfg.quoting && cfg.double_quote && (c == cfg.quote)) (st.InQuoted, act.Copy)
    (in_field cfg c) (λ e. absurd cc) (between-in_field cfg c)
between cfg st.InComment c =
    either (c == 10) (st.StartRecord, act.Skip) (st.InComment, act.Skip) (λ e. absurd cc) (λ e. absurd cc)
between cfg st.AfterCr c =
    either (c == 10) (st.StartRecord, act.Skip) (start_record cfg c) (λ e. absurd cc) (between-start_record cfg c)

-- ---- a row takes a byte at least

-- what a row leaves: no more bytes than there were, and a state between two rows
record Leaves (text : List ℕ) (p : Read) : Type 0 where
  pub few : length p.2 ≤ length text
  pub state : ends_at_end p.1 ≡ false

same_read : (p q : Read) → Some p ≡ Some q → p ≡ q
same_read p q e = cc

row_leaves : (cfg : Config) (s : State) (fields : List (List ℕ)) (field text : List ℕ) (p : Read)
    → next_record cfg s fields field text ≡ Some p → Leaves text p
unfolding next_record
row_leaves cfg s fields field [] p e = by (ends_at_end s) e
  where
    by : (b : Bool) → (if b then Some (fields ++ (field ∷ []), st.StartRecord, []) else None) ≡ Some p → Leaves [] p
    by true f = let same = same_read _ _ f in
        subst (λ (q : Read). Leaves [] q) same (record { few = omega arith; state = refl })
    by false f = absurd cc
row_leaves cfg s fields field (c ∷ rest) p e =
    by (is_end (step cfg s c).1) refl e (row_leaves cfg (step cfg s c).0 (fields_after (step cfg s c).1 fields field)
    (field_after (step cfg s c).1 c field) rest p)
  where
    by : (b : Bool) → is_end (step cfg s c).1 ≡ b
        → (if b then Some (fields_after (step cfg s c).1 fields field, (step cfg s c).0, rest)
        else next_record cfg (step cfg s c).0 (fields_after (step cfg s c).1 fields field)
        (field_after (step cfg s c).1 c field) rest) ≡ Some p
        → (next_record cfg (step cfg s c).0 (fields_after (step cfg s c).1 fields field)
        (field_after (step cfg s c).1 c field) rest ≡ Some p → Leaves rest p)
        → Leaves (c ∷ rest) p
    by true is f more =
        let same = same_read _ _ f in
        subst (λ (q : Read). Leaves (c ∷ rest) q) same (record { few = omega arith; state = between cfg s c is })
    by false is f more = let h = more f in record { few = omega (arith, h.few); state = h.state }

pub row_takes : (cfg : Config) (s : State) (text : List ℕ) (p : Read) → ends_at_end s ≡ false
    → next_record cfg s [] [] text ≡ Some p → (length p.2 < length text) × (ends_at_end p.1 ≡ false)
unfolding next_record
row_takes cfg s [] p begins e = absurd (none (ends_at_end s) begins e)
  where
    none : (b : Bool) → b ≡ false → (if b then Some (([] ++ ([] ∷ []), st.StartRecord, [])) else None) ≡ Some p → ⊥
    none true f g = absurd cc
    none false f g = absurd cc
row_takes cfg s (c ∷ rest) p begins e =
    by (is_end (step cfg s c).1) refl e
  where
    by : (b : Bool) → is_end (step cfg s c).1 ≡ b
        → (if b then Some (fields_after (step cfg s c).1 [] [], (step cfg s c).0, rest)
        else next_record cfg (step cfg s c).0 (fields_after (step cfg s c).1 [] [])
        (field_after (step cfg s c).1 c []) rest) ≡ Some p
        → (length p.2 < length (c ∷ rest)) × (ends_at_end p.1 ≡ false)
    by true is f =
        let same = same_read _ _ f in
        subst (λ (q : Read). (length q.2 < length (c ∷ rest)) × (ends_at_end q.1 ≡ false)) same
        (omega arith, between cfg s c is)
    by false is f =
        let h = row_leaves cfg (step cfg s c).0 (fields_after (step cfg s c).1 [] [])
        (field_after (step cfg s c).1 c []) rest p f in
        (omega (arith, h.few), h.state)

-- ---- rows that were reached

module _ (cfg : Config) where
  -- rows are no more than bytes
  pub rows_are_few : (s s2 : State) (text rest : List ℕ) (rows : List (List (List ℕ))) → ends_at_end s ≡ false
      → Reached cfg s text rows s2 rest → length rows ≤ length text
  unfolding Reached
  rows_are_few s s2 text rest [] begins h = omega arith
  rows_are_few s s2 text rest (row ∷ rows) begins h =
      let takes = row_takes cfg s text h.0 begins h.1 in
      let more = rows_are_few h.0.1 s2 h.0.2 rest rows takes.1 h.3 in
      omega (arith, takes.0, more)

  -- the function gives the rows that were reached, and then goes on behind them
  pub reached_records : (s s2 : State) (text rest : List ℕ) (rows : List (List (List ℕ))) (n more : ℕ)
      → n ≡ length rows + more → Reached cfg s text rows s2 rest
      → records_from cfg n s text ≡ rows ++ records_from cfg more s2 rest
  unfolding Reached records_from
  reached_records s s2 text rest [] n more e h =
      rw (h.0, h.1) (ap (λ (k : ℕ). records_from cfg k s2 rest) (omega (arith, e)))
  reached_records s s2 text rest (row ∷ rows) zero more e h = absurd (omega (arith, e))
  reached_records s s2 text rest (row ∷ rows) (suc n) more e h =
      rw h.1 (rw h.2 (ap (λ (xs : List (List (List ℕ))). h.0.0 ∷ xs)
      (reached_records h.0.1 s2 h.0.2 rest rows n more (omega (arith, e)) h.3)))

  -- the first of rows that were reached are reached
  pub reached_first : (s s2 : State) (text rest : List ℕ) (rows more : List (List (List ℕ)))
      → Reached cfg s text (rows ++ more) s2 rest
      → (s1 : State) × (left : List ℕ) × Reached cfg s text rows s1 left
  unfolding Reached
  reached_first s s2 text rest [] more h = (s, text, (refl, refl))
  reached_first s s2 text rest (row ∷ rows) more h =
      let first = reached_first h.0.1 s2 h.0.2 rest rows more h.3 in
      (first.0, first.1, (h.0, h.1, h.2, first.2))

  -- with as many turns as bytes and one more, the function gives all rows
  pub are_records : (n : ℕ) (s : State) (text : List ℕ) → length text < n → ends_at_end s ≡ false
      → AreRecords cfg s text (records_from cfg n s text)
  unfolding records_from Reached
  are_records zero s text few begins = absurd (omega arith)
  are_records (suc n) s text few begins =
      by (next_record cfg s [] [] text) refl (λ state rest. are_records n state rest)
    where
      by : (o : Option Read) → next_record cfg s [] [] text ≡ o
          → ((state : State) (rest : List ℕ) → length rest < n → ends_at_end state ≡ false
          → AreRecords cfg state rest (records_from cfg n state rest))
          → AreRecords cfg s text (records_next (records_from cfg n) o)
      by None e rows = (s, text, (refl, refl), e)
      by (Some p) e rows =
          let takes = row_takes cfg s text p begins e in
          let more = rows p.1 p.2 (omega (arith, takes.0, few)) takes.1 in
          (more.0, more.1, (p, e, refl, more.2), more.3)

-- ---- all rows of a text

-- rows that were reached begin those that the function gives
pub records_begin : (cfg : Config) (s2 : State) (text rest : List ℕ) (rows : List (List (List ℕ)))
    → Reached cfg st.StartRecord text rows s2 rest
    → (more : List (List (List ℕ))) × (records cfg text ≡ rows ++ more)
records_begin cfg s2 text rest rows h =
    let few = rows_are_few cfg st.StartRecord s2 text rest rows refl h in
    let turns : length text + 1 ≡ length rows + (length text + 1 - length rows) = omega (arith, few) in (
      records_from cfg (length text + 1 - length rows) s2 rest,
      reached_records cfg st.StartRecord s2 text rest rows (length text + 1) (length text + 1 - length rows) turns h,
    )

-- all rows of a text are those that the function gives
pub rows_are_records : (cfg : Config) (text : List ℕ) (rows : List (List (List ℕ)))
    → AreRecords cfg st.StartRecord text rows → records cfg text ≡ rows
unfolding records_from
rows_are_records cfg text rows (s2, rest, h, none) =
    let few = rows_are_few cfg st.StartRecord s2 text rest rows refl h in
    let turns : length text + 1 ≡ length rows + suc (length text - length rows) = omega (arith, few) in
    reached_records cfg st.StartRecord s2 text rest rows (length text + 1) (suc (length text - length rows)) turns h
    ∙ ap (λ (o : Option Read). rows ++ records_next (records_from cfg (length text - length rows)) o) none
    ∙ append-nil rows

pub records_are_rows : (cfg : Config) (text : List ℕ) → AreRecords cfg st.StartRecord text (records cfg text)
records_are_rows cfg text = are_records cfg (length text + 1) st.StartRecord text (omega arith) refl
