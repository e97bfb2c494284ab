-- The parts of the program are those of the tariff.
use Rattle.std.{specs.List.{cons_option, filter, slice_get}, proofs.lemmas.List.{length-append}}
use Rattle.std.{specs.Option.{is_some, option_and_then, option_map}, proofs.Common.{refl, subst, suc, sym, zero}}
use Rattle.std.proofs.Common.{[], ℕ, ◌++◌, ◌+◌, ◌∷◌, ◌≡◌, List, None, Option, Some, ap, append_assoc, cond, length, map}
use Rattle.{tariff_tree.specs.{Choices.{Choice}, Meaning.{place_of}}, tariff_check.specs.SoundTariff.{when_of_line}}
use Rattle.tariff_check.specs.Common.{ChoiceKind, Condition, Context, Entry, Line, Parts, Supplement, Tree, choices}
use Rattle.tariff_check.specs.Common.{conditions_of, holiday, supplement, values_of, when_part}
use Rattle.tariff_check.specs.FoundLines.{line_in_force}
use Rattle.tariff_check.{specs.Kinds.{Said, entry_with, kept_of, part_of}, proofs.KindLaws.{choices_are, entry_again}}
use Rattle.tariff_check.specs.{Parts.{DateNumbers, holiday_part, parts}, Resolved.{HasParts, line_of_own, placed_from}}
use Rattle.tariff_check.specs.SoundTariff.{AreChoices, HasAllLines, entries_told, holiday_entry, is_told, line_with}
use Rattle.tariff_check.specs.SoundTariff.{numbered_supplement, own_conditions, sound_of, supplement_entry, when_at}
use Rattle.tariff_check.specs.declared.choice.Choice as program

-- the line behind others is at the place that their number says
pub at_end : (before : List Line) (l : Line) (ls : List Line) → slice_get (before ++ l ∷ ls) (length before) ≡ Some l
at_end [] l ls = refl
at_end (b ∷ bs) l ls = at_end bs l ls

module _ {V : Type 0} (part : Entry → Option V) where
  -- a choice more, or none, of a line at a place
  one_more : (lines : List Line) (l : Line) (o : Option V) (place : ℕ) (own : List (program.Choice V))
      (all : List (Choice V)) → when_at lines place ≡ when_part l.entry → AreChoices lines own all → AreChoices lines
      (cons_option (option_map (λ (v : V). record { value = v; line = l.line; place = place }) o) own)
      (cons_option (option_map (λ (v : V). record { value = v; when = when_part l.entry; line = l.line }) o) all)
  one_more lines l None place own all here are = are
  one_more lines l (Some v) place own all here are = record {
    values = ap (λ (vs : List V). v ∷ vs) are.values;
    conditions = rw here (ap (λ (whens : List (Option Condition)). when_part l.entry ∷ whens) are.conditions);
    numbers = ap (λ (numbers : List ℕ). l.line ∷ numbers) are.numbers;
  }

  placed_after : (before ls : List Line)
      → AreChoices (before ++ ls) (placed_from part (length before) ls) (choices part ls)
  placed_after before [] = record { values = refl; conditions = refl; numbers = refl }
  placed_after before (l ∷ ls) =
      let lines = before ++ l ∷ ls in
      let more : AreChoices lines (placed_from part (length (before ++ l ∷ [])) ls) (choices part ls) =
      rw (← append_assoc before (l ∷ []) ls) (placed_after (before ++ l ∷ []) ls) in
      let rest : AreChoices lines (placed_from part (length before + 1) ls) (choices part ls) =
      subst (λ (n : ℕ). AreChoices lines (placed_from part n ls) (choices part ls)) (length-append before (l ∷ [])) more
      in
      one_more lines l (part l.entry) (length before) _ (choices part ls) (ap when_of_line (at_end before l ls)) rest

  -- what the program chose from lines are the choices among them
  placed_are : (lines : List Line) (own : List (program.Choice V)) → own ≡ placed_from part 0 lines
      → AreChoices lines own (choices part lines)
  placed_are lines own same =
      subst (λ (all : List (program.Choice V)). AreChoices lines all (choices part lines)) (sym same)
      (placed_after [] lines)

  -- what the program chose stands at the place of a line of the kind
  placed_lines : (before ls : List Line) (place : ℕ)
      → line_of_own (before ++ ls) (placed_from part (length before) ls) place
      ≡ slice_get (filter (is_told part) ls) place
  placed_lines before [] place = refl
  placed_lines before (l ∷ ls) place =
      let lines = before ++ l ∷ ls in
      let told = filter (is_told part) ls in
      let more : (n : ℕ) → line_of_own lines (placed_from part (length (before ++ l ∷ [])) ls) n ≡ slice_get told n =
      λ (n : ℕ). rw (← append_assoc before (l ∷ []) ls) (placed_lines (before ++ l ∷ []) ls n) in
      let rest : (n : ℕ) → line_of_own lines (placed_from part (length before + 1) ls) n ≡ slice_get told n =
      subst (λ (m : ℕ). (n : ℕ) → line_of_own lines (placed_from part m ls) n ≡ slice_get told n)
      (length-append before (l ∷ [])) more in
      at_place (part l.entry) (placed_from part (length before + 1) ls) rest place
    where
      at_place : (o : Option V) (own : List (program.Choice V))
          → ((n : ℕ) → line_of_own (before ++ l ∷ ls) own n ≡ slice_get (filter (is_told part) ls) n)
          → (n : ℕ) → line_of_own (before ++ l ∷ ls) (cons_option
          (option_map (λ (v : V). record { value = v; line = l.line; place = length before }) o) own) n
          ≡ slice_get (cond (is_some o) (l ∷ filter (is_told part) ls) (filter (is_told part) ls)) n
      at_place None own rest n = rest n
      at_place (Some v) own rest zero = at_end before l ls
      at_place (Some v) own rest (suc n) = rest n

  -- so the line of the first that holds is the one in force
  own_in_force : (lines : List Line) (own : List (program.Choice V)) (x : Context) → own ≡ placed_from part 0 lines
      → option_and_then (line_of_own lines own) (place_of x (own_conditions lines own))
      ≡ option_and_then (slice_get (filter (is_told part) lines)) (place_of x (conditions_of (choices part lines)))
  own_in_force lines own x same =
      rw ((placed_are lines own same).conditions, same) (by_place (place_of x (conditions_of (choices part lines))))
    where
      by_place : (o : Option ℕ) → option_and_then (line_of_own lines (placed_from part 0 lines)) o
          ≡ option_and_then (slice_get (filter (is_told part) lines)) o
      by_place None = refl
      by_place (Some place) = placed_lines [] lines place

  -- their values are the parts of the lines
  pub values_are : (ls : List Line) → values_of (choices part ls) ≡ parts part ls
  values_are [] = refl
  values_are (l ∷ ls) = more (part l.entry) (values_are ls)
    where
      more : (o : Option V) → values_of (choices part ls) ≡ parts part ls
          → values_of (cons_option
          (option_map (λ (v : V). record { value = v; when = when_part l.entry; line = l.line }) o) (choices part ls))
          ≡ cons_option o (parts part ls)
      more None h = h
      more (Some v) h = ap (λ (vs : List V). v ∷ vs) h

  -- if an entry is made again of what it says, so are the lines of a kind
  pub lines_again : (entry : V → Option Condition → Entry)
      → ((x : Entry) (v : V) → part x ≡ Some v → entry v (when_part x) ≡ x) → (ls : List Line)
      → map (line_with entry) (choices part ls) ≡ filter (is_told part) ls
  lines_again entry again [] = refl
  lines_again entry again (l ∷ ls) = more (part l.entry) (again l.entry) (lines_again entry again ls)
    where
      more : (o : Option V) → ((v : V) → o ≡ Some v → entry v (when_part l.entry) ≡ l.entry)
          → map (line_with entry) (choices part ls) ≡ filter (is_told part) ls
          → map (line_with entry) (cons_option
          (option_map (λ (v : V). record { value = v; when = when_part l.entry; line = l.line }) o) (choices part ls))
          ≡ cond (is_some o) (l ∷ filter (is_told part) ls) (filter (is_told part) ls)
      more None here h = h
      more (Some v) here h = rw (here v refl, h) refl

-- so the choices of a kind that the program keeps are those among the lines
pub kept_are : (kind : ChoiceKind) (lines : List Line) (p : Parts) → HasParts lines p
    → AreChoices lines (kept_of kind p.choices) (choices (part_of kind) lines)
kept_are kind lines p has = placed_are (part_of kind) lines (kept_of kind p.choices) (has.choices kind)

-- and the line of the first of them that holds is the one in force
pub in_force : (kind : ChoiceKind) (lines : List Line) (own : List (program.Choice (Said kind))) (x : Context)
    → own ≡ placed_from (part_of kind) 0 lines
    → option_and_then (line_of_own lines own) (place_of x (own_conditions lines own)) ≡ line_in_force kind x lines
in_force kind = own_in_force (part_of kind)

-- and so the entries of a kind without conditions
pub entries_again : {A : Type 0} (part : Entry → Option A) (entry : A → Entry)
    → ((x : Entry) (a : A) → part x ≡ Some a → entry a ≡ x) → (ls : List Line)
    → map entry (parts part ls) ≡ entries_told part ls
entries_again part entry again [] = refl
entries_again {A} part entry again (l ∷ ls) =
    one_more (part l.entry) (again l.entry) (entries_again part entry again ls)
  where
    one_more : (o : Option A) → ((a : A) → o ≡ Some a → entry a ≡ l.entry)
        → map entry (parts part ls) ≡ entries_told part ls
        → map entry (cons_option o (parts part ls))
        ≡ map (λ (l : Line). l.entry) (cond (is_some o) (l ∷ filter (is_told part) ls) (filter (is_told part) ls))
    one_more None here h = h
    one_more (Some a) here h = rw (here a refl, h) refl

-- the sorts of lines without conditions
supplement_again : (x : Entry) (said : ℕ × Supplement) → numbered_supplement x ≡ Some said
    → supplement_entry said ≡ x
supplement_again (supplement number amount most) said h =
    let same : said ≡ (number, record { amount = amount; max = most }) = cc in
    ap supplement_entry same
supplement_again x said h = absurd cc

holiday_again : (x : Entry) (d : DateNumbers) → holiday_part x ≡ Some d → holiday_entry d ≡ x
holiday_again (holiday year month date) d h =
    let same : d ≡ record { year = year; month = month; date = date } = cc in
    ap holiday_entry same
holiday_again x d h = absurd cc

-- nothing of these lines is lost
pub all_lines : (t : Tree) → HasAllLines t (sound_of t)
all_lines t = record {
  choices = λ (kind : ChoiceKind).
      rw (choices_are t kind) (lines_again (part_of kind) (entry_with kind) (entry_again kind) t.lines);
  supplements = entries_again numbered_supplement supplement_entry supplement_again t.lines;
  holidays = entries_again holiday_part holiday_entry holiday_again t.lines;
}
