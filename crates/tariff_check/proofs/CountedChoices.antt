-- The choices that lines give, line after line.
use Rattle.std.{specs.List.{cons_option}, proofs.lemmas.List.Sums.{sum_by-append, sum_by-cons}}
use Rattle.std.specs.Option.{is_some, option_map, option_to_list}
use Rattle.std.proofs.Common.{[], ℕ, ◌++◌, ◌+◌, ◌<◌, ◌∙◌, ◌∷◌, ◌≡◌, List, None, Option, Some, ap, append_assoc, arith}
use Rattle.std.proofs.Common.{cond, drop, drop-cons, get_or, length, map, refl, subst, suc, sym, take}
use Rattle.std.proofs.lemmas.{Grind.{common_steps}, List.{length-append, map-append, map_more, take-append-drop}}
use Rattle.tariff_check.specs.ChoiceLines.{choice_behind, choice_lines, choices_behind, place_behind}
use Rattle.tariff_check.specs.Common.{Choice, ChoiceKind, ChoiceLine, Choices, Line, Parts, TariffLine, line_of}
use Rattle.tariff_check.{specs.Kinds.{EachKind, Said, is_of, kept_of, part_of}, proofs.KindLaws.{of_kind, part_is}}
use Rattle.tariff_check.specs.Resolved.{count_in, counted_choice, placed, placed_from}

module _ (kind : ChoiceKind) where
  -- as many choices are placed as there are lines of the kind
  length_placed : (place : ℕ) (ls : List Line) → length (placed_from (part_of kind) place ls) ≡ place_behind kind ls
  length_placed place [] = refl
  length_placed place (l ∷ ls) =
      rw (sum_by-cons (λ (m : Line). cond (is_of kind m.entry) 1 0) l ls, ← part_is kind l.entry)
      (one_more (part_of kind l.entry) (placed_from (part_of kind) (place + 1) ls) (length_placed (place + 1) ls))
    where
      one_more : (o : Option (Said kind)) (own : List (Choice (Said kind))) → length own ≡ place_behind kind ls
          → length (cons_option (option_map
          (λ (said : Said kind). record { value = said; line = l.line; place = place }) o) own)
          ≡ cond (is_some o) 1 0 + place_behind kind ls
      one_more None own h = omega (arith, h)
      one_more (Some said) own h = omega (arith, h)

  -- so the choices that were found before a place are as many as the lines of the kind before it
  counted_behind : (own : List (Choice (Said kind))) (lines : List TariffLine) (place : ℕ)
      → own ++ placed_from (part_of kind) place (map line_of (drop place lines))
      ≡ placed_from (part_of kind) 0 (map line_of lines)
      → length own ≡ place_behind kind (map line_of (take place lines))
  counted_behind own lines place all =
      let front = map line_of (take place lines) in
      let rest = map line_of (drop place lines) in
      let joined : map line_of lines ≡ front ++ rest =
      ap (map line_of) (sym (take-append-drop place lines))
      ∙ map-append line_of (take place lines) (drop place lines) in
      let counts : place_behind kind (map line_of lines) ≡ place_behind kind front + place_behind kind rest =
      ap (place_behind kind) joined ∙ sum_by-append (λ (m : Line). cond (is_of kind m.entry) 1 0) front rest in
      let lengths : length own + length (placed_from (part_of kind) place rest)
      ≡ length (placed_from (part_of kind) 0 (map line_of lines)) =
      sym (length-append own (placed_from (part_of kind) place rest)) ∙ ap length all in
      omega (arith, counts, lengths, length_placed place rest, length_placed 0 (map line_of lines))

-- the choice of a line by such counts is the one behind the lines before it
counted_is : (count : ChoiceKind → ℕ) (before : List Line)
    → ((kind : ChoiceKind) → count kind ≡ place_behind kind before) → (l : Line)
    → counted_choice count l ≡ choice_behind before l
counted_is count before counts l = ap_each _
  where
    ap_each : (o : Option ChoiceKind)
        → option_map {U = ChoiceLine}
        (λ (kind : ChoiceKind). record { kind = kind; place_in_kind = count kind; line = l.line }) o
        ≡ option_map (λ (kind : ChoiceKind). record {
          kind = kind;
          place_in_kind = place_behind kind before;
          line = l.line;
        }) o
    ap_each None = refl
    ap_each (Some kind) =
        ap (λ (place : ℕ). Some (record { kind = kind; place_in_kind = place; line = l.line })) (counts kind)

cons_is : (o : Option ChoiceLine) (xs : List ChoiceLine) → cons_option o xs ≡ option_to_list o ++ xs
cons_is None xs = refl
cons_is (Some x) xs = refl

-- so one choice more is put behind those of the lines before
choice_put : (lines : List TariffLine) (place : ℕ) (line : TariffLine) (o : Option ChoiceLine)
    (own more all : List ChoiceLine) → place < length lines → line ≡ get_or lines place line
    → o ≡ choice_behind (map line_of (take place lines)) (line_of line) → more ≡ own ++ option_to_list o
    → own ++ choices_behind (map line_of (take place lines)) (map line_of (drop place lines)) ≡ all
    → more ++ choices_behind (map line_of (take (place + 1) lines)) (map line_of (drop (place + 1) lines)) ≡ all
choice_put lines place line o own more all within at is put so_far =
    let front = map line_of (take place lines) in
    let rest = map line_of (drop (suc place) lines) in
    let here : drop place lines ≡ line ∷ drop (suc place) lines =
    drop-cons lines place line within ∙ ap (λ (l : TariffLine). l ∷ drop (suc place) lines) (sym at) in
    let longer : map line_of (take (place + 1) lines) ≡ front ++ line_of line ∷ [] =
    map_more line_of lines place line within ∙ ap (λ (l : TariffLine). front ++ line_of l ∷ []) (sym at) in
    let next : place + 1 ≡ suc place = omega arith in
    let behind = choices_behind (front ++ line_of line ∷ []) rest in
    let whole : own ++ choices_behind front (line_of line ∷ rest) ≡ all =
    subst (λ (ls : List TariffLine). own ++ choices_behind front (map line_of ls) ≡ all) here so_far in
    let split : more ++ behind ≡ all =
    ap (λ (cs : List ChoiceLine). cs ++ behind) put
    ∙ (append_assoc own (option_to_list o) behind
    ∙ (ap (λ (cs : List ChoiceLine). own ++ cs) (sym (cons_is o behind))
    ∙ (ap (λ (x : Option ChoiceLine). own ++ cons_option x behind) is ∙ whole))) in
    subst (λ (n : ℕ). more ++ choices_behind (map line_of (take (place + 1) lines)) (map line_of (drop n lines)) ≡ all)
    (sym next) (subst (λ (ls : List Line). more ++ choices_behind ls rest ≡ all) (sym longer) split)

-- and the place in its kind is how many of the kind were found before
pub choice_line_put : (p : Parts) (lines : List TariffLine) (place : ℕ) (line : TariffLine) (more : List ChoiceLine)
    → place < length lines → line ≡ get_or lines place line
    → ((kind : ChoiceKind) → kept_of kind p.choices ++ placed_from (part_of kind) place (map line_of (drop place lines))
    ≡ placed_from (part_of kind) 0 (map line_of lines))
    → more ≡ p.choice_lines.items ++ option_to_list (counted_choice (count_in p.choices) (line_of line))
    → p.choice_lines.items ++ choices_behind (map line_of (take place lines)) (map line_of (drop place lines))
    ≡ choice_lines (map line_of lines)
    → more ++ choices_behind (map line_of (take (place + 1) lines)) (map line_of (drop (place + 1) lines))
    ≡ choice_lines (map line_of lines)
choice_line_put p lines place line more within at kept put so_far =
    choice_put lines place line _ p.choice_lines.items more _ within at
    (counted_is (count_in p.choices) (map line_of (take place lines))
    (λ kind. counted_behind kind (kept_of kind p.choices) lines place (kept kind)) (line_of line)) put so_far

-- none is kept at first
pub none_kept : (kept : Choices) (lines : List TariffLine) → EachKind (λ kind. kept_of kind kept ≡ [])
    → (kind : ChoiceKind) → kept_of kind kept ++ placed_from (part_of kind) 0 (map line_of lines)
    ≡ placed_from (part_of kind) 0 (map line_of lines)
none_kept kept lines none kind = rw (of_kind (λ kind. kept_of kind kept ≡ []) none kind) refl

-- and then the choice of each line, behind those of the lines before
pub kept_put : (kept more : Choices) (lines : List TariffLine) (place : ℕ) (line : TariffLine)
    → place < length lines → line ≡ get_or lines place line
    → EachKind (λ kind. kept_of kind more
    ≡ kept_of kind kept ++ option_to_list (placed (part_of kind) place (line_of line)))
    → ((kind : ChoiceKind) → kept_of kind kept ++ placed_from (part_of kind) place (map line_of (drop place lines))
    ≡ placed_from (part_of kind) 0 (map line_of lines))
    → (kind : ChoiceKind) → kept_of kind more ++ placed_from (part_of kind) (place + 1)
    (map line_of (drop (place + 1) lines)) ≡ placed_from (part_of kind) 0 (map line_of lines)
kept_put kept more lines place line within at put so_far kind =
    let one_more = of_kind (λ kind. kept_of kind more
    ≡ kept_of kind kept ++ option_to_list (placed (part_of kind) place (line_of line))) put kind in
    let behind = so_far kind in
    grind (arith, common_steps)
