-- What is looked for among lines one by one is found among their parts.
use Rattle.{std.specs.List.{cons_option, list_any, slice_get}, tariff_check.specs.{Common.{zones}, Parts.{zones_part}}}
use Rattle.std.{specs.Option.{is_none, is_some, option_and_then, option_map, unwrap_or}, proofs.Common.{sym, true}}
use Rattle.std.proofs.Common.{[], ℕ, ◌&&◌, ◌||◌, ◌∙◌, ◌∷◌, ◌≡◌, Bool, List, None, Option, Some, ap, cond, false, refl}
use Rattle.tariff_check.specs.Common.{ChoiceKind, Entry, Line, choices, conditions_of, positions, step, when_part}
use Rattle.tariff_check.specs.{Faults.{has_default}, FoundLines.{frame_line, says}, Kinds.{Said, is_of, part_of}}
use Rattle.tariff_check.specs.Parts.{first_part, parts, positions_of, positions_part, step_of, step_part, zones_of}
use Rattle.tariff_check.specs.declared.found_lines.FramePart.{FramePart, TheVariants.{Positions, Step, Zones}}
use Rattle.tariff_check.proofs.KindLaws.{part_is}

-- if a part of the frame is what such entries say, the first part is that of the first line that says it
said_first : {A : Type 0} (part : Entry → Option A) (p : FramePart) → ((x : Entry) → is_some (part x) ≡ says p x)
    → (ls : List Line) → first_part part ls ≡ option_and_then (λ (l : Line). part l.entry) (frame_line p ls)
said_first part p same [] = refl
said_first {A} part p same (l ∷ ls) =
    by_part (part l.entry) refl (says p l.entry) (same l.entry) (said_first part p same ls)
  where
    by_part : (o : Option A) → part l.entry ≡ o → (b : Bool) → is_some o ≡ b
        → first_part part ls ≡ option_and_then (λ (m : Line). part m.entry) (frame_line p ls)
        → slice_get (cons_option o (parts part ls)) 0
        ≡ option_and_then (λ (m : Line). part m.entry) (cond b (Some l) (frame_line p ls))
    by_part None e true h rest = absurd cc
    by_part None e false h rest = rest
    by_part (Some y) e true h rest = sym e
    by_part (Some y) e false h rest = absurd cc

step_is : (x : Entry) → is_some (step_part x) ≡ says Step x
step_is (step amount rounding) = refl
step_is x = refl

positions_is : (x : Entry) → is_some (positions_part x) ≡ says Positions x
positions_is (positions number) = refl
positions_is x = refl

zones_is : (x : Entry) → is_some (zones_part x) ≡ says Zones x
zones_is (zones number) = refl
zones_is x = refl

-- so the step, the positions and the zones of lines are what the line that is found says of them
pub step_said : (ls : List Line) (found : Option Line) → frame_line Step ls ≡ found
    → step_of ls ≡ option_and_then (λ (l : Line). step_part l.entry) found
step_said ls found e =
    said_first step_part Step step_is ls ∙ ap (option_and_then (λ (l : Line). step_part l.entry)) e

pub positions_said : (ls : List Line) (found : Option Line) → frame_line Positions ls ≡ found
    → positions_of ls ≡ unwrap_or (option_and_then (λ (l : Line). positions_part l.entry) found) 1
positions_said ls found e =
    ap (λ (o : Option ℕ). unwrap_or o 1) (said_first positions_part Positions positions_is ls
    ∙ ap (option_and_then (λ (l : Line). positions_part l.entry)) e)

pub zones_said : (ls : List Line) (found : Option Line) → frame_line Zones ls ≡ found
    → zones_of ls ≡ unwrap_or (option_and_then (λ (l : Line). zones_part l.entry) found) 1
zones_said ls found e =
    ap (λ (o : Option ℕ). unwrap_or o 1) (said_first zones_part Zones zones_is ls
    ∙ ap (option_and_then (λ (l : Line). zones_part l.entry)) e)

-- the test `is_default` is true if a line is of a kind and has no condition
abbrev pub is_default : ChoiceKind → Line → Bool
is_default kind l = is_of kind l.entry && is_none (when_part l.entry)

-- a kind has a default exactly if a line is one
pub default_is : (kind : ChoiceKind) (ls : List Line) → list_any (is_default kind) ls ≡ has_default (part_of kind) ls
default_is kind [] = refl
default_is kind (l ∷ ls) =
    ap (λ (b : Bool). (b && is_none (when_part l.entry)) || list_any (is_default kind) ls) (sym (part_is kind l.entry))
    ∙ by_part (part_of kind l.entry) (default_is kind ls)
  where
    by_part : (o : Option (Said kind)) → list_any (is_default kind) ls ≡ has_default (part_of kind) ls
        → ((is_some o && is_none (when_part l.entry)) || list_any (is_default kind) ls)
        ≡ list_any is_none (conditions_of (cons_option
        (option_map (λ (said : Said kind). record { value = said; when = when_part l.entry; line = l.line }) o)
        (choices (part_of kind) ls)))
    by_part None h = h
    by_part (Some said) h = ap (λ (b : Bool). is_none (when_part l.entry) || b) h
