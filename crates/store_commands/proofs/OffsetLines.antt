-- The lines of a list of offsets that are printed, one after the other, and the answers of the command.
use Rattle.std.proofs.Common.{[], ℕ, ℤ, ◌++◌, ◌+◌, ◌<◌, ◌∙◌, ◌∷◌, ◌≡◌, ◌≤◌, Err, List, Ok, ap, append_assoc, arith}
use Rattle.std.proofs.Common.{drop, get_or, inl, length, refl, subst, sym, take, ⊎_elim}
use Rattle.std.proofs.lemmas.{Grind.{flat_map-append}, List.{append-nil, take-append-drop, take_all, take_more}}
use Rattle.{outside.specs.declared.files.Files.{Ghosts as FileGhosts}, offset_rules.specs.Pairs.{pairs_of}}
use Rattle.{outside.proofs.Laws.{begins_after, begins_more, begins_whole}, offset_rules.specs.Reading.{rules_read}}
use Rattle.offset_rules.specs.Texts.{offset_line, offset_lines}
use Rattle.call_ends.proofs.Laws.{MakesText, goes-none, goes-on, makes-answer, makes-stopped, no_fault}
use Rattle.store_commands.specs.Common.{Begins, Makes, ReadsWord, Rule, RuleFault, RulesFault, shows}
use Rattle.store_commands.specs.{Offsets.{offsets_answer, offsets_command}, StoreEnds.{ended_for_rules}}
use Rattle.call_ends.specs.declared.ending.Ended.TheVariants as ended
use Rattle.store_commands.specs.declared.offsets.RulesFault.TheVariants as faults

-- the lines of one list behind another
lines_append : (xs ys : List (ℕ × ℤ)) → offset_lines (xs ++ ys) ≡ offset_lines xs ++ offset_lines ys
unfolding offset_lines
lines_append xs ys = flat_map-append offset_line xs ys

lines_one : (pair : ℕ × ℤ) → offset_lines (pair ∷ []) ≡ offset_line pair
unfolding offset_lines
lines_one pair = append-nil (offset_line pair)

-- before the first line
pub printed_none : (p : List ℕ) → p ≡ p ++ offset_lines []
unfolding offset_lines
printed_none p = sym (append-nil p)

lines_at : (pairs : List (ℕ × ℤ)) (n : ℕ) (x : ℕ × ℤ) → n < length pairs
    → offset_lines (take (n + 1) pairs) ≡ offset_lines (take n pairs) ++ offset_line (get_or pairs n x)
lines_at pairs n x lt = ap offset_lines (take_more pairs n x lt) ∙ lines_append (take n pairs) (get_or pairs n x ∷ [])
    ∙ ap (λ (t : List ℕ). offset_lines (take n pairs) ++ t) (lines_one (get_or pairs n x))

-- one line more was printed
pub printed_more : (p q r text : List ℕ) (pairs : List (ℕ × ℤ)) (n : ℕ) (x : ℕ × ℤ) → n < length pairs
    → text ≡ offset_line (get_or pairs n x) → q ≡ p ++ offset_lines (take n pairs) → r ≡ q ++ text
    → r ≡ p ++ offset_lines (take (n + 1) pairs)
printed_more p q r text pairs n x lt is so_far next =
    next ∙ ap (λ (t : List ℕ). q ++ t) is ∙ ap (λ (t : List ℕ). t ++ offset_line (get_or pairs n x)) so_far
    ∙ append_assoc p (offset_lines (take n pairs)) (offset_line (get_or pairs n x))
    ∙ ap (λ (t : List ℕ). p ++ t) (sym (lines_at pairs n x lt))

lines_split : (pairs : List (ℕ × ℤ)) (n : ℕ)
    → offset_lines pairs ≡ offset_lines (take n pairs) ++ offset_lines (drop n pairs)
lines_split pairs n = ap offset_lines (sym (take-append-drop n pairs)) ∙ lines_append (take n pairs) (drop n pairs)

-- a beginning of a line at its place begins all lines
pub begins_at : (p q r text : List ℕ) (pairs : List (ℕ × ℤ)) (n : ℕ) (x : ℕ × ℤ) → n < length pairs
    → text ≡ offset_line (get_or pairs n x) → q ≡ p ++ offset_lines (take n pairs) → Begins q r text
    → Begins p r (offset_lines pairs)
begins_at p q r text pairs n x lt is so_far b =
    let one : Begins q r (offset_line (get_or pairs n x)) = subst (λ (t : List ℕ). Begins q r t) is b in
    let here : Begins p r (offset_lines (take (n + 1) pairs)) =
    subst (λ (t : List ℕ). Begins p r t) (sym (lines_at pairs n x lt))
    (begins_after p q r (offset_lines (take n pairs)) (offset_line (get_or pairs n x)) so_far one) in
    subst (λ (t : List ℕ). Begins p r t) (sym (lines_split pairs (n + 1)))
    (begins_more p r (offset_lines (take (n + 1) pairs)) (offset_lines (drop (n + 1) pairs)) here)

-- at the end all were printed
pub printed_all : (p q : List ℕ) (pairs : List (ℕ × ℤ)) (n : ℕ) → length pairs ≤ n
    → q ≡ p ++ offset_lines (take n pairs) → q ≡ p ++ offset_lines pairs
printed_all p q pairs n le h = h ∙ ap (λ (xs : List (ℕ × ℤ)). p ++ offset_lines xs) (take_all n pairs le)

pub begins_end : (p q : List ℕ) (pairs : List (ℕ × ℤ)) (n : ℕ) → length pairs ≤ n → q ≡ p ++ offset_lines (take n pairs)
    → Begins p q (offset_lines pairs)
begins_end p q pairs n le h = begins_whole p q (offset_lines pairs) (printed_all p q pairs n le h)

-- ---- the answers

pub makes_offsets : (years : ℕ × ℕ) → MakesText (offsets_command years)
makes_offsets years = record {
  shut = λ none. none;
  unwritten = λ status none. none;
  told = λ files_tell image_told tells. tells;
  quiet = λ contents image taken. refl;
  all = λ status zero. inl zero;
  bad = refl;
}

module _ {E : Type 0} {F : FileGhosts E} (years : ℕ × ℕ) {image : List ℕ} {files files' : E} where
  -- the rules weren't read
  pub no_rules : {T : Type 0} (fault : RulesFault)
      → ReadsWord F {T = T} 1 files files' (Err (ended_for_rules fault))
      → ((why : RuleFault) → F.tells → fault ≡ faults.Refused why → rules_read (F.rest files 1) ≡ Err why)
      → Makes F (offsets_command years) image files files' [] (ended_for_rules fault)
  no_rules faults.ReadFault read refused = makes-stopped 1 [] (goes-none files) read refl (omega arith) refl
      (λ tells. refl) (λ tells. refl) refl refl
  no_rules (faults.Refused why) read refused = makes-answer (makes_offsets years) [] (ended.BadRules why)
      (goes-on 1 [] (goes-none files) read (omega arith) refl (λ tells. refl) (λ e. absurd cc)) refl
      (λ tells. ap (offsets_answer years) (refused why tells refl))
      (λ tells. ⊎_elim (λ (z : 17 ≡ 0). absurd (omega (arith, z))) (λ (z : 17 ≡ 11). absurd (omega (arith, z))))

  -- the lines of the list of rules that were read
  pub of_rules : {T : Type 0} {x : T} → ReadsWord F 1 files files' (Ok x) → (rule : Rule) (pairs : List (ℕ × ℤ))
      → (F.tells → rules_read (F.rest files 1) ≡ Ok rule) → pairs ≡ pairs_of rule years.0 years.1
      → (F.tells → F.rest files' 1 ≡ [])
      → Makes F (offsets_command years) image files files' (offset_lines pairs) ended.Done
  of_rules read rule pairs is are whole = makes-answer (makes_offsets years) (offset_lines pairs) ended.Done
      (goes-on 1 [] (goes-none files) read (omega arith) refl (λ tells. refl) (no_fault _ _ _ refl)) refl
      (λ tells. ap (offsets_answer years) (is tells) ∙ ap (λ (ps : List (ℕ × ℤ)). shows (offset_lines ps)) (sym are))
      (λ tells final word reads. ap (F.rest files') reads ∙ whole tells)
