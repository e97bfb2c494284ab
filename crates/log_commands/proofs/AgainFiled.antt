-- Filing a roll again appends nothing, whatever of it is read the second time.
use Rattle.std.proofs.Common.{[], ℕ, ◌++◌, ◌∙◌, ◌∷◌, ◌≡◌, ◌⊎◌, List, None, Option, Some, ap, append_assoc, arith, inl}
use Rattle.std.proofs.{Common.{inr, length, length-append, refl, subst, sym}, lemmas.List.{append-nil}}
use Rattle.log_commands.{specs.{Calls.{AppendsNothing}, LogList.{StandsFor, last_ones}}, proofs.FiledLaws.{files_again}}
use Rattle.log_commands.{specs.{Common.{FileEnd}, Record.{Record}}, proofs.{OneList.{one_list}, RollLaws.{more_of}}}
use Rattle.log_commands.specs.{Filed.{EndsAt, Files, IsFiledOf, IsNewer, IsOlder, IsOther}, Roll.{AreOnRoll, Reads}}
use Rattle.log_commands.specs.{Filed.Files.{appended, over, passed}, Filings.{EndsAs, newest_after, newest_of}}
use Rattle.log_commands.proofs.{Beginnings.{IsFirst, beginning_first, reads_agree, reads_longer}, Tails.{newest_last}}
use Rattle.log_commands.specs.declared.file_roll.FileEnd.TheVariants as ends

-- ---- the newest record behind the filed

newest_filed : (newest last : Option Record) (receipts filed : List Record) → Files newest receipts filed last
    → newest_after newest filed ≡ last
newest_filed newest last receipts filed (over n) = refl
newest_filed newest last receipts filed (passed n l r rest those older files) = newest_filed n last rest those files
newest_filed newest last receipts filed (appended n l r rest those newer files) =
    newest_filed (Some r) last rest those files

newest_behind : (n : Option Record) (a b : List Record) → newest_after n (a ++ b) ≡ newest_after (newest_after n a) b
newest_behind n [] b = refl
newest_behind n (x ∷ a) b = newest_behind (Some x) a b

-- the newest record of the log that a filing leaves is the last of the filed, or the one before
pub newest_left : (found filed receipts : List Record) (last : Option Record)
    → Files (newest_of found) receipts filed last → newest_of (last_ones 256 (found ++ filed)) ≡ last
newest_left found filed receipts last files = newest_last (found ++ filed)
    ∙ (newest_behind None found filed ∙ newest_filed (newest_of found) last receipts filed files)

-- ---- nothing is filed of what is filed already

older_newer : (newest : Option Record) (r : Record) → IsOlder newest r → IsNewer newest r → ⊥
older_newer None r older newer = older
older_newer (Some n) r older newer = omega (arith, older.1, newer.1)

other_older : (newest : Option Record) (r : Record) → IsOther newest r → IsOlder newest r → ⊥
other_older None r other older = other
other_older (Some n) r other older = other older.0

other_newer : (newest : Option Record) (r : Record) → IsOther newest r → IsNewer newest r → ⊥
other_newer None r other newer = other
other_newer (Some n) r other newer = other newer.0

no_item : (r : Record) (more xs : List Record) → xs ≡ [] → xs ≡ r ∷ more → ⊥
no_item r more xs e f = omega (arith, ap length (sym e ∙ f))

heads : (a b : Record) (xs ys : List Record) → a ∷ xs ≡ b ∷ ys → a ≡ b
heads a b xs ys e = cc

tails : (a b : Record) (xs ys : List Record) → a ∷ xs ≡ b ∷ ys → xs ≡ ys
tails a b xs ys e = cc

-- of the first of receipts of which nothing is filed, nothing is
files_first : (newest last last' : Option Record) (all none some filed more : List Record) → Files newest all none last
    → none ≡ [] → all ≡ some ++ more → Files newest some filed last' → filed ≡ []
files_first newest last last' all none some filed more (over n) e f (over m) = refl
files_first newest last last' all none some filed more (over n) e f (passed m l r rest those older files) =
    absurd (no_item r (rest ++ more) [] refl f)
files_first newest last last' all none some filed more (over n) e f (appended m l r rest those newer files) =
    absurd (no_item r (rest ++ more) [] refl f)
files_first newest last last' all none some filed more (passed n l r rest those older files) e f (over m) = refl
files_first newest last last' all none some filed more (passed n l r rest those older files) e f
    (passed m l' r' rest' those' older' files') =
    files_first n l l' rest those rest' those' more files e (tails r r' rest (rest' ++ more) f) files'
files_first newest last last' all none some filed more (passed n l r rest those older files) e f
    (appended m l' r' rest' those' newer files') =
    absurd (older_newer n r older (subst (IsNewer n) (sym (heads r r' rest (rest' ++ more) f)) newer))
files_first newest last last' all none some filed more (appended n l r rest those newer files) e f other =
    absurd (no_item r those (r ∷ those) e refl)

-- nothing goes on past a receipt of another taxi
not_past : (newest last last' : Option Record) (before none all filed more : List Record) (other : Record)
    → Files newest before none last → none ≡ [] → IsOther last other → all ≡ before ++ other ∷ more
    → Files newest all filed last' → ⊥
not_past newest last last' before none all filed more other (over n) e differs f (over m) = no_item other more [] refl f
not_past newest last last' before none all filed more other (over n) e differs f (passed m l r rest those older files) =
    other_older n r (subst (IsOther n) (sym (heads r other rest more f)) differs) older
not_past newest last last' before none all filed more other (over n) e differs f
    (appended m l r rest those newer files) =
    other_newer n r (subst (IsOther n) (sym (heads r other rest more f)) differs) newer
not_past newest last last' before none all filed more other (passed n l r rest those older files) e differs f (over m) =
    no_item r (rest ++ other ∷ more) [] refl f
not_past newest last last' before none all filed more other (passed n l r rest those older files) e differs f
    (passed m l' r' rest' those' older' files') =
    not_past n l l' rest those rest' those' more other files e differs
    (tails r' r rest' (rest ++ other ∷ more) f) files'
not_past newest last last' before none all filed more other (passed n l r rest those older files) e differs f
    (appended m l' r' rest' those' newer files') =
    older_newer n r older (subst (IsNewer n) (heads r' r rest' (rest ++ other ∷ more) f) newer)
not_past newest last last' before none all filed more other (appended n l r rest those newer files) e differs f other' =
    no_item r those (r ∷ those) e refl

-- ---- a roll again

-- the receipts of a roll were filed, to its end or as far as it may be read
again_whole : (newest last : Option Record) (more taken unread : List ℕ) (all filed receipts again : List Record)
    (then : Option Record) → AreOnRoll all (taken ++ more) → Files newest all filed last → Reads taken receipts unread
    → Files last receipts again then → again ≡ []
again_whole newest last more taken unread all filed receipts again then whole files reads anew =
    let first = beginning_first taken more unread all receipts whole reads in
    files_first last last then all [] receipts again first.0 (files_again newest last all filed files) refl first.1 anew

-- they were filed up to one of another taxi
again_other : (newest last : Option Record) (more taken unread : List ℕ) (place : ℕ) (filed receipts again : List
    Record) (then : Option Record) → EndsAt newest (taken ++ more) filed last place → Reads taken receipts unread
    → Files last receipts again then → again ≡ []
again_other newest last more taken unread place filed [] again then h reads anew =
    none_filed last then [] again refl anew
  where
    none_filed : (last then : Option Record) (receipts again : List Record) → receipts ≡ []
        → Files last receipts again then → again ≡ []
    none_filed last then receipts again e (over n) = refl
    none_filed last then receipts again e (passed n l r rest those older files) =
        absurd (no_item r rest (r ∷ rest) e refl)
    none_filed last then receipts again e (appended n l r rest those newer files) =
        absurd (no_item r rest (r ∷ rest) e refl)
again_other newest last more taken unread place filed (x ∷ xs) again then h reads anew =
    let longer = reads_longer taken unread (x ∷ xs) more reads (omega arith) in
    elim (reads_agree (taken ++ more) (x ∷ xs) (h.before ++ h.other ∷ []) longer.0 h.rest longer.1 h.reads) [
      | inl first ↦ by (x ∷ xs) again first anew
      | inr first ↦ absurd (past (x ∷ xs) again first anew)
    ]
  where
    filed_again : Files last h.before [] last
    filed_again = files_again newest last h.before filed h.files

    past : (receipts again : List Record) → IsFirst (h.before ++ h.other ∷ []) receipts
        → Files last receipts again then → ⊥
    past receipts again first anew =
        not_past last last then h.before [] receipts again first.0 h.other filed_again refl h.differs
        (first.1 ∙ append_assoc h.before (h.other ∷ []) first.0) anew

    -- it ends before the other taxi's, or is all of them
    by : (receipts again : List Record) → IsFirst receipts (h.before ++ h.other ∷ [])
        → Files last receipts again then → again ≡ []
    by receipts again first anew = elim (short_or_all receipts first.0 h.before h.other first.1) [
      | inl (rest, is) ↦ files_first last last then h.before [] receipts again rest filed_again refl is anew
      | inr all ↦ absurd (past receipts again ([], all ∙ sym (append-nil (h.before ++ h.other ∷ []))) anew)
    ]
      where
        short_or_all : (receipts more before : List Record) (other : Record) → before ++ other ∷ [] ≡ receipts ++ more
            → ((rest : List Record) × (before ≡ receipts ++ rest)) ⊎ (receipts ≡ before ++ other ∷ [])
        short_or_all receipts more before other e = by_more receipts more before other e (ends_by more)
          where
            -- a list is empty or has a last
            ends_by : (xs : List Record)
                → (xs ≡ []) ⊎ ((front : List Record) × ((last_one : Record) × (xs ≡ front ++ last_one ∷ [])))
            ends_by [] = inl refl
            ends_by (y ∷ ys) = elim (ends_by ys) [
              | inl none ↦ inr ([], (y, ap (λ (zs : List Record). y ∷ zs) none))
              | inr (front, (last_one, is)) ↦ inr (y ∷ front, (last_one, ap (λ (zs : List Record). y ∷ zs) is))
            ]

            same_front : (a b : List Record) (u v : Record) → a ++ u ∷ [] ≡ b ++ v ∷ [] → a ≡ b
            same_front [] [] u v e = refl
            same_front [] (y ∷ b) u v e = absurd (omega (arith, ap length e, length-append b (v ∷ [])))
            same_front (x ∷ a) [] u v e = absurd (omega (arith, ap length e, length-append a (u ∷ [])))
            same_front (x ∷ a) (y ∷ b) u v e =
                ap (λ (z : Record). z ∷ a) (heads x y (a ++ u ∷ []) (b ++ v ∷ []) e)
                ∙ ap (λ (zs : List Record). y ∷ zs) (same_front a b u v (tails x y (a ++ u ∷ []) (b ++ v ∷ []) e))

            by_more : (receipts more before : List Record) (other : Record) → before ++ other ∷ [] ≡ receipts ++ more
                → (more ≡ []) ⊎ ((front : List Record) × ((last_one : Record) × (more ≡ front ++ last_one ∷ [])))
                → ((rest : List Record) × (before ≡ receipts ++ rest)) ⊎ (receipts ≡ before ++ other ∷ [])
            by_more receipts more before other e (inl none) =
                inr (sym (e ∙ (ap (λ (ms : List Record). receipts ++ ms) none ∙ append-nil receipts)))
            by_more receipts more before other e (inr (front, (last_one, is))) =
                inl (
                  front,
                  same_front before (receipts ++ front) other last_one (e ∙ (ap (λ (ms : List Record). receipts ++ ms)
                      is ∙ sym (append_assoc receipts front (last_one ∷ [])))),
                )

-- ---- the ends of a filing

-- a receipt of another taxi among the bytes taken has its place in the roll as a whole
pub ends_in_roll : (newest last : Option Record) (taken more : List ℕ) (filed : List Record) (place : ℕ)
    → EndsAt newest taken filed last place → EndsAt newest (taken ++ more) filed last place
ends_in_roll newest last taken more filed place h =
    let longer = reads_longer taken h.rest (h.before ++ h.other ∷ []) more h.reads
    (omega (arith, length-append h.before (h.other ∷ []))) in
    record {
      before = h.before;
      other = h.other;
      rest = longer.0;
      reads = longer.1;
      files = h.files;
      differs = h.differs;
      place_is = h.place_is;
    }

-- the roll was read to its end, or up to one of another taxi, or as far as it may be
abbrev pub IsSettledEnd : FileEnd → Type 0
IsSettledEnd (ends.Filed count) = Unit {0}
IsSettledEnd (ends.OtherTaxi place) = Unit {0}
IsSettledEnd ends.TooLong = Unit {0}
IsSettledEnd ends.ReadFault = ⊥

pub again_by : (end : FileEnd) (newest last : Option Record) (roll rest rest' : List ℕ) (filed again : List Record)
    → IsSettledEnd end → EndsAs end newest roll rest filed last → IsFiledOf last roll rest' again → again ≡ []
again_by (ends.Filed count) newest last roll rest rest' filed again settled (none_left, (receipts, whole, files)) of =
    again_whole newest last rest' of.taken of.unread receipts filed of.receipts again of.last
    (subst (AreOnRoll receipts) of.roll_is whole) files of.reads of.files
again_by (ends.OtherTaxi place) newest last roll rest rest' filed again settled (taken, roll_is, h) of =
    again_other newest last rest' of.taken of.unread place filed of.receipts again of.last
    (subst (λ (r : List ℕ). EndsAt newest r filed last place) (sym roll_is ∙ of.roll_is)
    (ends_in_roll newest last taken rest filed place h)) of.reads of.files
again_by ends.TooLong newest last roll rest rest' filed again settled
    (taken, receipts, roll_is, long, whole, files) of =
    let there = more_of of.taken rest' taken rest (sym of.roll_is ∙ roll_is) (omega (arith, of.few, long)) in
    again_whole newest last there.0 of.taken of.unread receipts filed of.receipts again of.last
    (subst (AreOnRoll receipts) there.1 whole) files of.reads of.files
again_by ends.ReadFault newest last roll rest rest' filed again settled h of = absurd settled

ends_files : (end : FileEnd) (newest last : Option Record) (roll rest : List ℕ) (filed : List Record)
    → EndsAs end newest roll rest filed last → (receipts : List Record) × Files newest receipts filed last
ends_files (ends.Filed count) newest last roll rest filed (none_left, (receipts, whole, files)) = (receipts, files)
ends_files (ends.OtherTaxi place) newest last roll rest filed (taken, roll_is, h) = (h.before, h.files)
ends_files ends.TooLong newest last roll rest filed (taken, receipts, roll_is, long, whole, files) = (receipts, files)
ends_files ends.ReadFault newest last roll rest filed (taken, receipts, roll_is, whole, files) = (receipts, files)

-- the log that a filing leaves
pub again_nothing : (end : FileEnd) (found filed : List Record) (last : Option Record) (image roll rest : List ℕ)
    → IsSettledEnd end → EndsAs end (newest_of found) roll rest filed last
    → StandsFor (last_ones 256 (found ++ filed)) image → AppendsNothing image roll
again_nothing end found filed last image roll rest settled is stands records again rest' now of =
    let files = ends_files end (newest_of found) last roll rest filed is in
    let same = one_list image records (last_ones 256 (found ++ filed)) now stands in
    let newest = ap newest_of same ∙ newest_left found filed files.0 last files.1 in
    again_by end (newest_of found) last roll rest rest' filed again settled is
    (subst (λ (n : Option Record). IsFiledOf n roll rest' again) newest of)
