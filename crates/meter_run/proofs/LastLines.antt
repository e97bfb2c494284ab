-- A line that is printed behind a run.
use Rattle.{std.specs.Option.{ForSome}, outside.proofs.Laws.{leaves_then, leaves_wider}}
use Rattle.std.proofs.{Common.{[], ℕ, ◌++◌, ◌∙◌, ◌∷◌, ◌≡◌, List, ap, inl, refl, subst, sym}, lemmas.List.{append-nil}}
use Rattle.meter_run.specs.Common.{Begins, Durable, Fits, Ghosts, HoldsState, KeepsStore, LeavesOnly, MayLeaveAmid}
use Rattle.meter_run.{specs.Common.{SameBut, Seal, TableParts}, proofs.Cuts.{cut_in_line, cut_longer, deeds_follow}}
use Rattle.meter_run.specs.{Deeds.{Deed, Prints, after_deeds}, PointLaws.{after_joined, left_has, text_next, turn_next}}
use Rattle.meter_run.specs.{OnStore.{HasBeside, WritesTotals}, Runs.{CutsLeave, HasDone, HasStopped}}
use Rattle.meter_run.{specs.Points.{HasEntries, IsCutOfDeeds}, proofs.BoardDeeds.{settled_kept}}
use Rattle.meter_run.specs.StoreLaws.{beside_more}

module _ {D L : Type 0} {N : ℕ} (B : Ghosts D N L) (tables : TableParts) (seal : Seal) (a b c : D) (d : Durable)
    (deeds : List Deed) (line : List ℕ) (entries : HasEntries d.number deeds)
    (done : HasDone B tables seal a b d deeds) (beside : WritesTotals B a b) (kept : KeepsStore B b c)
    (run : LeavesOnly B b c (MayLeaveAmid (B.image b) (B.in_flight b) (B.printed b) line)) where
  -- what a cut in the line leaves
  in_line : (i x : List ℕ) → SameBut (B.in_flight b) (B.image b) i → (B.tells_text → Begins (B.printed b) x line)
      → IsCutOfDeeds tables seal B.tells_text d (B.printed a) (deeds ++ Prints line ∷ []) i x
  in_line i x same begun = cut_in_line tables seal B.tells_text d (B.printed a) deeds line i x entries
      (record {
        has = left_has done.opens.place (after_deeds d deeds) (B.image b) (B.in_flight b) i done.opens.settled same;
        fits = done.opens.fits;
      })
      (λ t. subst (λ (p : List ℕ). Begins p x line) (done.printed t) (begun t))

  beside_line : (i x : List ℕ) → MayLeaveAmid (B.image b) (B.in_flight b) (B.printed b) line i x → HasBeside B a i
  beside_line i x amid = record {
    bytes = beside_more (B.in_flight a) (B.in_flight b) (B.image a) (B.image b) i beside.flight beside.rest
        (record { size = amid.bytes.size; rest = λ place none. amid.bytes.rest place (λ flies. none (inl flies)) });
    small = amid.small;
  }

  abbrev Cut : List Deed → List ℕ → List ℕ → Type 0
  Cut xs i x = IsCutOfDeeds tables seal B.tells_text d (B.printed a) xs i x × HasBeside B a i

  line_cuts : CutsLeave B tables seal a c d (deeds ++ Prints line ∷ [])
  line_cuts = leaves_then B (Cut (deeds ++ Prints line ∷ [])) a b c
      (leaves_wider B (Cut deeds) (Cut (deeds ++ Prints line ∷ [])) a b (λ i x cut.
      (cut_longer tables seal B.tells_text d (B.printed a) deeds (Prints line ∷ []) i x cut.0, cut.1)) done.cuts)
      (leaves_wider B (MayLeaveAmid (B.image b) (B.in_flight b) (B.printed b) line) (Cut (deeds ++ Prints line ∷ [])) b
      c (λ i x amid. (in_line i x amid.bytes (λ t. amid.text), beside_line i x amid)) run)

  -- a part of it was printed
  pub line_begun : (B.tells_text → Begins (B.printed b) (B.printed c) line)
      → HasStopped B tables seal a c d (deeds ++ Prints line ∷ [])
  line_begun begun = record {
    stops = in_line (B.image c) (B.printed c) (subst (λ (i : List ℕ). SameBut (B.in_flight b) (B.image b) i)
        (sym kept.same) (record { size = refl; rest = λ place none. refl })) begun;
    cuts = line_cuts;
  }

  -- all of it was
  pub line_whole : (B.tells_text → B.printed c ≡ B.printed b ++ line)
      → HasDone B tables seal a c d (deeds ++ Prints line ∷ [])
  line_whole whole = record {
    printed = text_next B tables seal a b c deeds (Prints line ∷ []) done.printed
        (λ t. whole t ∙ ap (λ (p : List ℕ). B.printed b ++ p) (sym (append-nil line)));
    opens = record {
      place = done.opens.place;
      settled =
          subst (λ (e : Durable). HoldsState B done.opens.place c e) (sym (after_joined d deeds (Prints line ∷ [])))
          (settled_kept B done.opens.place (after_deeds d deeds) b c kept done.opens.settled);
      fits = subst (λ (e : Durable). ForSome e.hold (Fits tables))
          (sym (after_joined d deeds (Prints line ∷ []))) done.opens.fits;
    };
    follows = deeds_follow d (deeds ++ Prints line ∷ []);
    turn = turn_next B a b c d deeds (Prints line ∷ []) done.turn kept;
    cuts = line_cuts;
  }
