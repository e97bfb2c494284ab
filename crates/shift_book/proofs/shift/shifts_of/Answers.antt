use Rattle.std.proofs.{Common.{◌++◌, ◌∙◌, ◌∷◌, ◌≡◌, List, ap, subst, sym}, lemmas.List.{append_assoc}}
use Rattle.shift_book.specs.{Common.{Numbers, Shift}, ShareStages.{Rise}, Shares.{begun_by, next_point, shifts_in}}
use Rattle.shift_book.specs.Marks.{Signing}
use Rattle.shift_book.proofs.shift.shifts_of.Goals as goal

-- the shifts of the marks that are passed go on by those that one mark more begins
one_more : (now : Numbers) (all left : List Signing) (mark : Signing) (rest : List Signing) (old new : List Shift)
    → left ≡ mark ∷ rest → new ≡ old ++ begun_by mark (next_point now rest)
    → old ++ shifts_in now left ≡ shifts_in now all → new ++ shifts_in now rest ≡ shifts_in now all
one_more now all left mark rest old new first is so_far =
    ap (λ (l : List Shift). l ++ shifts_in now rest) is
    ∙ append_assoc old (begun_by mark (next_point now rest)) (shifts_in now rest)
    ∙ ap (λ (l : List Signing). old ++ shifts_in now l) (sym first) ∙ so_far

pub loop-mark-preserved : goal.loop-mark-preserved
loop-mark-preserved c =
    let first = c.in-Some.ensures.cases.0 in
    record {
      rise = (subst (λ (l : List Signing). Rise c.args.now.now l) first c.loop-mark.invariant.rise).1;
      so_far = one_more c.args.now.now c.args.marks.now c.loop-mark.left.now c.in-Some.mark.now c.in-Some.rest.now
          c.loop-mark.shifts.items c.push_shift.new.shifts.items first
          (c.in_ok-push_shift.ensures ∙ ap (λ (n : Numbers). c.loop-mark.shifts.items ++ begun_by c.in-Some.mark.now n)
          c.point_behind.ensures) c.loop-mark.invariant.so_far;
    }
