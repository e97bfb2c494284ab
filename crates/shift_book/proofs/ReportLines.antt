-- The report from its lines.
use Rattle.std.proofs.Common.{[], ℕ, ◌++◌, ◌∙◌, ◌≡◌, List, append_assoc, arith, codes, refl}
use Rattle.shift_book.specs.Common.{Numbers, Shift}
use Rattle.shift_book.specs.{Marks.{Signing}, Shares.{AreOrdered, AreSums, Driver, growth_in, shifts_in, unsigned_in}}
use Rattle.shift_book.specs.Report.{IsReport, driver_lines, growth_text, report_text, shift_lines}
use Rattle.shift_book.{specs.ShareStages.{Rise, with_shifts}, proofs.GrowthSums.{shifts_add_up}}

-- texts behind one another
assembled : (s d u g r0 r1 r2 r3 r4 : List ℕ) → r0 ≡ [] → r1 ≡ r0 ++ s → r2 ≡ r1 ++ d → r3 ≡ r2 ++ u → r4 ≡ r3 ++ g
    → r4 ≡ s ++ (d ++ (u ++ g))
assembled s d u g r0 r1 r2 r3 r4 e0 e1 e2 e3 e4 = rw (e4, e3, e2, e1, e0) (simp append_assoc)

pub text_is : (decimals : ℕ) (now : Numbers) (marks : List Signing) (listed : List Shift)
    (sums : List (Driver × Numbers)) (unsigned growth : Numbers)
    (r0 r1 r2 r3 r4 : List ℕ) → listed ≡ shifts_in now marks → sums ≡ with_shifts [] listed
    → unsigned ≡ unsigned_in now marks → growth ≡ growth_in now marks
    → r0 ≡ [] → r1 ≡ r0 ++ shift_lines decimals 1 listed → r2 ≡ r1 ++ driver_lines decimals sums
    → r3 ≡ r2 ++ (codes "UNSIGNED" ++ growth_text decimals unsigned)
    → r4 ≡ r3 ++ (codes "GROWTH" ++ growth_text decimals growth) → r4 ≡ report_text decimals now marks
text_is decimals now marks listed sums unsigned growth r0 r1 r2 r3 r4 l t u g e0 e1 e2 e3 e4 =
    assembled _ _ _ _ r0 r1 r2 r3 r4 e0 e1 e2 e3 e4 ∙ rw (t, u, g, l) refl

-- what the report says if the drivers' sums are in order and share the shifts
pub report_is : (decimals : ℕ) (now : Numbers) (marks : List Signing)
    → AreOrdered (with_shifts [] (shifts_in now marks))
    → AreSums (with_shifts [] (shifts_in now marks)) (shifts_in now marks) → Rise now marks
    → IsReport decimals now marks (report_text decimals now marks)
report_is decimals now marks ordered are rise =
    record {
      sums = with_shifts [] (shifts_in now marks);
      text_is = refl;
      ordered = ordered;
      are_sums = are;
      shifts_add_up = shifts_add_up now marks rise;
      drivers_add_up = λ c. omega (arith, are.all c, shifts_add_up now marks rise c);
    }
