use Rattle.std.proofs.Common.{[], ◌∙◌, ◌≡◌, Err, Result, ap, ap₂, arith, inl, inr, refl, sym, ⊎_elim}
use Rattle.{call_ends.specs.Reads.{GoesTo}, tariff_commands.proofs.ComparedTariffs.{read_other}}
use Rattle.call_ends.proofs.Laws.{ends-plain, fails-text, goes-none, goes-on, makes-answer, makes-failing, makes-none}
use Rattle.call_ends.proofs.Laws.{no_fault, not_board-text, read_fault-text, reads-bad, reads-ok, refuses-bad}
use Rattle.tariff_commands.specs.{Common.{Refusal, Tree, ended_for, tariff_in, tree_of}, CompareSteps.{ended_for_other}}
use Rattle.tariff_commands.specs.Compare.{compare_answer, compare_command}
use Rattle.tariff_commands.proofs.ComparedTariffs.{board_other, compared_answer, compares, fails_other, plain_comparing}
use Rattle.tariff_commands.proofs.compare.compare_words.Goals as goal

-- the first tariff wasn't read
pub returns-in-Err : goal.returns-in-Err
returns-in-Err g c = λ image. let f = c.read_tariff.ensures in let fault = c.in-Err.fault in
    let k = c.args.constant in
    let other = tariff_in (g.F.Files.rest c.args.files.now 2) in
    rw c.refused_by.ensures (makes-failing (compares k) 1 [] (goes-none c.args.files.now)
    (reads-bad f.read_fault f.others f.counts ended_for c.in-Err.is (read_fault-text fault) refl
    (not_board-text fault)) refl (omega arith)
    (inl refl) (λ tells. inl (refl, tt)) (λ tells. refl) (λ tells. tt)
    (λ tells. fails-text fault (λ why e. ends-plain (compares k) (refuses-bad
    (ap (λ (r : Result Tree Refusal). compare_answer k r other) (f.refused why tells (c.in-Err.is ∙ ap Err e)))))))

-- the other one wasn't read
pub returns-in-Err-read_tariff : goal.returns-in-Err-read_tariff
returns-in-Err-read_tariff g c = λ image.
    let k = c.args.constant in
    let files = c.args.files.now in
    let f = c.read_tariff.ensures in
    let s = c.read_tariff-2.ensures in
    let t = tree_of c.in-Ok.one in
    let fault = c.in-Err-read_tariff.fault in
    let goes : GoesTo g.F.Files (compare_command k) image g.F.Files.tells 0 files c.read_tariff.new.files =
    goes-on 1 [] (goes-none files) (reads-ok f.read_fault f.others f.counts c.in-Ok.ensures.ended c.in-Ok.is) (omega
    arith) (inl refl)
    (λ tells. inl (refl, tt)) (no_fault _ _ _ refl) in
    rw c.refused_other.ensures
    (makes-failing (compares k) 2 [] goes
    (reads-bad s.read_fault s.others s.counts ended_for_other c.in-Err-read_tariff.is (read_other fault) refl
    (board_other fault)) refl (omega arith) (inr refl)
    (λ tells. inr (refl, record { tree = t; reads = c.in-Ok.ensures.found tells })) (λ tells. refl) (λ tells. tt)
    (λ tells. fails_other fault (λ why e. ends-plain (compares k) (record {
      is = ap₂ (compare_answer k) (c.in-Ok.ensures.found tells)
          (ap tariff_in (sym (f.others 2 (λ e. absurd (omega (arith, e)))))
          ∙ s.refused why tells (c.in-Err-read_tariff.is ∙ ap Err e));
      final = refl;
    }))))

-- there was no memory for a comparison
pub returns : goal.returns
returns g c = λ image.
    let files = c.args.files.now in
    let f = c.read_tariff.ensures in
    let s = c.read_tariff-2.ensures in
    let goes : GoesTo g.F.Files (compare_command c.args.constant) image g.F.Files.tells 1 files
    c.read_tariff-2.new.files =
    goes-on 2 [] (goes-on 1 [] (goes-none files) (reads-ok f.read_fault f.others f.counts c.in-Ok.ensures.ended
    c.in-Ok.is)
    (omega arith) (inl refl) (λ tells. inl (refl, tt)) (no_fault _ _ _ refl))
    (reads-ok s.read_fault s.others s.counts c.in-Ok-read_tariff.ensures.ended c.in-Ok-read_tariff.is) (omega arith)
    (inr refl)
    (λ tells. inr (refl, record { tree = tree_of c.in-Ok.one; reads = c.in-Ok.ensures.found tells }))
    (no_fault _ _ _ refl) in
    makes-none (compares c.args.constant) [] goes (λ tells. refl) (λ tells. tt)

-- both were read
pub returns-in-Ok-compare : goal.returns-in-Ok-compare
returns-in-Ok-compare g c = λ image.
    let k = c.args.constant in
    let files = c.args.files.now in
    let new = c.read_tariff-2.new.files in
    let f = c.read_tariff.ensures in
    let s = c.read_tariff-2.ensures in
    let made = c.in-Ok-compare.made in
    let goes : GoesTo g.F.Files (compare_command k) image g.F.Files.tells 1 files new =
    goes-on 2 [] (goes-on 1 [] (goes-none files) (reads-ok f.read_fault f.others f.counts c.in-Ok.ensures.ended
    c.in-Ok.is)
    (omega arith) (inl refl) (λ tells. inl (refl, tt)) (no_fault _ _ _ refl))
    (reads-ok s.read_fault s.others s.counts c.in-Ok-read_tariff.ensures.ended c.in-Ok-read_tariff.is) (omega arith)
    (inr refl)
    (λ tells. inr (refl, record { tree = tree_of c.in-Ok.one; reads = c.in-Ok.ensures.found tells }))
    (no_fault _ _ _ refl) in
    makes-answer (compares k) made.text.items made.ended goes (plain_comparing _ c.in-Ok-compare.ensures.ended)
    (λ tells. ap₂ (compare_answer k) (c.in-Ok.ensures.found tells)
    (ap tariff_in (sym (f.others 2 (λ e. absurd (omega (arith, e))))) ∙ c.in-Ok-read_tariff.ensures.found tells)
    ∙ compared_answer _ c.in-Ok-compare.ensures.ended c.in-Ok-compare.ensures.text)
    (λ tells final word reads. ⊎_elim
    (λ (e : word ≡ 1). ap (g.F.Files.rest new) e
    ∙ (s.others 1 (λ f. absurd (omega (arith, f))) ∙ c.in-Ok.ensures.ended tells))
    (λ (e : word ≡ 2). ap (g.F.Files.rest new) e ∙ c.in-Ok-read_tariff.ensures.ended tells) reads)
