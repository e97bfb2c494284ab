use Rattle.std.proofs.Common.{[], ◌++◌, ◌+◌, ◌∙◌, ◌∷◌, ◌≡◌, List, None, arith, rules, subst, sym}
use Rattle.{std.proofs.lemmas.Grind.{common_steps}, shift_book.proofs.LongerBooks.{begins_more, rest_shrinks}}
use Rattle.shift_book.specs.{BookReading.{next_at}, Books.{Begins, IsNext}, MarkOrder.{Fit, last_of}, Marks.{Signing}}
use Rattle.shift_book.proofs.BookAnswers.{bad_line_is_read, book_is_read, found_next, marks_have_bytes, none_next}
use Rattle.shift_book.proofs.book.read_book.Goals as goal

pub loop-rest-preserved : goal.loop-rest-preserved
loop-rest-preserved c =
    let items : c.push.new.self.items ≡ c.loop-rest.marks.items ++ c.in-Some.mark ∷ [] = search rules in
    let next = subst (λ (marks : List Signing). IsNext c.args.now.now
    (last_of marks) c.loop-rest.rest.now c.in-Some.mark c.in-Some.after.now)
    c.as_slice.ensures.value (found_next c.args.now.now (last_of c.as_slice.result.now) c.loop-rest.rest.now
    (c.in-Some.mark, c.in-Some.after.now) c.in-Some.ensures) in
    subst (λ (marks : List Signing). Begins c.args.now.now c.args.text.now marks c.in-Some.after.now) (sym items)
    (begins_more c.args.now.now c.args.text.now c.loop-rest.marks.items c.loop-rest.rest.now c.in-Some.mark
    c.in-Some.after.now c.loop-rest.invariant next)

pub loop-rest-smaller : goal.loop-rest-smaller
loop-rest-smaller c =
    rest_shrinks c.args.now.now (last_of c.as_slice.result.now) c.loop-rest.rest.now c.in-Some.mark c.in-Some.after.now
    (found_next c.args.now.now (last_of c.as_slice.result.now) c.loop-rest.rest.now
    (c.in-Some.mark, c.in-Some.after.now) c.in-Some.ensures)

pub returns-clause-marks : goal.returns-clause-marks
returns-clause-marks c =
    let none : c.loop-rest.rest.now ≡ [] = grind (arith, common_steps) in
    book_is_read c.args.now.now c.args.text.now c.loop-rest.marks.items
    (subst Fit c.numbers_in-limit.ensures.numbers c.numbers_in-limit.ensures.fit)
    (record {
      few = c.if-text-gt-LONGEST.false;
      begins = subst (Begins c.args.now.now c.args.text.now c.loop-rest.marks.items) none c.loop-rest.invariant;
    })

pub returns-clause-few : goal.returns-clause-few
returns-clause-few c =
    marks_have_bytes c.args.now.now c.args.text.now c.loop-rest.marks.items c.loop-rest.rest.now c.loop-rest.invariant

pub returns-in-None-clause-meaning : goal.returns-in-None-clause-meaning
returns-in-None-clause-meaning c = record {
  few = c.if-text-gt-LONGEST.false;
  marks = c.loop-rest.marks.items;
  rest = c.loop-rest.rest.now;
  begins = c.loop-rest.invariant;
  breaks = record {
    more = grind (arith, common_steps);
    bad = none_next c.args.now.now (last_of c.loop-rest.marks.items) c.loop-rest.rest.now
        (subst Fit c.numbers_in-limit.ensures.numbers c.numbers_in-limit.ensures.fit)
        (subst (λ (marks : List Signing). next_at c.args.now.now (last_of marks) c.loop-rest.rest.now ≡ None)
        c.as_slice.ensures.value c.in-None.ensures);
  };
  place = search rules;
}

pub returns-in-None-clause-refused : goal.returns-in-None-clause-refused
returns-in-None-clause-refused c fault is not =
    let bad = bad_line_is_read c.args.now.now c.args.text.now (c.len.result + 1)
    (subst Fit c.numbers_in-limit.ensures.numbers c.numbers_in-limit.ensures.fit)
    (returns-in-None-clause-meaning c) in
    bad ∙ cc
