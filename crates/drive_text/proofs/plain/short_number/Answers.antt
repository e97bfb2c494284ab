use Rattle.std.{specs.Char.{is_ascii_digit}, proofs.Common.{◌∙◌, ◌≡◌, arith, slice_index_or, sym, true}}
use Rattle.drive_text.proofs.PlainLines.{begins_with_number, digit_more, room_for_a_digit}
use Rattle.drive_text.proofs.plain.short_number.Goals as goal

pub overflow_mul-number : goal.overflow_mul-number
overflow_mul-number c =
    let small = room_for_a_digit c.args.bytes.now c.loop-count.count c.loop-count.number c.if-count-lt5.true
    c.loop-count-test.true c.loop-count.invariant.digits c.loop-count.invariant.value in
    omega (arith, small)

pub overflow_add-number : goal.overflow_add-number
overflow_add-number c =
    let small = room_for_a_digit c.args.bytes.now c.loop-count.count c.loop-count.number c.if-count-lt5.true
    c.loop-count-test.true c.loop-count.invariant.digits c.loop-count.invariant.value in
    let byte = c.type_inv.bytes c.loop-count.count in
    omega (arith, small, byte)

pub loop-count-preserved : goal.loop-count-preserved
loop-count-preserved c =
    let digit : is_ascii_digit (slice_index_or c.args.bytes.now c.loop-count.count 0) ≡ true =
    sym c.is_ascii_digit.ensures.value ∙ c.if-not-is_ascii_digit.false in
    let more = digit_more c.args.bytes.now c.loop-count.count c.loop-count.number c.loop-count-test.true digit
    c.loop-count.invariant.digits c.loop-count.invariant.value in
    record {
      within = omega (arith, c.loop-count-test.true);
      few = omega (arith, c.if-count-lt5.true);
      digits = more.0;
      value = more.1;
    }

pub returns : goal.returns
returns c = begins_with_number c.args.bytes.now c.loop-count.count c.loop-count.number c.if-count-eq0.false
    c.loop-count.invariant.within c.loop-count.invariant.few c.loop-count.invariant.digits c.loop-count.invariant.value
