use Rattle.std.{specs.Int.{w32}, proofs.{Common.{◌∙◌, arith, refl, subst, sym}, lemmas.Int.{ints, to_z-of_z}}}
use Rattle.seal_record.{specs.Ranges.{IsDay}, proofs.Ranged.{same_params}}
use Rattle.seal_record.proofs.decoding.params_in.Goals as goal

pub returns : goal.returns
returns c =
    let there = to_z-of_z w32 c.signed_at-secured.result c.signed_at-secured.ensures.fits in
    let day : IsDay c.signed_at-secured.result =
    (omega (arith, ints, c.if-secured-lt-FIRST_DAY.false), omega (arith, ints, c.if-secured-gt-LAST_DAY.false)) in (
      same_params _ _ c.in_ok-taxi.ensures.0 (c.in-Ok.ensures.value ∙ c.four_at.ensures) c.mode_in.ensures
          c.two_at-hold_time.ensures c.in_ok-offsets.ensures.0 (there ∙ c.signed_at-secured.ensures.value),
      record {
        taxi = c.in_ok-taxi.ensures.1;
        constant = let range = c.in-Ok.ensures.in_range.0 refl in
            (omega (arith, range.0, c.in-Ok.ensures.value), omega (arith, range.1, c.in-Ok.ensures.value));
        hold_time = omega (arith, c.if-hold_time-gt-LONGEST_HOLD.false);
        secured = subst IsDay (sym there) day;
        offsets = c.in_ok-offsets.ensures.1;
      },
    )
