use Rattle.std.proofs.Common.{ℕ, ◌++◌, ◌+◌, ◌∙◌, ◌≡◌, IsOk, List, ap, append_assoc, arith, decimal, length}
use Rattle.{std.proofs.Common.{length-append}, drive_text.proofs.Decimals.{decimal_short, where_ok}}
use Rattle.drive_text.proofs.written.put_numbered.Goals as goal

pub returns : goal.returns
returns c =
    let name : c.put_bytes.new.line.items ≡ c.args.draft.now.items ++ c.args.name.now = c.in_ok-put_bytes.ensures.ok in
    let more : length c.put_bytes.new.line.items ≡ length c.args.draft.now.items + length c.args.name.now =
    ap length name ∙ length-append c.args.draft.now.items c.args.name.now in
    let fits : IsOk c.put_number.result =
    c.put_number.ensures.variant.1 (omega (arith, more, decimal_short c.args.number c.requires.number)) in
    let number = where_ok c.put_number.result _ fits c.put_number.ensures.ok in
    let all : c.put_number.new.line.items ≡ c.args.draft.now.items ++ (c.args.name.now ++ decimal c.args.number) =
    number ∙ (ap (λ (l : List ℕ). l ++ decimal c.args.number) name
    ∙ append_assoc c.args.draft.now.items c.args.name.now (decimal c.args.number)) in
    record {
      always = fits;
      fields = all;
      len = omega (
        arith,
        ap length all,
        length-append c.args.draft.now.items (c.args.name.now ++ decimal c.args.number),
        length-append c.args.name.now (decimal c.args.number),
        decimal_short c.args.number c.requires.number,
      );
    }
