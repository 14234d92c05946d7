use Rattle.std.proofs.Common.{◌≡◌, ℕ, ◌/◌, List, ◌∙◌, refl, ap, length, Some, vec_len, rules, arith}
use Rattle.std.proofs.lemmas.List.{take-append-le, take_all}
use Rattle.hexwords.proofs.Spelling.{decoded_half, spelled_ok, spelled_err}
use Rattle.hexwords.proofs.spell.Goals as goal

pub returns-in-Ok : goal.returns-in-Ok
returns-in-Ok c =
    let bytes = c.decode_to_slice.new.out in
    let room : length c.as_mut_slice.result.now ≡ length c.args.digits.now / 2 = search rules in
    let same : vec_len c.resize.new.self ≡ length bytes = search rules in
    let out : c.as_slice.result.now ≡ bytes = c.as_slice.ensures.value ∙ (take-append-le _ bytes _ (omega (arith, same)) ∙ take_all _ bytes (omega (arith, same))) in
    let value = ap (λ (xs : List ℕ). Some xs) out ∙ (spelled_ok _ c.decode_to_slice.result _ c.decode_to_slice.ensures.value c.in-Ok.is ∙ decoded_half c.args.digits.now _ room) in
    ((refl, λ _. tt, c.as_slice.ensures.value), record { after_borrow = tt; bytes = value })

pub returns-in-Err : goal.returns-in-Err
returns-in-Err c =
    let room : length c.as_mut_slice.result.now ≡ length c.args.digits.now / 2 = search rules in
    let value = spelled_err _ c.decode_to_slice.result _ _ c.decode_to_slice.ensures.value c.in-Err.is ∙ decoded_half c.args.digits.now _ room in
    ((refl, λ _. tt, tt), record { after_borrow = tt; bytes = value })
