use Rattle.std.proofs.Common.{◌≡◌, ℕ, ◌+◌, ◌*◌, ◌<◌, List, length, ap, ◌∙◌, arith}
use Rattle.std.proofs.lemmas.Result.{err_from_is_err_and}
use Rattle.source.specs.Bits.{field}
use Rattle.source.proofs.Parts.{headed, headed_none}
use Rattle.source.proofs.read_header.Goals as goal

pub returns-in_err-vars-clause-headed : goal.returns-in_err-vars-clause-headed
returns-in_err-vars-clause-headed c =
    let a = c.in_err-vars.ensures in
    let p = err_from_is_err_and c.from_residual.result c.from_residual.ensures.1 in
    headed_none c.args.reader.now.file.now _ p.0 _ (omega (arith, a.taken.0)) (p.2 ∙ a.taken.1) p.1

pub returns-in_err-count-clause-headed : goal.returns-in_err-count-clause-headed
returns-in_err-count-clause-headed c =
    let a = c.in_ok-vars.ensures in
    let b = c.in_err-count.ensures in
    let p = err_from_is_err_and c.from_residual-in_err-count.result c.from_residual-in_err-count.ensures.1 in
    let short : length c.args.reader.now.file.now < 2 = omega (arith, a.taken.2, b.taken.0, ap length a.whole) in
    headed_none c.args.reader.now.file.now _ p.0 _ short (p.2 ∙ b.taken.1) p.1

pub returns-clause-headed : goal.returns-clause-headed
returns-clause-headed c =
    let a = c.in_ok-vars.ensures in
    let b = c.in_ok-count.ensures in
    let bs = c.args.reader.now.file.now in
    let second : 8 * c.take.new.self.byte + c.take.new.self.bit ≡ 8 = omega (arith, a.taken.2) in
    headed bs _ _ _ _ _ (omega (arith, a.taken.2, b.taken.0, ap length a.whole)) c.requires.whole
    (a.taken.1 ∙ ap (λ (p : ℕ). field bs p 8) c.requires.first)
    (b.taken.1 ∙ ap (λ (f : List ℕ). field f (8 * c.take.new.self.byte + c.take.new.self.bit) 8) a.whole ∙ ap (λ (p : ℕ). field bs p 8) second)
    (omega (arith, a.taken.2, b.taken.2)) c.checked.ensures
