use Rattle.std.proofs.Common.{ℕ, ◌+◌, ◌*◌, List, [], ◌∷◌, ◌++◌, option_to_list, get_or, ap, ◌∙◌, arith}
use Rattle.rows.specs.Rows.{shape, reads, writes}
use Rattle.rounds.specs.Simplify.{members_in}
use Rattle.simplify.proofs.Costs.{listed, row_charged, prices_are}
use Rattle.simplify.proofs.charge_row.Goals as goal

pub returns-clause-exact : goal.returns-clause-exact
returns-clause-exact c = λ gr e k h.
    let row = c.args.row in
    let price : ℕ = get_or (1 ∷ 10 ∷ 100 ∷ 1000 ∷ []) row.weight 0 in
    let s = shape row.op in
    row_charged gr k row price _ _ _ _
    (c.charge.ensures.exact gr e k h ∙ ap (λ (xs : List ℕ). members_in gr k xs * price + get_or c.args.costs.now k 0) (ap option_to_list c.first_read.ensures ∙ listed s.a row.a))
    (c.charge-2.ensures.exact gr e k (omega arith) ∙ ap (λ (xs : List ℕ). members_in gr k xs * price + get_or c.charge.new.costs k 0) (ap option_to_list c.second_read.ensures ∙ listed s.b row.b))
    (c.charge-3.ensures.exact gr e k (omega arith) ∙ ap (λ (xs : List ℕ). members_in gr k xs * price + get_or c.charge-2.new.costs k 0) (ap option_to_list c.written.ensures ∙ listed s.d row.d))
    ∙ ap (λ (n : ℕ). members_in gr k (reads row ++ writes row) * n + get_or c.args.costs.now k 0) (prices_are row.weight c.requires.0)
