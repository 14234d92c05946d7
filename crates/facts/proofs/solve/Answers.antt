use Rattle.std.proofs.Common.{◌≡◌, ℕ, List, ◌++◌, length, take, drop, sym, ap, ◌∙◌, subst}
use Rattle.std.proofs.lemmas.List.{take_at, drop_at}
use Rattle.facts.specs.Flow.{rows, at, solved, Least}
use Rattle.facts.proofs.Sweeping.{solved_length, solved_least}
use Rattle.facts.proofs.solve.Goals as goal

pub returns : goal.returns
returns g c =
    let k = c.args.kind.now in
    let f = g.K.WideFactKind.flow k in
    let facts = c.args.facts.now in
    let part = c.settle.new.facts in
    let rest = drop c.rows-n.result facts in
    let long : length part ≡ rows f = ap length c.settle.ensures ∙ solved_length f in
    let is : (take (rows f) (part ++ rest)) ≡ solved f = (take_at part rest (rows f) long) ∙ c.settle.ensures in
    record {
      room = c.if-not-memory_suffices.ensures;
      answer = record {
        facts = is;
        past = drop_at part rest (rows f) long ∙ ap (λ (n : ℕ). drop n facts) c.rows-n.ensures;
        least = subst (λ (xs : List ℕ). Least f (at f xs)) (sym is) (solved_least f (g.K.WideFactKind.lawful k));
        tells = c.list_comers.ensures.tells;
        unlent = c.list_comers.ensures.unlent;
        untouched = c.list_comers.ensures.untouched;
      };
    }
