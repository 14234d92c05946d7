use Rattle.std.proofs.Common.{◌≡◌, ℕ, false, length, drop, sym, ap, ◌∙◌}
use Rattle.std.proofs.lemmas.List.{take_at, drop_at}
use Rattle.std.proofs.lemmas.Bool.{both_ways}
use Rattle.facts.specs.Flow.{rows}
use Rattle.facts.proofs.Memory.{suffices_parts, comer_sets_length}
use Rattle.facts.proofs.list_comers.Goals as goal

pub returns : goal.returns
returns g c =
    let f = g.K.WideFactKind.flow c.args.kind.now in
    let comers = c.args.comers.now in
    let part = c.list_all.new.sets in
    let rest = drop c.rows-n.result comers in
    let forward : f.backward ≡ false = sym c.if-backward.ensures in
    let room = (suffices_parts f (rows f) (length comers) c.requires).1 forward in
    let long : length part ≡ rows f = ap length c.list_all.ensures ∙ comer_sets_length f.next in
    record {
      tells = λ _. (room.1, (take_at part rest (rows f) long) ∙ c.list_all.ensures);
      unlent = λ b. absurd (both_ways f.backward forward b);
      untouched = drop_at part rest (rows f) long ∙ ap (λ (n : ℕ). drop n comers) c.rows-n.ensures;
    }
