use Rattle.std.proofs.Common.{ℕ, Bool, not, ◌&&◌, sym, ap, ◌∙◌}
use Rattle.sets.specs.Sets.{has}
use Rattle.sets.specs.Words.{sets_of}
use Rattle.rounds.specs.Interference.{Graph, beside}
use Rattle.rounds.specs.Pressure.{passes}
use Rattle.rounds.specs.Coalescing.{renamed}
use Rattle.graphs.specs.Graphs.{drawn}
use Rattle.graphs.proofs.Drawing.{passes_alike}
use Rattle.coalescing.specs.Pairs.{near_both}
use Rattle.coalescing.proofs.Contracting.{heavy_is}
use Rattle.coalescing.proofs.Merging.heavy_beside.Goals as goal

pub returns : goal.returns
returns g c = λ h a b k.
    let m = g.F.RegisterFile.model c.args.self.now.weighing.file.now in
    let p = c.args.pair in
    let es = sets_of c.args.self.now.weighing.edges.now in
    let gr : Graph = drawn c.args.self.now.weighing in
    let t : ℕ → Bool = λ j. not (passes m gr j (has (renamed p.low p.high (beside es j)))) in
    c.filter.ensures k
    ∙ ap (λ (z : ℕ). has z k && t k) c.beside.ensures
    ∙ ap (λ (b : Bool). has (near_both p.low p.high es) k && not b) (sym (passes_alike m h gr a k (has (renamed p.low p.high (beside es k)))))
    ∙ sym (heavy_is m h p.low p.high es p.two b k)
