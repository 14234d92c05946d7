use Rattle.std.proofs.Common.{◌≡◌, ℕ, ◌<◌, min, max, Bool, true, false, sym, ap, ◌∙◌, inl, inr, arith}
use mathlib.Core.Path.{fun_ext}
use Rattle.std.proofs.lemmas.Bool.{cases_Bool}
use Rattle.sets.specs.Sets.{has}
use Rattle.sets.specs.Words.{sets_of}
use Rattle.rounds.specs.Interference.{Graph, beside}
use Rattle.rounds.specs.Pressure.{passes}
use Rattle.rounds.specs.Coalescing.{contracted, merged, heavy, mergeable}
use Rattle.coalescing.specs.Merges.{graph_of}
use Rattle.coalescing.proofs.Coalescing.{not_itself, not_hard, if_light, merged_classes, merged_edges}
use Rattle.coalescing.proofs.Merging.mergeable.Goals as goal

apart : (x y low high : ℕ) → low < high → low ≡ min x y → high ≡ max x y → x ≡ y → ⊥
apart x y low high l p q e = omega arith

pub returns-in_err-pair : goal.returns-in_err-pair
returns-in_err-pair g c =
    let s = c.args.self.now in
    rw c.from_residual.ensures (not_itself (g.F.RegisterFile.model s.weighing.file.now) (graph_of s.weighing.variables.now s.merged.now s.weighing.edges.now s.hard.now) c.args.x c.args.y c.in_err-pair.ensures)

pub returns-then-contains : goal.returns-then-contains
returns-then-contains g c =
    let s = c.args.self.now in
    let p = c.in_ok-pair.pair in
    let y = c.args.y in
    let h : has (beside (sets_of s.hard.now) c.args.x) y ≡ true = ap (λ (z : ℕ). has z y) (sym c.beside.ensures) ∙ sym c.if-contains.ensures in
    not_hard (g.F.RegisterFile.model s.weighing.file.now) (graph_of s.weighing.variables.now s.merged.now s.weighing.edges.now s.hard.now) c.args.x y (apart c.args.x y p.low p.high p.two c.in_ok-pair.ensures.0 c.in_ok-pair.ensures.1) h

pub returns : goal.returns
returns g c =
    let s = c.args.self.now in
    let m = g.F.RegisterFile.model s.weighing.file.now in
    let x = c.args.x in
    let y = c.args.y in
    let p = c.in_ok-pair.pair in
    let low = c.in_ok-pair.ensures.0 in
    let high = c.in_ok-pair.ensures.1 in
    let was : Graph = graph_of s.weighing.variables.now s.merged.now s.weighing.edges.now s.hard.now in
    let h : Graph = merged x y was in
    let free : has (beside (sets_of s.hard.now) x) y ≡ false = ap (λ (z : ℕ). has z y) (sym c.beside.ensures) ∙ sym c.if-contains.ensures in
    let edges : h.edges ≡ contracted p.low p.high (sets_of s.weighing.edges.now) = rw (low, high) (merged_edges x y was) in
    let is : mergeable m was x y ≡ c.passes.result = sym (c.passes.ensures h (merged_classes x y was)
    ∙ ap (λ (t : ℕ → Bool). passes m h p.low t) (fun_ext (c.heavy_beside-heavy.ensures h (merged_classes x y was) edges))
    ∙ ap (λ (v : ℕ). passes m h v (heavy m h v)) low
    ∙ sym (if_light m was x y (apart x y p.low p.high p.two low high) free)) in
    elim (cases_Bool c.passes.result) [
      | inl e ↦ rw (c.then_some.ensures, e) (is ∙ e, low, high)
      | inr e ↦ rw (c.then_some.ensures, e) (is ∙ e)
    ]
