-- What every program that came from a file has room for.
use Rattle.std.proofs.Common.{ℕ, ◌≤◌, refl, arith}
use mathlib.Core.Logic.{∥∥₁_elim}
use native.Mathlib.Bridge.{le_prop}
use Rattle.registers.specs.Model.{Model, Lawful}
use Rattle.rounds.specs.Interference.{node_at}
use Rattle.rounds.specs.Round.{round}
use Rattle.compiling.specs.Working.{Working, unspilled, round_of}
use Rattle.compiling.specs.Rewrite.{rewritten}
use Rattle.merging.proofs.Rounds.{round_merges}
use Rattle.histories.specs.Histories.{HasGrown}
use Rattle.transfer.proofs.Pairing.{in_order}
use Rattle.histories.proofs.Growing.{kept}
use Rattle.histories.proofs.Merely.{fitting_of, next_grown}
use Rattle.stages.specs.Stages.{Ready}

-- a node has the lowest number of its members
node_low : (m : Model) (w : Working) → HasGrown w → (v : ℕ) → node_at (round_of m w).graph v ≤ v
unfolding round_of round
node_low m w h v =
    ∥∥₁_elim h le_prop (λ t.
    let k = kept t.0 t.1 w t.2 in
    let (names, alike) = in_order w k.start k.standing in
    (round_merges m w.source.vars w.classes (unspilled w) w.rows names alike).0.lowest v v refl)

pub ready_of : (m : Model) (w : Working) → HasGrown w → Lawful m → Ready m w
ready_of m w h l = record {
  fits = fitting_of w h;
  then = λ e. fitting_of (rewritten w (round_of m w)) (next_grown m w h l e);
  nodes = λ v lt. omega (arith, node_low m w h v, (fitting_of w h).above);
}
