-- The parts of a round together are the round.
use Rattle.std.proofs.Common.{◌≡◌, ℕ, ◌<◌, ◌≤◌, not, ◌&&◌, ltb, List, map, length, take, ap, ◌∙◌, arith}
use Rattle.counting.specs.Counting.{range}
use Rattle.sets.specs.Sets.{has}
use Rattle.sets.specs.Words.{members}
use Rattle.rows.specs.declared.Row.{Row}
use Rattle.registers.specs.Model.{Model}
use Rattle.rounds.specs.declared.Removed.{Removed}
use Rattle.rounds.specs.Liveness.{live_after}
use Rattle.rounds.specs.Interference.{Graph, reasons, near, interference}
use Rattle.rounds.specs.Coalescing.{copies_in, coalesced}
use Rattle.rounds.specs.Select.{register_of, selected}
use Rattle.rounds.specs.Round.{those, graph_of, order_of, round, hoped_for}
use Rattle.graphs.specs.Graphs.{graph}
use Rattle.drafts.specs.declared.token.Colouring.{Colouring}
use Rattle.drafts.specs.Drafts.{Shows}

-- the merged graph of a round from its edges
pub graph_built : (m : Model) (vars : ℕ) (classes : List ℕ) (nodes : ℕ) (rows : List Row) (n e h : ℕ) (edges hard : List ℕ) (g : Graph) → n ≡ length classes → e ≡ n → h ≡ n →
    edges ≡ map (near (λ r. r.others) (reasons rows (live_after rows))) (range e 0) → hard ≡ map (near (λ r. r.hard) (reasons rows (live_after rows))) (range h 0) →
    g ≡ coalesced m (copies_in vars rows) vars (graph classes (range n 0) nodes edges hard) → g ≡ graph_of m vars classes nodes rows
unfolding graph_of interference
graph_built m vars classes nodes rows n e h edges hard g en ee eh es hs is = is ∙ rw (es, hs, ee, eh, en)

pub shown : (m : Model) (vars : ℕ) (classes : List ℕ) (nodes : ℕ) (rows : List Row) (n : ℕ) (c : Colouring) (g : Graph) (order : List Removed) → n ≡ length classes → n ≤ 448 →
    g ≡ graph_of m vars classes nodes rows → order ≡ order_of m vars rows g → take n c.node ≡ g.node → take n c.registers ≡ selected m g order →
    members c.spilled ≡ those (λ v. has g.nodes v && not (ltb (register_of m (take n c.registers) v) m.count)) n →
    ((v : ℕ) → v < 448 → has (members c.hoped) v ≡ hoped_for order v) → Shows n c (round m vars classes nodes rows)
unfolding round
shown m vars classes nodes rows n c g order en few eg eo node registers spilled hoped =
    let o : order ≡ order_of m vars rows (graph_of m vars classes nodes rows) = eo ∙ ap (order_of m vars rows) eg in
    let taken : take n c.registers ≡ selected m (graph_of m vars classes nodes rows) (order_of m vars rows (graph_of m vars classes nodes rows)) = registers ∙ rw (eg, o) in
    record {
      node = node ∙ ap (λ (g : Graph). g.node) eg;
      registers = taken;
      spilled = spilled ∙ rw (taken, eg, en);
      hoped = λ v l. hoped v (omega arith) ∙ ap (λ rs. hoped_for rs v) o;
    }
