-- Registers given by a round that colours are apart where they must be.
use Rattle.std.proofs.Common.{◌≡◌, ℕ, zero, suc, ◌+◌, ◌<◌, ◌≤◌, Bool, true, false, cond, not, ◌&&◌, ◌||◌, eqb, ltb, ◌⊎◌, List, [], ◌∷◌, map, length, get_or, sym, refl, ap, ◌∙◌, subst, inl, inr, arith}
use Rattle.std.proofs.lemmas.List.{get_or-map, get_or_default}
use Rattle.std.proofs.lemmas.Bool.{cases_Bool, cases_eq, both_ways, or_cases, and_from, and_parts, eq-eqb, eqb-true}
use Rattle.sets.specs.Sets.{has}
use Rattle.rows.specs.declared.Op.{Op}
use Rattle.rows.specs.declared.Op.TheVariants.{Copy}
use Rattle.rows.specs.declared.Row.{Row}
use Rattle.rows.specs.Rows.{shape, only, copies, reads, row_at}
use Rattle.facts.specs.Flow.{holds}
use Rattle.registers.specs.Model.{Model}
use Rattle.rounds.specs.Liveness.{live_after}
use Rattle.rounds.specs.Interference.{Graph, neighbours, class_at, node_at, interference}
use Rattle.rounds.specs.Select.{register_of}
use Rattle.rounds.specs.Round.{Outcome, graph_of, round, colours}
use Rattle.compiling.specs.Working.{Working, unspilled, round_of}
use Rattle.compiling.specs.Emit.{idle, registers_of}
use Rattle.colouring.specs.Rounds.{Settled}
use Rattle.interfering.specs.Living.{read_at, written_at, lives_before, lives_after}
use Rattle.interfering.specs.Edges.{Names, copies_from}
use Rattle.interfering.proofs.Living.{after_each}
use Rattle.interfering.proofs.Edges.{live_node, written_node, interferes}
use Rattle.merging.specs.Merging.{Alike, Coalesces}
use Rattle.merging.proofs.Rounds.{copy_is, round_merges, no_hard_edge_inside, members_share}
use Rattle.simulation.specs.Static.{Apart}
use Rattle.assembling.specs.Assembling.{Classed, InOrder, RegistersApart}
use Rattle.assembling.proofs.Lively.{writes_d, goes_below, writing_falls}

-- what a copy reads is its a
pub copy_reads : (r : Row) (v : ℕ) → copies r.op ≡ true → holds (reads r) v ≡ true → v ≡ r.a
unfolding holds
copy_reads r v c h =
    let a : (shape r.op).a ≡ true = ap (λ (o : Op). (shape o).a) (copy_is r.op c) in
    let b : (shape r.op).b ≡ false = ap (λ (o : Op). (shape o).b) (copy_is r.op c) in
    let e : (eqb v r.a || false) ≡ true = rw (a, b) at h in
    elim (or_cases (eqb v r.a) false e) [ inl q ↦ eqb-true v r.a q | inr q ↦ absurd (both_ways false refl q) ]

module _ (m : Model) (vars : ℕ) (classes : List ℕ) (nodes : ℕ) (rows : List Row) (names : Names classes nodes rows) (alike : Alike classes rows) (classed : Classed classes rows)
    (o : Outcome) (is-graph : o.graph ≡ graph_of m vars classes nodes rows) (settled : Settled m vars o) (done : colours o ≡ true) where
  abbrev g : Graph
  g = graph_of m vars classes nodes rows

  abbrev reg : ℕ → ℕ
  reg v = get_or (registers_of o) v 0

  merges : Coalesces vars (interference classes nodes rows (live_after rows)) g
  merges = (round_merges m vars classes nodes rows names alike).0

  classes_same : g.classes ≡ classes
  unfolding interference
  classes_same = merges.classes

  node_node : (v : ℕ) → has nodes v ≡ true → has g.nodes (node_at g v) ≡ true
  unfolding interference
  node_node v h = merges.member v h

  -- the register of a variable is that of its node
  reg_is : (v : ℕ) → has nodes v ≡ true → reg v ≡ register_of m o.registers (node_at g v)
  unfolding registers_of
  reg_is v h =
      let proper = (round_merges m vars classes nodes rows names alike).1 in
      let here : v < length g.node = omega (arith, names.below v h, proper.node_long, ap length classes_same) in
      let whole : length o.registers ≡ length g.classes = settled.separate.whole ∙ ap (λ (x : Graph). length x.classes) is-graph in
      let there : node_at g v < length o.registers = omega (arith, proper.below (node_at g v) (node_node v h), whole) in
      rw is-graph (get_or-map (λ (x : ℕ). get_or o.registers x 0) g.node v v 0 here) ∙ get_or_default o.registers (node_at g v) 0 m.count there

  apart_row : (i v : ℕ) → (shape (row_at rows i).op).d ≡ true → lives_before rows (suc i) v ≡ true → (v ≡ (row_at rows i).d → ⊥) →
      (m.overlaps (reg (row_at rows i).d) (reg v) ≡ false) ⊎ ((idle reg (row_at rows i) ≡ true) × (v ≡ (row_at rows i).a))
  apart_row i v sd live ne =
      let r = row_at rows i in
      let d = (row_at rows i).d in
      let w = writes_d rows i sd in
      let after : lives_after rows i v ≡ true = after_each rows i (suc i) v (goes_below rows i (writing_falls (row_at rows i).op sd)) live in
      let differ : d ≡ v → ⊥ = λ e. ne (sym e) in
      let reg-d = reg_is d (written_node classes nodes rows names i d w) in
      let reg-v = reg_is v (live_node classes nodes rows names i v after) in
      elim (cases_eq (node_at g d) (node_at g v)) [
        | inr apart ↦ (let edge = merges.edges.each (node_at g d) (node_at g v) apart (d, v, refl, refl, (interferes classes nodes rows names).edge_each d v (i, inl (w, after, differ))) in
            inl (rw (reg-d, reg-v) (settled.separate.apart (node_at g d) (node_at g v) (ap (λ (x : Graph). has (neighbours x (node_at g d)) (node_at g v)) is-graph ∙ edge))))
        | inl one ↦ elim (cases_Bool (copies_from rows i v)) [
          | inr c ↦ absurd (no_hard_edge_inside m vars classes nodes rows names alike d v one (i, inl ((w, after, differ), c)))
          | inl c ↦ (let (copy, read) = and_parts (copies r.op) (read_at rows i v) c in
              let is_a : v ≡ r.a = copy_reads r v copy read in
              let same : reg d ≡ reg v = reg-d ∙ ap (register_of m o.registers) one ∙ sym reg-v in
              inr (and_from (copies r.op) _ copy (eq-eqb _ _ (same ∙ ap reg is_a)), is_a))
        ]
      ]

  belongs_row : (i : ℕ) → (shape (row_at rows i).op).d ≡ true → m.belongs (reg (row_at rows i).d) (row_at rows i).dclass ≡ true
  belongs_row i sd =
      let d = (row_at rows i).d in
      let h = written_node classes nodes rows names i d (writes_d rows i sd) in
      let n = node_at g d in
      let small = settled.coloured done n (ap (λ (x : Graph). has x.nodes n) is-graph ∙ node_node d h) in
      let class : class_at o.graph n ≡ (row_at rows i).dclass = ap (λ (x : Graph). class_at x n) is-graph ∙ ap (λ (x : List ℕ). get_or x n 0) classes_same ∙ members_share m vars classes nodes rows names alike n d (merges.itself d) ∙ sym (classed i sd) in
      rw (reg_is d h, ← class) (settled.separate.fits n small)

  pub kept_apart : Apart m (row_at rows) (lives_before rows) reg
  kept_apart = record { apart = apart_row; belongs = belongs_row }

pub graph_of_lem : (m : Model) (w : Working) → (round_of m w).graph ≡ graph_of m w.source.vars w.classes (unspilled w) w.rows
unfolding round_of round
graph_of_lem m w = refl

pub registers_apart : RegistersApart
registers_apart m w ok done =
    kept_apart m w.source.vars w.classes (unspilled w) w.rows ok.names ok.alike ok.classed (round_of m w) (graph_of_lem m w) ok.settled done
