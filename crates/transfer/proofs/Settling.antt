-- A round of a working program ends settled, and its nodes are quiet.
use Rattle.std.proofs.Common.{◌≡◌, ℕ, zero, suc, ◌+◌, ◌-◌, ◌<◌, ◌≤◌, Bool, true, false, cond, not, ◌&&◌, ◌||◌, eqb, ltb, ◌⊎◌, List, [], ◌∷◌, ◌++◌, map, length, get_or, replicate, sym, refl, ap, ◌∙◌, subst, inl, inr, arith}
use Rattle.std.proofs.lemmas.List.{get_or_past, get_or_append_left, get_or-append_right, get_or-map, length-map}
use Rattle.std.proofs.lemmas.Bool.{cases_Bool, cases_lt, both_ways, and_parts, and_from, lt-ltb, ltb-true, eqb-true, not_from_false}
use Rattle.sets.specs.Sets.{has}
use Rattle.rows.specs.Rows.{Program, row_at}
use Rattle.packing.specs.Inverse.{WellFormed}
use Rattle.registers.specs.Model.{Model, Lawful}
use Rattle.rounds.specs.Liveness.{live_after}
use Rattle.rounds.specs.Interference.{beside, neighbours, node_at, interference}
use Rattle.rounds.specs.Round.{Outcome, round}
use Rattle.compiling.specs.declared.Place.{Place}
use Rattle.compiling.specs.Working.{Working, spilled, no_place, admitted, unspilled, round_of}
use Rattle.compiling.specs.Spill.{spill_order}
use Rattle.compiling.specs.Rewrite.{class_in, all_replaced, rewritten}
use Rattle.interfering.specs.Edges.{Names, Hard}
use Rattle.interfering.proofs.Living.{reads_inside, writes_inside}
use Rattle.interfering.proofs.Edges.{interferes}
use Rattle.merging.proofs.Rounds.{no_hard_edge_inside}
use Rattle.colouring.specs.Rounds.{Settled}
use Rattle.colouring.proofs.Rounds.{paired_settles}
use Rattle.standing.specs.Standing.{Standing}
use Rattle.transfer.specs.Paired.{ThreeClasses, graph_before, graph_after}
use Rattle.transfer.specs.Transfer.{Unplaced}
use Rattle.transfer.specs.Settling.{ClassesStay, RoundsSettle, SharedNodesQuiet, GraphsAlike, EdgesTransfer}
use Rattle.transfer.proofs.Parts.{read_which, write_which}
use Rattle.transfer.proofs.Pairing.{node_has, names, alike, pairs}
use Rattle.transfer.proofs.Clashing.{near_into, near_back, hard_alike}

three_first : (p : Program) → WellFormed p → ThreeClasses (admitted p)
three_first p wf v = elim (cases_lt v p.vars) [
  | inl l ↦ omega (arith, wf.classes v l)
  | inr l ↦ rw (get_or_past p.classes v 0 (omega (arith, wf.each))) (omega arith)
]

three_more : (cs vs : List ℕ) → ((v : ℕ) → get_or cs v 0 < 3) → (v : ℕ) → get_or (cs ++ map (λ v. get_or cs v 0) vs) v 0 < 3
three_more cs vs h v = elim (cases_lt v (length cs)) [
  | inl l ↦ rw (get_or_append_left cs (map (λ v. get_or cs v 0) vs) 0 v l) (h v)
  | inr l ↦ rw (get_or-append_right cs (map (λ v. get_or cs v 0) vs) (length cs) v 0 refl l) (elim (cases_lt (v - length cs) (length vs)) [
    | inl k ↦ rw (get_or-map (λ v. get_or cs v 0) vs (v - length cs) 0 0 k) (h (get_or vs (v - length cs) 0))
    | inr k ↦ rw (get_or_past (map (λ v. get_or cs v 0) vs) (v - length cs) 0 (rw (length-map vs (λ v. get_or cs v 0)) k)) (omega arith)
  ])
]

three_later : (w : Working) (o : Outcome) → ThreeClasses w → ThreeClasses (rewritten w o)
unfolding rewritten
three_later w o h v = three_more w.classes (all_replaced (spill_order w o) w.rows) h v

pub classes_stay : ClassesStay
classes_stay = record { first = three_first; later = three_later }

pub rounds_settle : RoundsSettle
unfolding round_of round
rounds_settle m lawful w start st three =
    let p = pairs w start st m three in
    paired_settles m lawful w.source.vars w.classes (unspilled w) w.rows p.after_proper p.after

pub shared_nodes_quiet : SharedNodesQuiet
shared_nodes_quiet m w start st x y ux uy e h =
    no_hard_edge_inside m w.source.vars w.classes (unspilled w) w.rows (names w start st) (alike w start st) x y e ((hard_alike w start st x y ux uy).into h)

-- ---- the graph of the source's first round

pub open_place : (n v : ℕ) → get_or (replicate n no_place) v no_place ≡ no_place
open_place zero v = refl
open_place (suc n) zero = refl
open_place (suc n) (suc v) = open_place n v

module _ (p : Program) (wf : WellFormed p) where
  source_node : (v : ℕ) → v < p.vars → has (unspilled (admitted p)) v ≡ true
  source_node v l = node_has (admitted p) v ∙ and_from _ _ (lt-ltb v (length p.classes) (omega (arith, wf.each))) (not_from_false (spilled (replicate p.vars no_place) v) (rw (open_place p.vars v) refl))

  pub source_names : Names p.classes (unspilled (admitted p)) p.rows
  source_names = record {
    named = λ i v h. elim h [
      | inl r ↦ (let l = reads_inside p.rows i v r in elim (read_which (row_at p.rows i) v r) [ inl (x, e) ↦ rw e (source_node _ ((wf.rows i l).a.within x)) | inr (x, e) ↦ rw e (source_node _ ((wf.rows i l).b.within x)) ])
      | inr d ↦ (let l = writes_inside p.rows i v d in let (x, e) = write_which (row_at p.rows i) v d in rw e (source_node _ ((wf.rows i l).d.within x)))
    ];
    below = λ v h. ltb-true _ _ (and_parts (ltb v (length p.classes)) _ (sym (node_has (admitted p) v) ∙ h)).0;
  }

same_test : (s t : Bool) → (s ≡ true → t ≡ true) → (t ≡ true → s ≡ true) → s ≡ t
same_test s t f g = elim (cases_Bool s) [
  | inl e ↦ e ∙ sym (f e)
  | inr e ↦ elim (cases_Bool t) [ inl k ↦ absurd (both_ways _ e (g k)) | inr k ↦ e ∙ sym k ]
]

pub edges_transfer : EdgesTransfer
edges_transfer w start st x y ux uy =
    let a = interferes w.classes (unspilled w) w.rows (names w start st) in
    let b = interferes w.source.classes (unspilled (admitted w.source)) w.source.rows (source_names w.source st.well_formed) in
    record {
      edges = same_test _ _ (λ h. b.edge_each x y (near_back w start st x y ux uy (a.edge_only x y h))) (λ h. a.edge_each x y (near_into w start st x y ux uy (b.edge_only x y h)));
      hard = same_test _ _ (λ h. b.hard_each x y ((hard_alike w start st x y ux uy).back (a.hard_only x y h))) (λ h. a.hard_each x y ((hard_alike w start st x y ux uy).into (b.hard_only x y h)));
    }
